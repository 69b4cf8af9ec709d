-- Lines as they are printed: read again they are the E lines and the P lines of their sheet.
use mathlib.Core.Path.{◌≡◌, refl, ap, sym, ◌∙◌, subst}
use Prim.Native.Nat.{ℕ, ◌+◌, ◌≤◌, ◌<◌}
use native.Mathlib.Omega.{arith}
use native.Mathlib.Decide.{dec_lt}
use mathlib.Core.Bool.{Bool, true, false, not}
use mathlib.Core.Option.{some}
use mathlib.Core.List.{List, [], ◌∷◌, ◌++◌, append_assoc, append-nil, map}
use lib.Dec.{T, eqb}
use lib.ListN.{length, get_or, get_or-eq_default, drop, length-append}
use borrow.Author.Tests.{lt-ltb, le-ltb, le-leb}
use Rattle.plan.specs.declared.aexpr.AExpr.{AExpr}
use Rattle.plan.specs.Kinds.{aexprs, aexpr_number, ir_number}
use Rattle.plan.specs.Lists.{all?, concat_map, empty?, yes?, digit, same, sum}
use Rattle.plan.specs.Sheet.{Expr, Step, Sheet, Outcome, done, ◌then◌, parts, onto, numbers, E, P, lettered, line_of, read_line, read_lines, with_expr, with_step, expr_of, step_of, expr_fits, step_fits, in_expr_table, over_limits, expr_count}
use Rattle.plan.specs.Text.{decimal, line, expr_line, step_line}
use Rattle.plan.specs.Conditions.{InTable}
use Rattle.plan.proofs.Booleans.{and_both}
use Rattle.plan.proofs.FunctionOutput.{at_most_one}
use Rattle.writing.specs.Wrote.{field}
use Rattle.plan.proofs.KindNumbers.{aexpr_back}
use Rattle.plan.proofs.Conditions.{LineCame, line_comes}
use Rattle.plan.proofs.Without.{Without, without_all, without_decimal}
use Rattle.formula.proofs.PrintedNumbers.{only_part, first_part, AllBytes, numbers_decimals}

-- One line --------------------------------------------------------------------------------------------------------------------

-- a line without its byte 10
abbrev body : ℕ → List ℕ → List ℕ
body letter ns = letter ∷ concat_map field ns

comma_number : (c : ℕ) → T (not (eqb 44 c)) → ((d : ℕ) → d < 10 → 48 + d ≡ c → ⊥) → (n : ℕ) → Without c (field n)
unfolding all?
comma_number c t h n = and_both (not (eqb 44 c)) _ t (without_decimal c h n)

fields_without : (ns : List ℕ) → Without 10 (concat_map field ns)
fields_without ns = without_all 10 field (comma_number 10 tt (λ d h e. omega arith)) ns

-- its fields, x standing for what came before
fields_behind : (x ns : List ℕ) → Without 44 x → parts 44 (x ++ concat_map field ns) ≡ x ∷ map decimal ns
unfolding concat_map
fields_behind x [] t = ap (parts 44) (append-nil x) ∙ only_part 44 x t
fields_behind x (n ∷ ns) t =
    first_part 44 x (decimal n ++ concat_map field ns) t
    ∙ ap (λ (l : List (List ℕ)). x ∷ l) (fields_behind (decimal n) ns (without_decimal 44 (λ d h e. omega arith) n))

module _ (letter : ℕ) (ns : List ℕ) where
  body_without : T (not (eqb letter 10)) → Without 10 (body letter ns)
  unfolding all?
  body_without t = and_both (not (eqb letter 10)) _ t (fields_without ns)

  line_body : T (not (eqb letter 44)) → AllBytes ns → line_of (body letter ns) ≡ lettered (letter ∷ []) (some ns)
  unfolding line_of all?
  line_body t h =
      ap (λ (l : List (List ℕ)). lettered (get_or l 0 []) (numbers (drop 1 l)))
      (fields_behind (letter ∷ []) ns (and_both (not (eqb letter 44)) true t tt))
      ∙ ap (lettered (letter ∷ [])) (numbers_decimals ns h)

letter_E : (ns : List ℕ) → 4 ≤ length ns → lettered (69 ∷ []) (some ns) ≡ some (E ns)
unfolding lettered same
letter_E ns h = rw (le-leb 4 (length ns) h) refl

letter_P : (ns : List ℕ) → 7 ≤ length ns → lettered (80 ∷ []) (some ns) ≡ some (P ns)
unfolding lettered same
letter_P ns h = rw (le-leb 7 (length ns) h) refl

onto_there : (x : ℕ) (ps : List (List ℕ)) → empty? (onto x ps) ≡ false
onto_there x [] = refl
onto_there x (p ∷ ps) = refl

parts_there : (c : ℕ) (s : List ℕ) → empty? (parts c s) ≡ false
unfolding parts
parts_there c [] = refl
parts_there c (x ∷ s) = by (eqb x c) refl
  where
    by : (b : Bool) → eqb x c ≡ b → empty? (parts c (x ∷ s)) ≡ false
    by true e = rw (parts, e)
    by false e = rw (parts, e) (onto_there x (parts c s))

line_first : (l : List ℕ) (ls : List (List ℕ)) (sh : Sheet) → empty? ls ≡ false
    → read_lines (l ∷ ls) sh ≡ (read_line (line_of l) sh then λ x. read_lines ls x)
unfolding read_lines
line_first l [] sh h = absurd (cc)
line_first l (l' ∷ ls) sh h = refl

-- a line at the front that is read into the sheet
read_on : (letter : ℕ) (ns y : List ℕ) (sh sh' : Sheet) → T (not (eqb letter 10)) → read_line (line_of (body letter ns)) sh ≡ done sh'
    → read_lines (parts 10 (line letter ns ++ y)) sh ≡ read_lines (parts 10 y) sh'
unfolding line ◌then◌
read_on letter ns y sh sh' t e =
    let b : List ℕ = body letter ns in
    ap (λ (l : List ℕ). read_lines (parts 10 l) sh) (append_assoc b (10 ∷ []) y)
    ∙ ap (λ (l : List (List ℕ)). read_lines l sh) (first_part 10 b y (body_without letter ns t))
    ∙ line_first b (parts 10 y) sh (parts_there 10 y)
    ∙ ap (λ (o : Outcome Sheet). o then λ x. read_lines (parts 10 y) x) e

pub within : (sh : Sheet) → length sh.steps ≤ 32 → expr_count sh ≤ 128 → T (not (over_limits sh))
unfolding over_limits
within sh h k = rw (le-ltb 32 (length sh.steps) h, le-ltb 128 (expr_count sh) k) tt

-- E lines ---------------------------------------------------------------------------------------------------------------------

abbrev row : Expr → List ℕ
row e = aexpr_number e.kind ∷ digit e.scalar ∷ digit e.length_preserving ∷ e.option ∷ e.children

digit_back : (b : Bool) → yes? (digit b) ≡ b
digit_back true = refl
digit_back false = refl

expr_back : (e : Expr) → expr_of (row e) ≡ e
unfolding expr_of
expr_back e =
    λ i.
    record {
      kind = aexpr_back e.kind i;
      scalar = digit_back e.scalar i;
      length_preserving = digit_back e.length_preserving i;
      option = e.option;
      children = e.children;
    }

-- past the table stands the first kind
kind_listed : (k : AExpr) → aexpr_number k < 25
kind_listed k = by (dec_lt (aexpr_number k) 25)
  where
    by : Dec (aexpr_number k < 25) → aexpr_number k < 25
    by (yes h) = h
    by (no h) =
        let e = ap aexpr_number (sym (aexpr_back k) ∙ get_or-eq_default aexprs AExpr.Column {n = aexpr_number k} (omega arith)) in
        omega (arith, e)

-- an E line that may stand on a sheet
pub record Readable (e : Expr) : Type 0 where
  pub table : T (in_expr_table e)
  pub option : e.option ≤ 255
  pub children : AllBytes e.children

module _ (e : Expr) (r : Readable e) where
  row_bytes : AllBytes (row e)
  unfolding all?
  row_bytes =
      rw (
        le-leb (aexpr_number e.kind) 255 (omega (arith, kind_listed e.kind)),
        le-leb (digit e.scalar) 255 (omega (arith, at_most_one e.scalar)),
        le-leb (digit e.length_preserving) 255 (omega (arith, at_most_one e.length_preserving)),
        le-leb e.option 255 r.option,
      )
      r.children

  row_fits : T (expr_fits (row e))
  unfolding expr_fits
  row_fits =
      rw (
        lt-ltb (aexpr_number e.kind) 25 (kind_listed e.kind),
        le-leb (digit e.scalar) 1 (at_most_one e.scalar),
        le-leb (digit e.length_preserving) 1 (at_most_one e.length_preserving),
        expr_back e,
      )
      r.table

  row_line : line_of (body 69 (row e)) ≡ some (E (row e))
  row_line = line_body 69 (row e) tt row_bytes ∙ letter_E (row e) (omega arith)

abbrev exprs_only : List Expr → Sheet
exprs_only es = record { exprs = es; steps = [] }

read_expr : (e : Expr) (es : List Expr) → Readable e → length es < 128
    → read_line (line_of (body 69 (row e))) (exprs_only es) ≡ done (exprs_only (es ++ (e ∷ [])))
unfolding with_expr expr_count sum
read_expr e es r h =
    let one : List Expr = expr_of (row e) ∷ [] in
    let small = within (exprs_only (es ++ one)) (omega arith) (omega (arith, length-append es one)) in
    line_comes (LineCame.read (InTable.expr (row_line e r) tt (row_fits e r)) small)
    ∙ ap (λ (x : Expr). done (exprs_only (es ++ (x ∷ [])))) (expr_back e)

abbrev pub AllReadable : List Expr → Type 0
AllReadable [] = Unit {0}
AllReadable (e ∷ es) = Readable e × AllReadable es

pub read_exprs : (es before : List Expr) (y : List ℕ) → AllReadable es → length before + length es ≤ 128
    → read_lines (parts 10 (concat_map expr_line es ++ y)) (exprs_only before) ≡ read_lines (parts 10 y) (exprs_only (before ++ es))
unfolding concat_map expr_line
read_exprs [] before y r h = ap (λ (l : List Expr). read_lines (parts 10 y) (exprs_only l)) (sym (append-nil before))
read_exprs (e ∷ es) before y r h =
    ap (λ (l : List ℕ). read_lines (parts 10 l) (exprs_only before)) (append_assoc (expr_line e) (concat_map expr_line es) y)
    ∙ read_on 69 (row e) (concat_map expr_line es ++ y) (exprs_only before) _ tt (read_expr e before r.0 (omega arith))
    ∙ read_exprs es (before ++ (e ∷ [])) y r.1 (omega (arith, length-append before (e ∷ [])))
    ∙ ap (λ (l : List Expr). read_lines (parts 10 y) (exprs_only l)) (append_assoc before (e ∷ []) es)

-- P lines ---------------------------------------------------------------------------------------------------------------------

abbrev step_row : Step → List ℕ
step_row s =
    ir_number s.kind ∷ s.a ∷ s.b ∷ s.c ∷ length s.inputs ∷ length s.exprs ∷ length s.aggs ∷ (s.inputs ++ s.exprs ++ s.aggs)

pub record ReadableStep (s : Step) : Type 0 where
  pub bytes : AllBytes (step_row s)
  pub back : step_of (step_row s) ≡ s
  pub fits : T (step_fits (step_row s))

pub read_step : (s : Step) (sh : Sheet) (y : List ℕ) → ReadableStep s → T (not (over_limits (with_step s sh)))
    → read_lines (parts 10 (step_line s ++ y)) sh ≡ read_lines (parts 10 y) (with_step s sh)
unfolding step_line
read_step s sh y r w =
    let is = line_body 80 (step_row s) tt r.bytes ∙ letter_P (step_row s) (omega arith) in
    let small = subst (λ (x : Step). T (not (over_limits (with_step x sh)))) (sym r.back) w in
    read_on 80 (step_row s) y sh (with_step s sh) tt
    (line_comes (LineCame.read (InTable.step is r.fits) small) ∙ ap (λ (x : Step). done (with_step x sh)) r.back)
