-- What a line that was read comes to.
use Rattle.std.specs.Prelude.{if◌then◌else◌}
use mathlib.Core.Path.{◌≡◌, refl, sym, ap, ◌∙◌}
use mathlib.Core.Bool.{Bool, true, false, ◌&&◌, ◌||◌, not}
use mathlib.Core.List.{List, [], ◌∷◌, ◌++◌}
use mathlib.Core.Option.{Option, none, some}
use Prim.Native.Nat.{ℕ, zero, suc, ◌+◌, ◌*◌, ◌-◌, ◌<◌, ◌≤◌}
use native.Mathlib.Numerals.{add-one}
use native.Mathlib.Omega.{arith}
use lib.Dec.{eqb, ltb, leb}
use lib.ListN.{length, get_or, take, drop, set, length-drop, length-append}
use lib.Seq.{ext_get_or, get_or-take, length-take-le}
use borrow.Author.Tests.{ltb-true, leb-true, eqb-true, lt-ltb, le-ltb, le-leb, lt-leb}
use Rattle.plan.specs.declared.ir.IR.{IR}
use Rattle.plan.specs.Kinds.{aexpr_number, ir, ir_number, same_ir}
use Rattle.plan.proofs.KindNumbers.{aexpr_there, ir_there}
use Rattle.plan.specs.Lists.{sum, empty?, same}
use Rattle.plan.specs.Sheet.{Expr, Step, Sheet, E, P, refused, done, refuse◌when◌else◌, lettered, expr_of, step_of, expr_fits, step_fits, in_expr_table, in_step_table, expr_count, over_limits, with_expr, with_step, read_line}
use Rattle.storage.specs.Stored.{stored_exprs, stored_steps, table}
use Rattle.storage.proofs.Laws.{length_exprs, length_steps}
use Rattle.storage.proofs.Changes.{step_take}
use Rattle.reading.specs.Line.{line, ended, numbers_after, numbers_of, Kept, AllRead}
use Rattle.reading.specs.Tables.{row, expr_kind_fits, expr_numbers_fit, step_kind_fits, step_numbers_fit, most_a, most_b, most_c, inputs, exprs, most_aggs, FewEntries}
use Rattle.reading.specs.Lines.{pasted, sheet_of, agg_entries, aggs_of, Sound}
use Rattle.reading.specs.Taken.{LineTaken}
use Rattle.reading.specs.declared.line.Numbers.{Numbers}
use Rattle.reading.specs.declared.lines.LineCounts.{LineCounts}
use Rattle.reading.proofs.Stores.{more_exprs, exprs_formed, more_steps, steps_formed}

-- The tables by a line's numbers ---------------------------------------------------------------------------------------------

and_same : (a : Bool) {x y : Bool} → (a ≡ true → x ≡ y) → (a && x) ≡ (a && y)
and_same true h = h refl
and_same false h = refl

row_grouped : (a b c d : Bool) → (a && b && c && d) ≡ (a && (b && c) && d)
row_grouped true true c d = refl
row_grouped true false c d = refl
row_grouped false b c d = refl

in_row : (e : Expr) (k : ℕ) → aexpr_number e.kind ≡ k → in_expr_table e ≡ expr_kind_fits k e.option (length e.children)
unfolding in_expr_table expr_kind_fits row
in_row e k h =
    rw (in_expr_table, h)
    (row_grouped (leb e.option (row k).option) (leb (row k).children.least (length e.children)) (leb (length e.children) (row k).children.most) _)

-- of tests joined from the left
pub first_holds : (a b c : Bool) → (a && b && c) ≡ true → a ≡ true
first_holds true b c h = refl
first_holds false b c h = h

pub expr_fits_is : (ns : List ℕ) → expr_fits ns ≡ expr_numbers_fit (get_or ns 0 0) (get_or ns 1 0) (get_or ns 2 0) (get_or ns 3 0) (length ns - 4)
unfolding expr_fits expr_numbers_fit expr_of
expr_fits_is ns =
    and_same (ltb (get_or ns 0 0) 25 && leb (get_or ns 1 0) 1 && leb (get_or ns 2 0) 1)
    (λ h. in_row (expr_of ns) (get_or ns 0 0) (aexpr_there (get_or ns 0 0) (ltb-true (get_or ns 0 0) 25 (first_holds (ltb (get_or ns 0 0) 25) _ _ h))) ∙ rw (length-drop 4 ns))

regroup : (a b c d e f g h i : Bool) → (a && b && c && d && e && f && g && h && i) ≡ ((a && b && c) && ((d && e) && (f && g) && h) && i)
regroup true true true true true true true h i = refl
regroup false b c d e f g h i = refl
regroup true false c d e f g h i = refl
regroup true true false d e f g h i = refl
regroup true true true false e f g h i = refl
regroup true true true true false f g h i = refl
regroup true true true true true false g h i = refl
regroup true true true true true true false h i = refl

in_step_row : (s : Step) (k n1 n2 n3 : ℕ) → ir_number s.kind ≡ k → length s.inputs ≡ n1 → length s.exprs ≡ n2 → length s.aggs ≡ n3
    → in_step_table s ≡ step_kind_fits k s.a s.b s.c n1 n2 n3
unfolding in_step_table step_kind_fits most_a most_b most_c inputs exprs most_aggs
in_step_row s k n1 n2 n3 e f g h =
    rw (in_step_table, e, f, g, h)
    (regroup (leb s.a (most_a k)) (leb s.b (most_b k)) (leb s.c (most_c k)) (leb (inputs k).least n1) (leb n1 (inputs k).most) (leb (exprs k).least n2) (leb n2 (exprs k).most) (leb n3 (most_aggs k)) (not (eqb k 2 && eqb s.b 0) || eqb n2 0))

-- the three lists of a step whose counts add up
module _ (ns : List ℕ) (h : length ns ≡ 7 + get_or ns 4 0 + get_or ns 5 0 + get_or ns 6 0) where
  taken_length : (a k : ℕ) → 7 + a + k ≤ length ns → length (take k (drop a (drop 7 ns))) ≡ k
  taken_length a k l = length-take-le k (drop a (drop 7 ns)) (omega (arith, length-drop a (drop 7 ns), length-drop 7 ns))

  inputs_length : length (step_of ns).inputs ≡ get_or ns 4 0
  unfolding step_of
  inputs_length = taken_length 0 (get_or ns 4 0) (omega arith)

  exprs_length : length (step_of ns).exprs ≡ get_or ns 5 0
  unfolding step_of
  exprs_length = taken_length (get_or ns 4 0) (get_or ns 5 0) (omega arith)

  pub aggs_length : length (step_of ns).aggs ≡ get_or ns 6 0
  unfolding step_of
  aggs_length = taken_length (get_or ns 4 0 + get_or ns 5 0) (get_or ns 6 0) (omega arith)

pub step_fits_is : (ns : List ℕ) → step_fits ns ≡ step_numbers_fit (get_or ns 0 0) (get_or ns 1 0) (get_or ns 2 0) (get_or ns 3 0) (get_or ns 4 0) (get_or ns 5 0) (get_or ns 6 0) (length ns)
unfolding step_fits step_numbers_fit step_of
step_fits_is ns = by (ltb (get_or ns 0 0) 19) (eqb (length ns) (7 + get_or ns 4 0 + get_or ns 5 0 + get_or ns 6 0)) refl refl
  where
    by : (a b : Bool) → ltb (get_or ns 0 0) 19 ≡ a → eqb (length ns) (7 + get_or ns 4 0 + get_or ns 5 0 + get_or ns 6 0) ≡ b
        → step_fits ns ≡ step_numbers_fit (get_or ns 0 0) (get_or ns 1 0) (get_or ns 2 0) (get_or ns 3 0) (get_or ns 4 0) (get_or ns 5 0) (get_or ns 6 0) (length ns)
    by false b e f = rw (step_fits, step_numbers_fit, e)
    by true false e f = rw (step_fits, step_numbers_fit, e, f)
    by true true e f =
        let s = eqb-true (length ns) (7 + get_or ns 4 0 + get_or ns 5 0 + get_or ns 6 0) f in
        rw (step_fits, step_numbers_fit, e, f)
        (in_step_row (step_of ns) (get_or ns 0 0) (get_or ns 4 0) (get_or ns 5 0) (get_or ns 6 0) (ir_there (get_or ns 0 0) (ltb-true (get_or ns 0 0) 19 e))
        (inputs_length ns s) (exprs_length ns s) (aggs_length ns s))

-- what a line that fits is known to have
pub fit_expr : (k s l a n : ℕ) → expr_numbers_fit k s l a n ≡ true → (k < 25) × ((s ≤ 1) × (l ≤ 1))
unfolding expr_numbers_fit
fit_expr k s l a n h = by (ltb k 25) (leb s 1) (leb l 1) _ refl refl refl h
  where
    by : (p q r x : Bool) → ltb k 25 ≡ p → leb s 1 ≡ q → leb l 1 ≡ r → (p && q && r && x) ≡ true → (k < 25) × ((s ≤ 1) × (l ≤ 1))
    by true true true x d e f g = (ltb-true k 25 d, (leb-true s 1 e, leb-true l 1 f))
    by true true false x d e f g = absurd (cc)
    by true false r x d e f g = absurd (cc)
    by false q r x d e f g = absurd (cc)

pub fit_kind : (k a b c n1 n2 n3 n : ℕ) → step_numbers_fit k a b c n1 n2 n3 n ≡ true → (k < 19) × (n ≡ 7 + n1 + n2 + n3)
unfolding step_numbers_fit
fit_kind k a b c n1 n2 n3 n h = by (ltb k 19) (eqb n (7 + n1 + n2 + n3)) _ refl refl h
  where
    by : (p q x : Bool) → ltb k 19 ≡ p → eqb n (7 + n1 + n2 + n3) ≡ q → (p && q && x) ≡ true → (k < 19) × (n ≡ 7 + n1 + n2 + n3)
    by true true x e f g = (ltb-true k 19 e, eqb-true n (7 + n1 + n2 + n3) f)
    by true false x e f g = absurd (cc)
    by false q x e f g = absurd (cc)

-- The letter and the count of numbers ----------------------------------------------------------------------------------------

pub few_E : (ns : List ℕ) → length ns < 4 → lettered (69 ∷ []) (some ns) ≡ none
unfolding lettered same
few_E ns h = rw (lt-leb 4 (length ns) h)

pub line_E : (ns : List ℕ) → 4 ≤ length ns → lettered (69 ∷ []) (some ns) ≡ some (E ns)
unfolding lettered same
line_E ns h = rw (le-leb 4 (length ns) h)

pub few_P : (ns : List ℕ) → length ns < 7 → lettered (80 ∷ []) (some ns) ≡ none
unfolding lettered same
few_P ns h = rw (lt-leb 7 (length ns) h)

pub line_P : (ns : List ℕ) → 7 ≤ length ns → lettered (80 ∷ []) (some ns) ≡ some (P ns)
unfolding lettered same
line_P ns h = rw (le-leb 7 (length ns) h)

no_line : (sh : Sheet) → read_line none sh ≡ refused 3
unfolding read_line
no_line sh = refl

module _ (letter : List ℕ) (o : Option (List ℕ)) (sh : Sheet) where
  pub not_numbers : o ≡ none → read_line (lettered letter o) sh ≡ refused 3
  unfolding lettered
  not_numbers e = rw e (no_line sh)

  pub too_few : lettered letter o ≡ none → read_line (lettered letter o) sh ≡ refused 3
  too_few e = rw e (no_line sh)

-- The ways of an E line ------------------------------------------------------------------------------------------------------

module _ (ns : List ℕ) (sh : Sheet) where
  pub after_steps : empty? sh.steps ≡ false → read_line (some (E ns)) sh ≡ refused 3
  unfolding read_line refuse◌when◌else◌
  after_steps h = rw (read_line, h)

  module _ (h : empty? sh.steps ≡ true) where
    pub expr_not : expr_fits ns ≡ false → read_line (some (E ns)) sh ≡ refused 4
    unfolding read_line refuse◌when◌else◌
    expr_not k = rw (read_line, h, k)

    module _ (k : expr_fits ns ≡ true) where
      pub expr_over : over_limits (with_expr (expr_of ns) sh) ≡ true → read_line (some (E ns)) sh ≡ refused 5
      unfolding read_line refuse◌when◌else◌
      expr_over l = rw (read_line, h, k, l)

      pub expr_in : over_limits (with_expr (expr_of ns) sh) ≡ false → read_line (some (E ns)) sh ≡ done (with_expr (expr_of ns) sh)
      unfolding read_line refuse◌when◌else◌
      expr_in l = rw (read_line, h, k, l)

  pub step_not : step_fits ns ≡ false → read_line (some (P ns)) sh ≡ refused 4
  unfolding read_line refuse◌when◌else◌
  step_not k = rw (read_line, k)

  module _ (k : step_fits ns ≡ true) where
    pub step_over : over_limits (with_step (step_of ns) sh) ≡ true → read_line (some (P ns)) sh ≡ refused 5
    unfolding read_line refuse◌when◌else◌
    step_over l = rw (read_line, k, l)

    pub step_in : over_limits (with_step (step_of ns) sh) ≡ false → read_line (some (P ns)) sh ≡ done (with_step (step_of ns) sh)
    unfolding read_line refuse◌when◌else◌
    step_in l = rw (read_line, k, l)

-- The limits -----------------------------------------------------------------------------------------------------------------

unfoldable pub entries : Step → ℕ
entries s = if same_ir s.kind IR.GroupBy then length s.aggs else 0

agg_more : (ss : List Step) (s : Step) → agg_entries (ss ++ (s ∷ [])) ≡ agg_entries ss + entries s
unfolding agg_entries sum entries
agg_more [] s = omega arith
agg_more (x ∷ ss) s = ap (λ n. entries x + n) (agg_more ss s) ∙ omega arith

-- its length, and its entries that count
sizes : (sh : Sheet) (n m : ℕ) → length sh.exprs + agg_entries sh.steps ≡ n → length sh.steps ≡ m → over_limits sh ≡ (ltb 32 m || ltb 128 n)
unfolding over_limits expr_count agg_entries
sizes sh n m e f = rw (over_limits, expr_count, f, e)

pub no_steps : (ps : List ℕ) (n : ℕ) → n ≡ 0 → stored_steps ps n ≡ []
unfolding stored_steps table
no_steps ps n e = rw e

pub some_steps : (ps : List ℕ) (n : ℕ) → (n ≡ 0 → ⊥) → empty? (stored_steps ps n) ≡ false
unfolding stored_steps table
some_steps ps zero h = absurd (h refl)
some_steps ps (suc n) h = refl

or_right : (a : Bool) {b : Bool} → b ≡ true → (a || b) ≡ true
or_right true e = refl
or_right false e = e

or_both : (a b : Bool) → a ≡ false → b ≡ false → (a || b) ≡ false
or_both true b e f = e
or_both false b e f = f

or_first : (a b : Bool) → a ≡ true → (a || b) ≡ true
or_first true b e = refl
or_first false b e = absurd (cc)

module _ (es ps : List ℕ) (t : LineCounts) (snd : Sound es ps t) where
  abbrev sh : Sheet
  sh = sheet_of es ps t

  expr_sizes : (e : Expr) → over_limits (with_expr e sh) ≡ (ltb 32 t.steps || ltb 128 (t.exprs + 1 + t.aggs))
  unfolding with_expr
  expr_sizes e =
      sizes (with_expr e sh) (t.exprs + 1 + t.aggs) t.steps
      (omega (arith, length-append (stored_exprs es t.exprs) (e ∷ []), length_exprs es t.exprs, snd.aggs)) (length_steps ps t.steps)

  step_sizes : (s : Step) → over_limits (with_step s sh) ≡ (ltb 32 (t.steps + 1) || ltb 128 (t.exprs + (t.aggs + entries s)))
  unfolding with_step
  step_sizes s =
      sizes (with_step s sh) (t.exprs + (t.aggs + entries s)) (t.steps + 1)
      (omega (arith, length_exprs es t.exprs, agg_more (stored_steps ps t.steps) s, snd.aggs))
      (length-append (stored_steps ps t.steps) (s ∷ []) ∙ ap (λ n. n + 1) (length_steps ps t.steps))

  pub none_before : t.steps ≡ 0 → empty? sh.steps ≡ true
  none_before h = rw (no_steps ps t.steps h)

  pub some_before : (t.steps ≡ 0 → ⊥) → empty? sh.steps ≡ false
  some_before h = some_steps ps t.steps h

  pub full_exprs : (e : Expr) → 128 ≤ t.exprs → over_limits (with_expr e sh) ≡ true
  full_exprs e h = expr_sizes e ∙ or_right (ltb 32 t.steps) (lt-ltb 128 (t.exprs + 1 + t.aggs) (omega arith))

  no_aggs : t.steps ≡ 0 → t.aggs ≡ 0
  unfolding agg_entries sum
  no_aggs h = snd.aggs ∙ ap agg_entries (no_steps ps t.steps h)

  pub room_exprs : (e : Expr) → t.steps ≡ 0 → t.exprs < 128 → over_limits (with_expr e sh) ≡ false
  room_exprs e z h =
      expr_sizes e
      ∙ or_both (ltb 32 t.steps) (ltb 128 (t.exprs + 1 + t.aggs)) (le-ltb 32 t.steps (omega arith))
      (le-ltb 128 (t.exprs + 1 + t.aggs) (let a = no_aggs z in omega arith))

  pub full_steps : (s : Step) → 32 ≤ t.steps → over_limits (with_step s sh) ≡ true
  full_steps s h = step_sizes s ∙ or_first (ltb 32 (t.steps + 1)) (ltb 128 (t.exprs + (t.aggs + entries s))) (lt-ltb 32 (t.steps + 1) (omega arith))

  pub full_aggs : (s : Step) → 128 < t.exprs + (t.aggs + entries s) → over_limits (with_step s sh) ≡ true
  full_aggs s h = step_sizes s ∙ or_right (ltb 32 (t.steps + 1)) (lt-ltb 128 (t.exprs + (t.aggs + entries s)) h)

  pub room_steps : (s : Step) → t.steps < 32 → t.exprs + (t.aggs + entries s) ≤ 128 → over_limits (with_step s sh) ≡ false
  room_steps s h k =
      step_sizes s
      ∙ or_both (ltb 32 (t.steps + 1)) (ltb 128 (t.exprs + (t.aggs + entries s))) (le-ltb 32 (t.steps + 1) (omega arith))
      (le-ltb 128 (t.exprs + (t.aggs + entries s)) k)

-- A line whose numbers were read ---------------------------------------------------------------------------------------------

-- all of them are kept, if there are no more than 31
kept_all : (ns v : List ℕ) → Kept ns v → length ns ≤ 31 → take (length ns) v ≡ ns
kept_all ns v k h =
    let e = length-take-le (length ns) v (let z = k.size in omega arith) in
    ext_get_or 0 (take (length ns) v) ns e
    (λ i l. get_or-take (length ns) v i 0 (omega arith) ∙ k.first i (omega arith) (omega arith))

is_ended : (s ns : List ℕ) → numbers_of s ≡ some ns → ended s ≡ true
unfolding numbers_of
is_ended s ns e = by (ended s) e
  where
    by : (b : Bool) → (if b then numbers_after (line s) else none) ≡ some ns → b ≡ true
    by true e = refl
    by false e = absurd (cc)

ended_after : (x : ℕ) (s : List ℕ) → eqb x 10 ≡ false → ended (x ∷ s) ≡ ended s
unfolding ended
ended_after x s h = rw (ended, h)

longer : (x : ℕ) (s : List ℕ) → eqb x 10 ≡ false → length (line (x ∷ s)) ≡ suc (length (line s))
unfolding line
longer x s h = rw (line, h)

line_step : (x : ℕ) (s : List ℕ) (b : Bool) → eqb x 10 ≡ b → length (line s) ≤ length s → length (line (x ∷ s)) ≤ suc (length s)
unfolding line
line_step x s true e h = rw (line, e) (omega arith)
line_step x s false e h = rw (line, e) (omega arith)

pub line_length : (s : List ℕ) → length (line s) ≤ length s
unfolding line
line_length [] = omega arith
line_length (x ∷ s) = line_step x s (eqb x 10) refl (line_length s)

module _ (s : List ℕ) (len : ℕ) (f : Numbers) (A : AllRead s len f) where
  abbrev v : List ℕ
  v = f.kept

  first_kept : (i : ℕ) → i < 31 → i < f.count → get_or v i 0 ≡ get_or A.list i 0
  first_kept i h l = A.kept.first i h (let z = A.count in omega arith)

  pub E_few : f.count < 4 → (sh : Sheet) → read_line (lettered (69 ∷ []) (numbers_of s)) sh ≡ refused 3
  E_few h sh = too_few (69 ∷ []) (numbers_of s) sh (ap (lettered (69 ∷ [])) A.are ∙ few_E A.list (let z = A.count in omega arith))

  pub P_few : f.count < 7 → (sh : Sheet) → read_line (lettered (80 ∷ []) (numbers_of s)) sh ≡ refused 3
  P_few h sh = too_few (80 ∷ []) (numbers_of s) sh (ap (lettered (80 ∷ [])) A.are ∙ few_P A.list (let z = A.count in omega arith))

  module _ (h : 4 ≤ f.count) where
    E_is : lettered (69 ∷ []) (numbers_of s) ≡ some (E A.list)
    E_is = ap (lettered (69 ∷ [])) A.are ∙ line_E A.list (let z = A.count in omega arith)

    E_fits : {r : Bool} → r ≡ expr_numbers_fit (get_or v 0 0) (get_or v 1 0) (get_or v 2 0) (get_or v 3 0) (f.count - 4) → expr_fits A.list ≡ r
    E_fits e =
        expr_fits_is A.list
        ∙ rw (← first_kept 0 (omega arith) (omega arith), ← first_kept 1 (omega arith) (omega arith), ← first_kept 2 (omega arith) (omega arith), ← first_kept 3 (omega arith) (omega arith), ← A.count) (sym e)

    module _ (es ps : List ℕ) (t : LineCounts) (snd : Sound es ps t) where
      pub E_late : (t.steps ≡ 0 → ⊥) → read_line (lettered (69 ∷ []) (numbers_of s)) (sheet_of es ps t) ≡ refused 3
      E_late k = ap (λ o. read_line o (sheet_of es ps t)) E_is ∙ after_steps A.list (sheet_of es ps t) (some_before es ps t snd k)

      module _ (k : t.steps ≡ 0) (r : Bool) (e : r ≡ expr_numbers_fit (get_or v 0 0) (get_or v 1 0) (get_or v 2 0) (get_or v 3 0) (f.count - 4)) where
        pub E_not : r ≡ false → read_line (lettered (69 ∷ []) (numbers_of s)) (sheet_of es ps t) ≡ refused 4
        E_not n = ap (λ o. read_line o (sheet_of es ps t)) E_is ∙ expr_not A.list (sheet_of es ps t) (none_before es ps t snd k) (E_fits e ∙ n)

        module _ (y : r ≡ true) where
          pub E_full : 128 ≤ t.exprs → read_line (lettered (69 ∷ []) (numbers_of s)) (sheet_of es ps t) ≡ refused 5
          E_full n = ap (λ o. read_line o (sheet_of es ps t)) E_is ∙ expr_over A.list (sheet_of es ps t) (none_before es ps t snd k) (E_fits e ∙ y) (full_exprs es ps t snd (expr_of A.list) n)

          module _ (es' : List ℕ) (n : t.exprs < 128) (c : f.count - 4 ≤ 8) (l : length es ≡ 2048) (p : es' ≡ pasted es (t.exprs * 16) (set v 12 (f.count - 4)) 16) where
            pub E_taken : LineTaken (lettered (69 ∷ []) (numbers_of s)) (69 ∷ s) es ps es' ps t (record { exprs = t.exprs + 1; aggs = t.aggs; steps = t.steps }) (len + 1)
            unfolding with_expr
            E_taken =
                let q : 4 + (f.count - 4) ≡ length A.list = (let z = A.count in omega arith) in
                let u : take (4 + (f.count - 4)) v ≡ A.list = ap (λ m. take m v) q ∙ kept_all A.list v A.kept (omega arith) in
                let small = more_exprs es v t.exprs (f.count - 4) n l A.kept.size c snd.exprs in
                record {
                  taken =
                      ap (λ o. read_line o (sheet_of es ps t)) E_is
                      ∙ expr_in A.list (sheet_of es ps t) (none_before es ps t snd k) (E_fits e ∙ y) (room_exprs es ps t snd (expr_of A.list) k n)
                      ∙ ap (λ (x : List Expr). done (record { exprs = x; steps = stored_steps ps t.steps }))
                      (sym (ap (λ x. stored_exprs x (t.exprs + 1)) p ∙ small ∙ ap (λ x. stored_exprs es t.exprs ++ (expr_of x ∷ [])) u));
                  whole = ended_after 69 s refl ∙ is_ended s A.list A.are;
                  long = ap (λ m. m + 1) A.len_is ∙ add-one (suc (length (line s))) ∙ ap suc (sym (longer 69 s refl));
                }

            pub E_sound : Sound es' ps (record { exprs = t.exprs + 1; aggs = t.aggs; steps = t.steps })
            E_sound =
                let fit = fit_expr (get_or v 0 0) (get_or v 1 0) (get_or v 2 0) (get_or v 3 0) (f.count - 4) (sym e ∙ y) in
                let z = no_aggs es ps t snd k in
                record {
                  exprs = rw p (exprs_formed es v t.exprs (f.count - 4) n l A.kept.size c snd.exprs fit.0 fit.1.0 fit.1.1);
                  steps = snd.steps;
                  aggs = snd.aggs;
                  few_exprs = omega arith;
                  few_steps = snd.few_steps;
                }

  module _ (h : 7 ≤ f.count) where
    abbrev numbers_fit : Bool
    numbers_fit = step_numbers_fit (get_or v 0 0) (get_or v 1 0) (get_or v 2 0) (get_or v 3 0) (get_or v 4 0) (get_or v 5 0) (get_or v 6 0) f.count

    P_is : lettered (80 ∷ []) (numbers_of s) ≡ some (P A.list)
    P_is = ap (lettered (80 ∷ [])) A.are ∙ line_P A.list (let z = A.count in omega arith)

    P_fits : {r : Bool} → r ≡ numbers_fit → step_fits A.list ≡ r
    P_fits e =
        step_fits_is A.list
        ∙ rw (
          ← first_kept 0 (omega arith) (omega arith),
          ← first_kept 1 (omega arith) (omega arith),
          ← first_kept 2 (omega arith) (omega arith),
          ← first_kept 3 (omega arith) (omega arith),
          ← first_kept 4 (omega arith) (omega arith),
          ← first_kept 5 (omega arith) (omega arith),
          ← first_kept 6 (omega arith) (omega arith),
          ← A.count,
        )
        (sym e)

    module _ (es ps : List ℕ) (t : LineCounts) (snd : Sound es ps t) (r : Bool) (e : r ≡ numbers_fit) where
      pub P_not : r ≡ false → read_line (lettered (80 ∷ []) (numbers_of s)) (sheet_of es ps t) ≡ refused 4
      P_not n = ap (λ o. read_line o (sheet_of es ps t)) P_is ∙ step_not A.list (sheet_of es ps t) (P_fits e ∙ n)

      module _ (y : r ≡ true) where
        adds_up : f.count ≡ 7 + get_or v 4 0 + get_or v 5 0 + get_or v 6 0
        adds_up = (fit_kind (get_or v 0 0) (get_or v 1 0) (get_or v 2 0) (get_or v 3 0) (get_or v 4 0) (get_or v 5 0) (get_or v 6 0) f.count (sym e ∙ y)).1

        list_adds_up : length A.list ≡ 7 + get_or A.list 4 0 + get_or A.list 5 0 + get_or A.list 6 0
        list_adds_up =
            sym A.count ∙ adds_up
            ∙ rw (first_kept 4 (omega arith) (omega arith), first_kept 5 (omega arith) (omega arith), first_kept 6 (omega arith) (omega arith))

        entries_are : entries (step_of A.list) ≡ aggs_of (ir (get_or v 0 0)) (get_or v 6 0)
        unfolding entries step_of
        entries_are =
            ap (aggs_of (ir (get_or A.list 0 0))) (aggs_length A.list list_adds_up)
            ∙ rw (first_kept 0 (omega arith) (omega arith), first_kept 6 (omega arith) (omega arith))

        pub P_full : 32 ≤ t.steps → read_line (lettered (80 ∷ []) (numbers_of s)) (sheet_of es ps t) ≡ refused 5
        P_full n = ap (λ o. read_line o (sheet_of es ps t)) P_is ∙ step_over A.list (sheet_of es ps t) (P_fits e ∙ y) (full_steps es ps t snd (step_of A.list) n)

        module _ (a : ℕ) (kind : IR) (ke : kind ≡ ir (get_or v 0 0)) (ae : a ≡ aggs_of kind (get_or v 6 0)) where
          entries_here : entries (step_of A.list) ≡ a
          entries_here = entries_are ∙ sym (ap (λ k. aggs_of k (get_or v 6 0)) ke) ∙ sym ae

          pub P_over : 128 < t.exprs + (t.aggs + a) → read_line (lettered (80 ∷ []) (numbers_of s)) (sheet_of es ps t) ≡ refused 5
          P_over n =
              ap (λ o. read_line o (sheet_of es ps t)) P_is
              ∙ step_over A.list (sheet_of es ps t) (P_fits e ∙ y) (full_aggs es ps t snd (step_of A.list) (let z = entries_here in omega arith))

          module _ (ps' : List ℕ) (n : t.steps < 32) (m : t.exprs + (t.aggs + a) ≤ 128) (c : FewEntries (get_or v 4 0) (get_or v 5 0) (get_or v 6 0)) (l : length ps ≡ 1024)
              (p : ps' ≡ pasted ps (t.steps * 32) v 32) where
            more : stored_steps ps' (t.steps + 1) ≡ stored_steps ps t.steps ++ (step_of A.list ∷ [])
            more =
                let u : take f.count v ≡ A.list = ap (λ m. take m v) A.count ∙ kept_all A.list v A.kept (let z = A.count in let w = adds_up in omega arith) in
                let w : step_of v ≡ step_of A.list = sym (step_take v f.count (let w = adds_up in omega arith)) ∙ ap step_of u in
                ap (λ x. stored_steps x (t.steps + 1)) p ∙ more_steps ps v t.steps n l A.kept.size c.inputs c.exprs c.aggs snd.steps ∙ ap (λ x. stored_steps ps t.steps ++ (x ∷ [])) w

            pub P_taken : LineTaken (lettered (80 ∷ []) (numbers_of s)) (80 ∷ s) es ps es ps' t (record { exprs = t.exprs; aggs = t.aggs + a; steps = t.steps + 1 }) (len + 1)
            unfolding with_step
            P_taken =
                record {
                  taken =
                      ap (λ o. read_line o (sheet_of es ps t)) P_is
                      ∙ step_in A.list (sheet_of es ps t) (P_fits e ∙ y) (room_steps es ps t snd (step_of A.list) n (let z = entries_here in omega arith))
                      ∙ ap (λ (x : List Step). done (record { exprs = stored_exprs es t.exprs; steps = x })) (sym more);
                  whole = ended_after 80 s refl ∙ is_ended s A.list A.are;
                  long = ap (λ m. m + 1) A.len_is ∙ add-one (suc (length (line s))) ∙ ap suc (sym (longer 80 s refl));
                }

            pub P_sound : Sound es ps' (record { exprs = t.exprs; aggs = t.aggs + a; steps = t.steps + 1 })
            P_sound =
                record {
                  exprs = snd.exprs;
                  steps = rw p (steps_formed ps v t.steps n l A.kept.size c.inputs c.exprs c.aggs snd.steps (fit_kind _ _ _ _ _ _ _ _ (sym e ∙ y)).0);
                  aggs = (let z = snd.aggs in let u = entries_here in let y = agg_more (stored_steps ps t.steps) (step_of A.list) in omega (arith, ap agg_entries more));
                  few_exprs = omega arith;
                  few_steps = omega arith;
                }
