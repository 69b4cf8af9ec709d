-- The sheet (document 01's term for the bytes of a plan): its records, and reading them. Refusals 2 to 6.
use Rattle.std.specs.Prelude.{ℕ, ◌+◌, ◌-◌, ◌*◌, Bool, true, false, ◌&&◌, ◌||◌, not, List, [], ◌∷◌, ◌++◌, eqb, ltb, leb, get_or, length, take, drop, if◌then◌else◌}
use Rattle.std.proofs.Math.Option.{Option, none, some}
use Rattle.plan.specs.declared.aexpr.AExpr.{AExpr}
use Rattle.plan.specs.declared.ir.IR.{IR}
use Rattle.plan.specs.Kinds.{aexprs, aexpr, aexpr_number, same_aexpr, irs, ir, ir_number, same_ir}
use Rattle.plan.specs.Lists.{sum, empty?, same, yes?}

-- The records ------------------------------------------------------------------------------------------------------------

-- an E line: a node of the expression arena
pub record Expr : Type 0 where
  pub kind : AExpr
  pub scalar : Bool  -- S: is_scalar_ae, and a literal's is_scalar
  pub length_preserving : Bool  -- L: is_length_preserving_ae
  pub option : ℕ
  pub children : List ℕ

-- a P line: a node of the plan arena
pub record Step : Type 0 where
  pub kind : IR
  pub a : ℕ
  pub b : ℕ
  pub c : ℕ
  pub inputs : List ℕ
  pub exprs : List ℕ  -- the n2 list: expressions; a GroupBy's keys, a Join's left keys
  pub aggs : List ℕ  -- the n3 list: a GroupBy's aggs, a Join's right keys; no other step has one

pub record Sheet : Type 0 where
  pub exprs : List Expr
  pub steps : List Step

-- what stands past the end of an arena; nothing of an accepted sheet reads it
abbrev pub no_expr : Expr
no_expr = record { kind = AExpr.Column; scalar = false; length_preserving = false; option = 0; children = [] }

abbrev pub no_step : Step
no_step = record { kind = IR.Scan; a = 0; b = 0; c = 0; inputs = []; exprs = []; aggs = [] }

abbrev pub expr_at : List Expr → ℕ → Expr
expr_at es p = get_or es p no_expr

abbrev pub step_at : List Step → ℕ → Step
step_at ps n = get_or ps n no_step

-- Refusals ---------------------------------------------------------------------------------------------------------------

-- what reading, checking or a visit comes to: a refusal's number, or a value
pub data Outcome (A : Type 0) : Type 0 where
  refused : ℕ → Outcome A
  done : A → Outcome A

infixl 4 ◌then◌
-- the first fault decides
unfoldable pub ◌then◌ : {A B : Type 0} → Outcome A → (A → Outcome B) → Outcome B
refused n then f = refused n
done x then f = f x

infixr 3 refuse◌when◌else◌
unfoldable pub refuse◌when◌else◌ : {A : Type 0} → ℕ → Bool → Outcome A → Outcome A
refuse◌when◌else◌ n true o = refused n
refuse◌when◌else◌ n false o = o

-- Lines, fields, numbers -------------------------------------------------------------------------------------------------

abbrev pub onto : ℕ → List (List ℕ) → List (List ℕ)
onto x [] = (x ∷ []) ∷ []
onto x (p ∷ ps) = (x ∷ p) ∷ ps

-- the parts of a text between the bytes c: one more than there are such bytes
unfoldable pub parts : ℕ → List ℕ → List (List ℕ)
parts c [] = [] ∷ []
parts c (x ∷ xs) = elim (eqb x c) [ true ↦ [] ∷ parts c xs | false ↦ onto x (parts c xs) ]

-- digits in base ten, v the value of those before them
unfoldable pub value : ℕ → List ℕ → Option ℕ
value v [] = some v
value v (x ∷ xs) = elim (leb 48 x && leb x 57) [ true ↦ value (v * 10 + (x - 48)) xs | false ↦ none ]

abbrev pub at_most : ℕ → Option ℕ → Option ℕ
at_most m none = none
at_most m (some v) = if leb v m then some v else none

-- 0 to 255, without leading zeros
unfoldable pub number : List ℕ → Option ℕ
number [] = none
number (x ∷ []) = value 0 (x ∷ [])
number (x ∷ y ∷ ys) = if eqb x 48 then none else at_most 255 (value 0 (x ∷ y ∷ ys))

abbrev pub cons? : Option ℕ → Option (List ℕ) → Option (List ℕ)
cons? none ns = none
cons? (some n) none = none
cons? (some n) (some ns) = some (n ∷ ns)

unfoldable pub numbers : List (List ℕ) → Option (List ℕ)
numbers [] = some []
numbers (f ∷ fs) = cons? (number f) (numbers fs)

-- The tables -------------------------------------------------------------------------------------------------------------

-- by kind of expression: fewest children, most children, largest option
unfoldable pub expr_table : List (ℕ × ℕ × ℕ)
expr_table =
    (0, 0, 0)  -- 0 Column
    ∷ (0, 0, 0)  -- 1 Literal
    ∷ (0, 0, 0)  -- 2 Element
    ∷ (0, 0, 0)  -- 3 StructField
    ∷ (0, 0, 0)  -- 4 Len
    ∷ (2, 2, 0)  -- 5 BinaryExpr
    ∷ (3, 3, 0)  -- 6 Ternary
    ∷ (1, 1, 0)  -- 7 Cast
    ∷ (1, 1, 0)  -- 8 Explode
    ∷ (1, 1, 0)  -- 9 Sort
    ∷ (1, 8, 1)  -- 10 SortBy
    ∷ (2, 2, 0)  -- 11 Filter
    ∷ (2, 2, 1)  -- 12 Gather
    ∷ (3, 3, 0)  -- 13 Slice
    ∷ (2, 2, 1)  -- 14 Eval
    ∷ (1, 8, 0)  -- 15 StructEval
    ∷ (1, 8, 1)  -- 16 Over (at least 2 children if its option is 1)
    ∷ (2, 2, 0)  -- 17 Rolling
    ∷ (2, 2, 0)  -- 18 MinBy
    ∷ (0, 8, 63)  -- 19 Function
    ∷ (0, 8, 0)  -- 20 AnonymousAgg
    ∷ (1, 1, 0)  -- 21 First
    ∷ (1, 1, 0)  -- 22 Min
    ∷ (1, 1, 1)  -- 23 Implode
    ∷ (1, 1, 0)  -- 24 AggGroups
    ∷ []

-- by kind of step: largest a, b, c; fewest and most of n1; fewest and most of n2; most of n3
unfoldable pub step_table : List (ℕ × ℕ × ℕ × ℕ × ℕ × ℕ × ℕ × ℕ)
step_table =
    (0, 0, 0, 0, 0, 0, 0, 0)  -- 0 Scan
    ∷ (0, 0, 0, 0, 8, 0, 0, 0)  -- 1 UnoptimizedDispatch
    ∷ (1, 1, 0, 1, 1, 0, 8, 0)  -- 2 Sink (n2 is 0 unless b is 1)
    ∷ (0, 0, 0, 1, 1, 0, 8, 0)  -- 3 Select
    ∷ (255, 0, 0, 1, 1, 0, 8, 0)  -- 4 HStack
    ∷ (1, 1, 0, 1, 1, 0, 8, 0)  -- 5 Sort
    ∷ (0, 0, 0, 1, 1, 1, 1, 0)  -- 6 Filter
    ∷ (1, 7, 0, 1, 1, 0, 8, 8)  -- 7 GroupBy
    ∷ (1, 1, 3, 1, 1, 0, 0, 0)  -- 8 Distinct
    ∷ (3, 4, 0, 2, 2, 0, 8, 8)  -- 9 Join
    ∷ (0, 0, 0, 2, 2, 0, 0, 0)  -- 10 Gather
    ∷ (1, 1, 0, 0, 8, 0, 0, 0)  -- 11 Union
    ∷ (1, 0, 0, 2, 2, 0, 0, 0)  -- 12 MergeSorted
    ∷ (7, 0, 0, 1, 1, 0, 0, 0)  -- 13 MapFunction
    ∷ (0, 0, 0, 0, 8, 0, 0, 0)  -- 14 HConcat
    ∷ (0, 0, 0, 1, 1, 0, 0, 0)  -- 15 Slice
    ∷ (0, 0, 0, 1, 8, 0, 0, 0)  -- 16 ExtContext
    ∷ (0, 0, 0, 1, 1, 0, 0, 0)  -- 17 SimpleProjection
    ∷ (255, 0, 0, 1, 1, 0, 0, 0)  -- 18 Cache
    ∷ []

-- What a line may have (4) --------------------------------------------------------------------------------------------------------------

-- an E line's numbers ns: K, S, L, a, then the children
unfoldable pub expr_of : List ℕ → Expr
expr_of ns =
    record {
      kind = aexpr (get_or ns 0 0);
      scalar = yes? (get_or ns 1 0);
      length_preserving = yes? (get_or ns 2 0);
      option = get_or ns 3 0;
      children = drop 4 ns;
    }

unfoldable pub in_expr_table : Expr → Bool
in_expr_table e =
    let (least, most, option) = get_or expr_table (aexpr_number e.kind) (0, 0, 0) in
    let count = length e.children in
    leb e.option option && leb least count && leb count most
    && (not (same_aexpr e.kind AExpr.Over && yes? e.option) || leb 2 count)

unfoldable pub expr_fits : List ℕ → Bool
expr_fits ns = ltb (get_or ns 0 0) (length aexprs) && leb (get_or ns 1 0) 1 && leb (get_or ns 2 0) 1 && in_expr_table (expr_of ns)

-- a P line's numbers ns: K, a, b, c, n1, n2, n3, then n1 inputs, n2 expressions, n3 expressions
unfoldable pub step_of : List ℕ → Step
step_of ns =
    let n1 = get_or ns 4 0 in
    let n2 = get_or ns 5 0 in
    let n3 = get_or ns 6 0 in
    let entries = drop 7 ns in
    record {
      kind = ir (get_or ns 0 0);
      a = get_or ns 1 0;
      b = get_or ns 2 0;
      c = get_or ns 3 0;
      inputs = take n1 entries;
      exprs = take n2 (drop n1 entries);
      aggs = take n3 (drop (n1 + n2) entries);
    }

unfoldable pub in_step_table : Step → Bool
in_step_table s =
    let (most_a, most_b, most_c, least_n1, most_n1, least_n2, most_n2, most_n3) =
    get_or step_table (ir_number s.kind) (0, 0, 0, 0, 0, 0, 0, 0) in
    let n1 = length s.inputs in
    let n2 = length s.exprs in
    let n3 = length s.aggs in
    leb s.a most_a && leb s.b most_b && leb s.c most_c
    && leb least_n1 n1 && leb n1 most_n1 && leb least_n2 n2 && leb n2 most_n2 && leb n3 most_n3
    && (not (same_ir s.kind IR.Sink && eqb s.b 0) || eqb n2 0)

-- no number is left over or lacking
unfoldable pub step_fits : List ℕ → Bool
step_fits ns =
    ltb (get_or ns 0 0) (length irs) && eqb (length ns) (7 + get_or ns 4 0 + get_or ns 5 0 + get_or ns 6 0) && in_step_table (step_of ns)

-- One line ---------------------------------------------------------------------------------------------------------------

-- E lines and agg entries (the n3 lists of GroupBy): room for the Implodes that GroupBy appends
unfoldable pub expr_count : Sheet → ℕ
expr_count sh = length sh.exprs + sum (λ (s : Step). if same_ir s.kind IR.GroupBy then length s.aggs else 0) sh.steps

-- 5 --
unfoldable pub over_limits : Sheet → Bool
over_limits sh = ltb 32 (length sh.steps) || ltb 128 (expr_count sh)

unfoldable pub with_expr : Expr → Sheet → Sheet
with_expr e sh = record { exprs = sh.exprs ++ (e ∷ []); steps = sh.steps }

unfoldable pub with_step : Step → Sheet → Sheet
with_step s sh = record { exprs = sh.exprs; steps = sh.steps ++ (s ∷ []) }

-- a line of the form: its letter and its numbers, at least 4 of an E line and 7 of a P line
pub data Line : Type 0 where
  E : List ℕ → Line
  P : List ℕ → Line

unfoldable pub lettered : List ℕ → Option (List ℕ) → Option Line
lettered letter none = none
lettered letter (some ns) =
    if same letter (69 ∷ []) && leb 4 (length ns) then some (E ns)
    else if same letter (80 ∷ []) && leb 7 (length ns) then some (P ns)
    else none

unfoldable pub line_of : List ℕ → Option Line
line_of l = let fields = parts 44 l in lettered (get_or fields 0 []) (numbers (drop 1 fields))

abbrev pub within_limits : Sheet → Outcome Sheet
within_limits sh = refuse 5 when over_limits sh else done sh

-- 3, 4, 5, in this order; no E line comes after a P line
unfoldable pub read_line : Option Line → Sheet → Outcome Sheet
read_line none sh = refused 3
read_line (some (E ns)) sh =
    refuse 3 when not (empty? sh.steps) else
    refuse 4 when not (expr_fits ns) else
    within_limits (with_expr (expr_of ns) sh)
read_line (some (P ns)) sh =
    refuse 4 when not (step_fits ns) else
    within_limits (with_step (step_of ns) sh)

-- All lines --------------------------------------------------------------------------------------------------------------

-- one after the other; what stands after the last byte 10 has to be nothing
unfoldable pub read_lines : List (List ℕ) → Sheet → Outcome Sheet
read_lines [] sh = done sh
read_lines (l ∷ []) sh = if empty? l then done sh else refused 3
read_lines (l ∷ l' ∷ ls) sh = read_line (line_of l) sh then λ sh'. read_lines (l' ∷ ls) sh'

abbrev pub no_lines : Sheet
no_lines = record { exprs = []; steps = [] }

-- 2 --
abbrev pub too_long : List ℕ → Bool
too_long s = ltb 16384 (length s)

-- 6 --
abbrev pub no_plan : Sheet → Bool
no_plan sh = empty? sh.steps

unfoldable pub read : List ℕ → Outcome Sheet
read s =
    refuse 2 when too_long s else
    read_lines (parts 10 s) no_lines then λ sh.
    refuse 6 when no_plan sh else
    done sh
