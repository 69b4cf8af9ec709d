-- References, uses, ids and struct fields of a sheet that has been read. Refusals 7, 8 and 12, 13, 9, in this order.
use Rattle.std.specs.Prelude.{ℕ, zero, suc, Bool, ◌&&◌, ◌||◌, not, List, [], ◌∷◌, ◌++◌, map, eqb, ltb, leb, length, if◌then◌else◌}
use Rattle.plan.specs.declared.aexpr.AExpr.{AExpr}
use Rattle.plan.specs.declared.ir.IR.{IR}
use Rattle.plan.specs.Kinds.{same_aexpr, same_ir}
use Rattle.plan.specs.Lists.{all?, select, concat_map, numbered, among, times, rest}
use Rattle.plan.specs.Sheet.{Expr, Step, Sheet, Outcome, refused, done, expr_at, step_at}

-- a line that has been read, with its index
pub data Indexed : Type 0 where
  expr : ℕ × Expr → Indexed
  step : ℕ × Step → Indexed

-- the E lines, then the P lines
unfoldable pub lines : Sheet → List Indexed
lines sh = map Indexed.expr (numbered 0 sh.exprs) ++ map Indexed.step (numbered 0 sh.steps)

-- 7 --

-- an E line's children stand on earlier lines
unfoldable pub children_earlier : ℕ × Expr → Bool
children_earlier (i, e) = all? (λ q. ltb q i) e.children

-- a P line's inputs stand on earlier lines, and none is a Sink
unfoldable pub inputs_earlier : Sheet → ℕ × Step → Bool
inputs_earlier sh (n, s) = all? (λ m. ltb m n && not (same_ir (step_at sh.steps m).kind IR.Sink)) s.inputs

-- its expressions are E lines
unfoldable pub exprs_there : Sheet → ℕ × Step → Bool
exprs_there sh (n, s) = all? (λ q. ltb q (length sh.exprs)) (s.exprs ++ s.aggs)

unfoldable pub references_right : Sheet → Indexed → Bool
references_right sh (Indexed.expr x) = children_earlier x
references_right sh (Indexed.step x) = inputs_earlier sh x && exprs_there sh x

-- 8 and 12 --

-- every naming of an E line; two by one line are two
unfoldable pub exprs_named : Sheet → List ℕ
exprs_named sh = concat_map (λ (e : Expr). e.children) sh.exprs ++ concat_map (λ (s : Step). s.exprs ++ s.aggs) sh.steps

-- every naming of a P line
unfoldable pub named : List Step → List ℕ
named ps = concat_map (λ (s : Step). s.inputs) ps

-- how often a line is named
abbrev pub uses : Sheet → Indexed → ℕ
uses sh (Indexed.expr (i, e)) = times i (exprs_named sh)
uses sh (Indexed.step (n, s)) = times n (named sh.steps)

-- how often may a step be named? A Sink need not be, a Cache may be more than once
abbrev pub use_right : IR → ℕ → Bool
use_right kind count = same_ir kind IR.Sink || (leb 1 count && (same_ir kind IR.Cache || leb count 1))

unfoldable pub named_right : Sheet → Indexed → Bool
named_right sh (Indexed.expr x) = eqb (uses sh (Indexed.expr x)) 1
named_right sh (Indexed.step (n, s)) = use_right s.kind (uses sh (Indexed.step (n, s)))

-- what is wrong with a line that is not named rightly: nothing names it, or it is named more than once
abbrev pub use_number : ℕ → ℕ
use_number zero = 8
use_number (suc n) = 12

-- 13 --

unfoldable pub cache_ids : List Step → List ℕ
cache_ids ps = map (λ (s : Step). s.a) (select (λ (s : Step). same_ir s.kind IR.Cache) ps)

-- a Cache line has an id of its own
unfoldable pub id_right : List Step → ℕ × Step → Bool
id_right ps (n, s) = not (same_ir s.kind IR.Cache) || eqb (times s.a (cache_ids ps)) 1

-- 9 --

-- The records reached from p through children, p first. The fuel is above the height of p's tree: suc p will do, as children stand earlier
unfoldable pub reach : ℕ → List Expr → ℕ → List ℕ
reach zero es p = []
reach (suc f) es p = p ∷ concat_map (λ q. reach f es q) (expr_at es p).children

abbrev pub tree : List Expr → ℕ → List ℕ
tree es p = reach (suc p) es p

-- the records that are or lie under an evaluation child of some StructEval
unfoldable pub evaluated : List Expr → List ℕ
evaluated es =
    concat_map (λ (e : Expr). if same_aexpr e.kind AExpr.StructEval then concat_map (tree es) (rest e.children) else []) es

-- a StructField is one of them
unfoldable pub field_right : List Expr → ℕ × Expr → Bool
field_right es (i, e) = not (same_aexpr e.kind AExpr.StructField) || among i (evaluated es)

-- The passes -------------------------------------------------------------------------------------------------------------

-- each gives every line that it goes over a number, 0 for no fault
abbrev pub reference_fault : Sheet → Indexed → ℕ
reference_fault sh l = if references_right sh l then 0 else 7

abbrev pub use_fault : Sheet → Indexed → ℕ
use_fault sh l = if named_right sh l then 0 else use_number (uses sh l)

abbrev pub id_fault : Sheet → ℕ × Step → ℕ
id_fault sh x = if id_right sh.steps x then 0 else 13

abbrev pub field_fault : Sheet → ℕ × Expr → ℕ
field_fault sh x = if field_right sh.exprs x then 0 else 9

-- One pass after the other. 8 and 12 are given by one: of the lines, E before P, the first at fault decides
unfoldable pub passes : Sheet → List (List ℕ)
passes sh =
    map (reference_fault sh) (lines sh)
    ∷ map (use_fault sh) (lines sh)
    ∷ map (id_fault sh) (numbered 0 sh.steps)
    ∷ map (field_fault sh) (numbered 0 sh.exprs)
    ∷ []

-- the first number that is not 0
unfoldable pub first_fault : List ℕ → ℕ
first_fault [] = 0
first_fault (zero ∷ ns) = first_fault ns
first_fault (suc n ∷ ns) = suc n

abbrev pub refused_by : Sheet → ℕ → Outcome Sheet
refused_by sh zero = done sh
refused_by sh (suc n) = refused (suc n)

unfoldable pub checked : Sheet → Outcome Sheet
checked sh = refused_by sh (first_fault (concat_map (λ ns. ns) (passes sh)))
