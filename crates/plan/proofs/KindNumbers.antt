-- From a number to its kind and back: the identity within each table, both ways.
use mathlib.Core.Path.{◌≡◌, refl, ap, sym, ◌∙◌}
use Prim.Native.Nat.{ℕ, zero, suc, ◌+◌, ◌<◌}
use native.Mathlib.Omega.{arith}
use native.Mathlib.Nat.{not-suc-le-zero}
use native.Mathlib.Decide.{dec_lt}
use mathlib.Core.Bool.{Bool, true, false, ◌&&◌}
use mathlib.Core.List.{List, [], ◌∷◌}
use lib.Dec.{T, eqb, eqb→eq}
use lib.ListN.{length, get_or, get_or-eq_default}
use Rattle.plan.specs.declared.aexpr.AExpr.{AExpr}
use Rattle.plan.specs.declared.ir.IR.{IR}
use Rattle.plan.specs.declared.distinct.UniqueKeepStrategy.{UniqueKeepStrategy}
use Rattle.plan.specs.declared.join.JoinType.{JoinType}
use Rattle.plan.specs.declared.join.MaintainOrderJoin.{MaintainOrderJoin}
use Rattle.plan.specs.declared.function_ir.FunctionIR.{FunctionIR}
use Rattle.plan.specs.Sheet.{Step, no_step, step_at}
use Rattle.plan.specs.Kinds.{aexprs, aexpr, aexpr_number, same_aexpr, irs, ir, ir_number, same_ir, keep_strategies, keep_strategy, keep_strategy_number, join_types, join_type, join_type_number, maintain_orders, maintain_order, maintain_order_number, function_irs, function_ir, function_ir_number}

-- The rule of a table, by a test that computes over the whole of it: the entries have the numbers k, k + 1, .. ------------------

module _ {A : Type 0} (number : A → ℕ) where
  abbrev counted_from : ℕ → List A → Bool
  counted_from k [] = true
  counted_from k (x ∷ xs) = eqb (number x) k && counted_from (suc k) xs

  both : (a b : Bool) → T (a && b) → T a × T b
  both true b t = (tt, t)
  both false b t = absurd t

  from : (k : ℕ) (l : List A) (d : A) → T (counted_from k l) → (i : ℕ) → i < length l → number (get_or l i d) ≡ k + i
  from k [] d t i h = absurd (not-suc-le-zero h)
  from k (x ∷ l) d t zero h = eqb→eq (number x) k (both (eqb (number x) k) (counted_from (suc k) l) t).0 ∙ omega arith
  from k (x ∷ l) d t (suc i) h = from (suc k) l d (both (eqb (number x) k) (counted_from (suc k) l) t).1 i (omega arith) ∙ omega arith

  by_table : (l : List A) (d : A) → T (counted_from 0 l) → (i : ℕ) → i < length l → number (get_or l i d) ≡ i
  by_table l d t i h = from 0 l d t i h ∙ omega arith

-- Each table --------------------------------------------------------------------------------------------------------------------

pub aexpr_there : (k : ℕ) → k < 25 → aexpr_number (aexpr k) ≡ k
aexpr_there = by_table aexpr_number aexprs AExpr.Column tt

pub aexpr_back : (x : AExpr) → aexpr (aexpr_number x) ≡ x
aexpr_back AExpr.Column = refl
aexpr_back AExpr.Literal = refl
aexpr_back AExpr.Element = refl
aexpr_back AExpr.StructField = refl
aexpr_back AExpr.Len = refl
aexpr_back AExpr.BinaryExpr = refl
aexpr_back AExpr.Ternary = refl
aexpr_back AExpr.Cast = refl
aexpr_back AExpr.Explode = refl
aexpr_back AExpr.Sort = refl
aexpr_back AExpr.SortBy = refl
aexpr_back AExpr.Filter = refl
aexpr_back AExpr.Gather = refl
aexpr_back AExpr.Slice = refl
aexpr_back AExpr.Eval = refl
aexpr_back AExpr.StructEval = refl
aexpr_back AExpr.Over = refl
aexpr_back AExpr.Rolling = refl
aexpr_back AExpr.MinBy = refl
aexpr_back AExpr.Function = refl
aexpr_back AExpr.AnonymousAgg = refl
aexpr_back AExpr.First = refl
aexpr_back AExpr.Min = refl
aexpr_back AExpr.Implode = refl
aexpr_back AExpr.AggGroups = refl

pub ir_there : (k : ℕ) → k < 19 → ir_number (ir k) ≡ k
ir_there = by_table ir_number irs IR.Scan tt

pub ir_back : (x : IR) → ir (ir_number x) ≡ x
ir_back IR.Scan = refl
ir_back IR.UnoptimizedDispatch = refl
ir_back IR.Sink = refl
ir_back IR.Select = refl
ir_back IR.HStack = refl
ir_back IR.Sort = refl
ir_back IR.Filter = refl
ir_back IR.GroupBy = refl
ir_back IR.Distinct = refl
ir_back IR.Join = refl
ir_back IR.Gather = refl
ir_back IR.Union = refl
ir_back IR.MergeSorted = refl
ir_back IR.MapFunction = refl
ir_back IR.HConcat = refl
ir_back IR.Slice = refl
ir_back IR.ExtContext = refl
ir_back IR.SimpleProjection = refl
ir_back IR.Cache = refl

-- for the reader, as no proof needs them: the options' tables are numbered as they are listed
pub keep_strategy_there : (k : ℕ) → k < 4 → keep_strategy_number (keep_strategy k) ≡ k
keep_strategy_there = by_table keep_strategy_number keep_strategies UniqueKeepStrategy.First tt

pub join_type_there : (k : ℕ) → k < 4 → join_type_number (join_type k) ≡ k
join_type_there = by_table join_type_number join_types JoinType.Other tt

pub maintain_order_there : (k : ℕ) → k < 5 → maintain_order_number (maintain_order k) ≡ k
maintain_order_there = by_table maintain_order_number maintain_orders MaintainOrderJoin.None tt

pub function_ir_there : (k : ℕ) → k < 8 → function_ir_number (function_ir k) ≡ k
function_ir_there = by_table function_ir_number function_irs FunctionIR.RowIndex tt

-- a kind's number is within the table: past its end stands the first kind
pub ir_small : (x : IR) → ir_number x < 19
ir_small x = by (dec_lt (ir_number x) 19)
  where
    by : Dec (ir_number x < 19) → ir_number x < 19
    by (yes h) = h
    by (no h) = let e = ap ir_number (sym (ir_back x) ∙ get_or-eq_default irs IR.Scan {n = ir_number x} (omega arith)) in omega (arith, e)

-- kinds with one number are one kind
pub same_kind : (x y : IR) → T (same_ir x y) → x ≡ y
same_kind x y t = sym (ir_back x) ∙ ap ir (eqb→eq (ir_number x) (ir_number y) t) ∙ ir_back y

pub same_expr_kind : (x y : AExpr) → T (same_aexpr x y) → x ≡ y
same_expr_kind x y t = sym (aexpr_back x) ∙ ap aexpr (eqb→eq (aexpr_number x) (aexpr_number y) t) ∙ aexpr_back y

-- a step of a kind other than Scan is there
pub in_range : (ps : List Step) (n : ℕ) {k : ℕ} → ir_number (step_at ps n).kind ≡ suc k → n < length ps
in_range ps n {k} e = by (dec_lt n (length ps))
  where
    by : Dec (n < length ps) → n < length ps
    by (yes h) = h
    by (no h) = absurd (let z = ap (λ (s : Step). ir_number s.kind) (get_or-eq_default ps no_step {n = n} (omega arith)) in omega (arith, z))
