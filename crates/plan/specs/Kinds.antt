-- The kinds of records and of options, in the Rust's names, and their numbers on a sheet (document 01's tables).
use Rattle.std.specs.Prelude.{ℕ, List, [], ◌∷◌, Bool, eqb, ltb, get_or, slice_get, if◌then◌else◌, Result, Ok, Err}
use Rattle.std.specs.Option.{ok_or}
use Rattle.plan.specs.declared.refusal.Refusal.{Refusal}
use Rattle.plan.specs.declared.aexpr.AExpr.{AExpr}
use Rattle.plan.specs.declared.ir.IR.{IR}
use Rattle.plan.specs.declared.distinct.UniqueKeepStrategy.{UniqueKeepStrategy}
use Rattle.plan.specs.declared.join.JoinType.{JoinType}
use Rattle.plan.specs.declared.join.MaintainOrderJoin.{MaintainOrderJoin}
use Rattle.plan.specs.declared.function_ir.FunctionIR.{FunctionIR}

-- the first n numbers stand for a kind each, and any other is refused
abbrev pub in_table : {A : Type 0} → ℕ → (ℕ → A) → ℕ → Result A Refusal
in_table n kind k = if ltb k n then Ok (kind k) else Err Refusal.Table

-- the same of the list of kinds, in the order of their numbers
abbrev pub listed : {A : Type 0} → List A → ℕ → Result A Refusal
listed kinds k = ok_or (slice_get kinds k) Refusal.Table

-- expressions, in the order of their numbers
abbrev pub aexprs : List AExpr
aexprs = AExpr.Column ∷ AExpr.Literal ∷ AExpr.Element ∷ AExpr.StructField ∷ AExpr.Len ∷ AExpr.BinaryExpr ∷ AExpr.Ternary ∷ AExpr.Cast ∷ AExpr.Explode ∷ AExpr.Sort ∷ AExpr.SortBy ∷ AExpr.Filter ∷ AExpr.Gather ∷ AExpr.Slice ∷ AExpr.Eval ∷ AExpr.StructEval ∷ AExpr.Over ∷ AExpr.Rolling ∷ AExpr.MinBy ∷ AExpr.Function ∷ AExpr.AnonymousAgg ∷ AExpr.First ∷ AExpr.Min ∷ AExpr.Implode ∷ AExpr.AggGroups ∷ []

-- the kind of a number (the first, of a number past the table: refusal 4 turns it back)
abbrev pub aexpr : ℕ → AExpr
aexpr k = get_or aexprs k AExpr.Column

abbrev pub aexpr_number : AExpr → ℕ
aexpr_number AExpr.Column = 0
aexpr_number AExpr.Literal = 1
aexpr_number AExpr.Element = 2
aexpr_number AExpr.StructField = 3
aexpr_number AExpr.Len = 4
aexpr_number AExpr.BinaryExpr = 5
aexpr_number AExpr.Ternary = 6
aexpr_number AExpr.Cast = 7
aexpr_number AExpr.Explode = 8
aexpr_number AExpr.Sort = 9
aexpr_number AExpr.SortBy = 10
aexpr_number AExpr.Filter = 11
aexpr_number AExpr.Gather = 12
aexpr_number AExpr.Slice = 13
aexpr_number AExpr.Eval = 14
aexpr_number AExpr.StructEval = 15
aexpr_number AExpr.Over = 16
aexpr_number AExpr.Rolling = 17
aexpr_number AExpr.MinBy = 18
aexpr_number AExpr.Function = 19
aexpr_number AExpr.AnonymousAgg = 20
aexpr_number AExpr.First = 21
aexpr_number AExpr.Min = 22
aexpr_number AExpr.Implode = 23
aexpr_number AExpr.AggGroups = 24

-- steps, in the order of their numbers
abbrev pub irs : List IR
irs = IR.Scan ∷ IR.UnoptimizedDispatch ∷ IR.Sink ∷ IR.Select ∷ IR.HStack ∷ IR.Sort ∷ IR.Filter ∷ IR.GroupBy ∷ IR.Distinct ∷ IR.Join ∷ IR.Gather ∷ IR.Union ∷ IR.MergeSorted ∷ IR.MapFunction ∷ IR.HConcat ∷ IR.Slice ∷ IR.ExtContext ∷ IR.SimpleProjection ∷ IR.Cache ∷ []

-- the kind of a number (the first, of a number past the table: refusal 4 turns it back)
abbrev pub ir : ℕ → IR
ir k = get_or irs k IR.Scan

abbrev pub ir_number : IR → ℕ
ir_number IR.Scan = 0
ir_number IR.UnoptimizedDispatch = 1
ir_number IR.Sink = 2
ir_number IR.Select = 3
ir_number IR.HStack = 4
ir_number IR.Sort = 5
ir_number IR.Filter = 6
ir_number IR.GroupBy = 7
ir_number IR.Distinct = 8
ir_number IR.Join = 9
ir_number IR.Gather = 10
ir_number IR.Union = 11
ir_number IR.MergeSorted = 12
ir_number IR.MapFunction = 13
ir_number IR.HConcat = 14
ir_number IR.Slice = 15
ir_number IR.ExtContext = 16
ir_number IR.SimpleProjection = 17
ir_number IR.Cache = 18

-- Distinct's option c, in the order of their numbers
abbrev pub keep_strategies : List UniqueKeepStrategy
keep_strategies = UniqueKeepStrategy.First ∷ UniqueKeepStrategy.Last ∷ UniqueKeepStrategy.Any ∷ UniqueKeepStrategy.None ∷ []

-- the kind of a number (the first, of a number past the table: refusal 4 turns it back)
abbrev pub keep_strategy : ℕ → UniqueKeepStrategy
keep_strategy k = get_or keep_strategies k UniqueKeepStrategy.First

abbrev pub keep_strategy_number : UniqueKeepStrategy → ℕ
keep_strategy_number UniqueKeepStrategy.First = 0
keep_strategy_number UniqueKeepStrategy.Last = 1
keep_strategy_number UniqueKeepStrategy.Any = 2
keep_strategy_number UniqueKeepStrategy.None = 3

-- Join's option a, in the order of their numbers
abbrev pub join_types : List JoinType
join_types = JoinType.Other ∷ JoinType.Semi ∷ JoinType.Anti ∷ JoinType.AsOf ∷ []

-- the kind of a number (the first, of a number past the table: refusal 4 turns it back)
abbrev pub join_type : ℕ → JoinType
join_type k = get_or join_types k JoinType.Other

abbrev pub join_type_number : JoinType → ℕ
join_type_number JoinType.Other = 0
join_type_number JoinType.Semi = 1
join_type_number JoinType.Anti = 2
join_type_number JoinType.AsOf = 3

-- Join's option b, in the order of their numbers
abbrev pub maintain_orders : List MaintainOrderJoin
maintain_orders = MaintainOrderJoin.None ∷ MaintainOrderJoin.Left ∷ MaintainOrderJoin.Right ∷ MaintainOrderJoin.LeftRight ∷ MaintainOrderJoin.RightLeft ∷ []

-- the kind of a number (the first, of a number past the table: refusal 4 turns it back)
abbrev pub maintain_order : ℕ → MaintainOrderJoin
maintain_order k = get_or maintain_orders k MaintainOrderJoin.None

abbrev pub maintain_order_number : MaintainOrderJoin → ℕ
maintain_order_number MaintainOrderJoin.None = 0
maintain_order_number MaintainOrderJoin.Left = 1
maintain_order_number MaintainOrderJoin.Right = 2
maintain_order_number MaintainOrderJoin.LeftRight = 3
maintain_order_number MaintainOrderJoin.RightLeft = 4

-- MapFunction's option a, in the order of their numbers
abbrev pub function_irs : List FunctionIR
function_irs = FunctionIR.RowIndex ∷ FunctionIR.FastCount ∷ FunctionIR.Unnest ∷ FunctionIR.Rechunk ∷ FunctionIR.Explode ∷ FunctionIR.Unpivot ∷ FunctionIR.Opaque ∷ FunctionIR.Hint ∷ []

-- the kind of a number (the first, of a number past the table: refusal 4 turns it back)
abbrev pub function_ir : ℕ → FunctionIR
function_ir k = get_or function_irs k FunctionIR.RowIndex

abbrev pub function_ir_number : FunctionIR → ℕ
function_ir_number FunctionIR.RowIndex = 0
function_ir_number FunctionIR.FastCount = 1
function_ir_number FunctionIR.Unnest = 2
function_ir_number FunctionIR.Rechunk = 3
function_ir_number FunctionIR.Explode = 4
function_ir_number FunctionIR.Unpivot = 5
function_ir_number FunctionIR.Opaque = 6
function_ir_number FunctionIR.Hint = 7

-- Are two kinds the same? ------------------------------------------------------------------------------------------------

abbrev pub same_aexpr : AExpr → AExpr → Bool
same_aexpr x y = eqb (aexpr_number x) (aexpr_number y)

abbrev pub same_ir : IR → IR → Bool
same_ir x y = eqb (ir_number x) (ir_number y)

abbrev pub same_join_type : JoinType → JoinType → Bool
same_join_type x y = eqb (join_type_number x) (join_type_number y)

abbrev pub same_maintain_order : MaintainOrderJoin → MaintainOrderJoin → Bool
same_maintain_order x y = eqb (maintain_order_number x) (maintain_order_number y)
