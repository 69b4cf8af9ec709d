-- SimplifyIRNodeOrder of mod.rs: a visit (document 01's term for one call of simplify_ir_node_orders).
use Rattle.std.specs.Prelude.{ℕ, Bool, true, false, ◌&&◌, ◌||◌, not, List, [], ◌∷◌, ◌++◌, map, eqb, get_or, set, length, if◌then◌else◌}
use Rattle.std.proofs.Math.Option.{Option, none, some}
use Rattle.plan.specs.declared.tally.Tally.{Tally}
use Rattle.plan.specs.Tally.{visit_more}
use Rattle.plan.specs.declared.aexpr.AExpr.{AExpr}
use Rattle.plan.specs.declared.ir.IR.{IR}
use Rattle.plan.specs.declared.distinct.UniqueKeepStrategy.{UniqueKeepStrategy}
use Rattle.plan.specs.declared.join.JoinType.{JoinType}
use Rattle.plan.specs.declared.join.MaintainOrderJoin.{MaintainOrderJoin}
use Rattle.plan.specs.declared.rules.Options.{Options}
use Rattle.plan.specs.declared.rules.Around.{Around}
use Rattle.plan.specs.declared.rules.Observable.{Observable}
use Rattle.plan.specs.declared.rules.Loosened.{Loosened}
use Rattle.plan.specs.declared.rules.Ruled.{Ruled}
use Rattle.plan.specs.Kinds.{same_ir, keep_strategy, keep_strategy_number, join_type, same_join_type, maintain_order, maintain_order_number, same_maintain_order}
use Rattle.plan.specs.FunctionFlags.{contains}
use Rattle.plan.specs.FunctionIR.{FunctionOrder, Functions, rust_functions}
use Rattle.plan.specs.Lists.{yes?, all?, select}
use Rattle.plan.specs.Sheet.{Expr, Step, Outcome, refused, done, expr_at, step_at}
use Rattle.plan.specs.Graph.{Edge}
use Rattle.plan.specs.Orders.{∅, ◌∪◌}
use Rattle.plan.specs.Look.{Eos, simplify_projected_exprs}

-- what a run changes
pub record Run : Type 0 where
  pub arena : List Expr
  pub steps : List Step
  pub edges : List Edge
  pub back : List ℕ  -- the places visited with no removal, the last one first: the upward walk goes along them
  pub removed : List ℕ  -- the sorts removed
  pub tally : Tally

-- What the rules read and give: Options, Around, Observable, Loosened and Ruled are the code's own types (plan/src/rules.rt) --------

-- what the rules read of a step
abbrev pub options_of : Step → Options
options_of s = record { kind = s.kind; a = s.a; b = s.b; c = s.c; n2 = length s.exprs }

-- a step with the kind and options that a rule gave
abbrev pub with_options : Options → Step → Step
with_options o s =
    record { kind = o.kind; a = o.a; b = o.b; c = o.c; inputs = s.inputs; exprs = s.exprs; aggs = s.aggs }

-- with these options, and these edges loosened: into slot 0, into the later slots, out
abbrev pub ruled : Options → Bool → Bool → Bool → Ruled
ruled s in₀ later out = record { options = s; loosened = record { in0 = in₀; later = later; out = out } }

-- maintain_order = false, where it is so
abbrev pub unmaintained_if : Bool → Options → Options
unmaintained_if l s = record { kind = s.kind; a = if l then 0 else s.a; b = s.b; c = s.c; n2 = s.n2 }

-- is it an HStack that keeps columns of its input?
abbrev pub is_hstack : Options → Bool
is_hstack s = same_ir s.kind IR.HStack && not (eqb s.a s.n2)

-- K::First | K::Last
abbrev pub first_or_last : UniqueKeepStrategy → Bool
first_or_last UniqueKeepStrategy.First = true
first_or_last UniqueKeepStrategy.Last = true
first_or_last UniqueKeepStrategy.Any = false
first_or_last UniqueKeepStrategy.None = false

-- a Join's kept sides, the left side's order gone
abbrev pub without_left : MaintainOrderJoin → MaintainOrderJoin
without_left MaintainOrderJoin.None = MaintainOrderJoin.None
without_left MaintainOrderJoin.Left = MaintainOrderJoin.None
without_left MaintainOrderJoin.Right = MaintainOrderJoin.Right
without_left MaintainOrderJoin.LeftRight = MaintainOrderJoin.Right
without_left MaintainOrderJoin.RightLeft = MaintainOrderJoin.Right

-- the right side's
abbrev pub without_right : MaintainOrderJoin → MaintainOrderJoin
without_right MaintainOrderJoin.None = MaintainOrderJoin.None
without_right MaintainOrderJoin.Left = MaintainOrderJoin.Left
without_right MaintainOrderJoin.Right = MaintainOrderJoin.None
without_right MaintainOrderJoin.LeftRight = MaintainOrderJoin.Left
without_right MaintainOrderJoin.RightLeft = MaintainOrderJoin.Left

-- The rules of a visit that removes nothing --------------------------------------------------------------------------------

-- A name for each test under which edges are loosened, in the Rust's order. Of the 33 places of the Rust that loosen an edge 32 stand
-- under these 24 names, since a test may loosen several edges: `as_of` all three of AsOf. The other is the edge into a removed Sort,
-- in `relinked`. s are the step's options, e its edges, o what its looks observed.
module _ (s : Options) (e : Around) (o : Observable) where
  abbrev pub maintains_order : Bool
  maintains_order = yes? s.a

  abbrev pub has_slice : Bool
  has_slice = yes? s.b

  -- Select, HStack
  abbrev pub input_order_observe : Bool
  input_order_observe =
      ((o.exprs.column || is_hstack s) && not e.out) || (is_hstack s && o.exprs.independent) || o.internal.column

  abbrev pub select_in : Bool
  select_in = not input_order_observe

  abbrev pub select_out : Bool
  select_out = not o.exprs.independent && ((e.in0 || select_in) || not (is_hstack s || o.exprs.column))

  -- Sort, kept
  abbrev pub sort_in : Bool
  sort_in = e.in0 || not (maintains_order || o.internal.column || o.exprs.independent)

  -- Filter
  abbrev pub filter_in : Bool
  filter_in = e.out && not (o.internal.column || o.exprs.independent)

  abbrev pub filter_out : Bool
  filter_out = e.in0 || filter_in

  -- GroupBy; its option b adds 1 apply, 2 dynamic, 4 rolling
  abbrev pub order_observing_options : Bool
  order_observing_options = contains s.b 1 || contains s.b 2 || contains s.b 4

  abbrev pub group_by_in : Bool
  group_by_in =
      not
      (order_observing_options || o.exprs.independent || o.internal.column
      || (maintains_order && o.exprs.column && not e.out))

  abbrev pub group_by_out : Bool
  group_by_out = e.out || not maintains_order || ((e.in0 || group_by_in) && not o.exprs.independent)

  -- Distinct
  abbrev pub distinct_out : Bool
  distinct_out = not maintains_order || (e.out && not has_slice)

  abbrev pub distinct_in : Bool
  distinct_in = e.in0 || (distinct_out && not (first_or_last (keep_strategy s.c)))

  abbrev pub distinct_keeps : UniqueKeepStrategy
  distinct_keeps =
      if distinct_in && first_or_last (keep_strategy s.c) then UniqueKeepStrategy.Any else keep_strategy s.c

  -- Join: AsOf at once on all three edges
  abbrev pub as_of : Bool
  as_of = e.in0 || (e.out && e.in1)

  -- any other: first on all three, then the left side, then the right
  abbrev pub join_all : Bool
  join_all = e.out || same_maintain_order (maintain_order s.b) MaintainOrderJoin.None

  abbrev pub kept_by_all : MaintainOrderJoin
  kept_by_all = if join_all then MaintainOrderJoin.None else maintain_order s.b

  abbrev pub join_lhs : Bool
  join_lhs = (e.in0 || join_all) || same_maintain_order kept_by_all MaintainOrderJoin.Right

  abbrev pub kept_by_lhs : MaintainOrderJoin
  kept_by_lhs = if join_lhs then without_left kept_by_all else kept_by_all

  abbrev pub semi_or_anti : Bool
  semi_or_anti = same_join_type (join_type s.a) JoinType.Semi || same_join_type (join_type s.a) JoinType.Anti

  abbrev pub join_rhs : Bool
  join_rhs = (e.in1 || join_all) || same_maintain_order kept_by_lhs MaintainOrderJoin.Left || semi_or_anti

  abbrev pub kept_by_rhs : MaintainOrderJoin
  kept_by_rhs = if join_rhs then without_right kept_by_lhs else kept_by_lhs

  abbrev pub join_rule : Ruled
  join_rule =
      if same_join_type (join_type s.a) JoinType.AsOf then ruled s as_of as_of as_of
      else
      ruled (record { kind = s.kind; a = s.a; b = maintain_order_number kept_by_rhs; c = s.c; n2 = s.n2 }) join_lhs join_rhs
      join_all

  -- Gather: the input's edge stays as it is
  abbrev pub gather_idxs : Bool
  gather_idxs = e.out

  abbrev pub gather_out : Bool
  gather_out = e.in1 || gather_idxs

  -- Union: all its edges
  abbrev pub union_all : Bool
  union_all = not maintains_order || (e.out && not has_slice)

  -- MergeSorted: all three, and it becomes a Union
  abbrev pub merge_sorted_all : Bool
  merge_sorted_all = e.out || (e.in0 && e.in1)

  abbrev pub unordered_union : Options
  unordered_union = record { kind = IR.Union; a = 0; b = 0; c = 0; n2 = s.n2 }

  -- HConcat, Slice, ExtContext: all out-edges
  abbrev pub concat_outs : Bool
  concat_outs = e.ins

  -- SimpleProjection: both
  abbrev pub projection_both : Bool
  projection_both = e.in0 || e.out

  -- Cache: its out-edges, or else its in-edge
  abbrev pub cache_outs : Bool
  cache_outs = e.in0

  abbrev pub cache_in : Bool
  cache_in = not e.in0 && e.outs

  -- Sink
  abbrev pub sink_in : Bool
  sink_in = not maintains_order || e.in0

  abbrev pub distinct_options : Options
  distinct_options =
      record {
        kind = s.kind;
        a = if distinct_out || distinct_in then 0 else s.a;
        b = s.b;
        c = keep_strategy_number distinct_keeps;
        n2 = s.n2;
      }

  -- with the functions that a MapFunction may name
  module _ (functions : Functions) where
    -- MapFunction
    abbrev pub function : FunctionOrder
    function = functions s.a

    abbrev pub map_in : Bool
    map_in = not function.observes && (not function.equal || e.out)

    abbrev pub map_out : Bool
    map_out = not (function.produces (not (e.in0 || map_in))) && ((e.in0 || map_in) || not function.equal)

    -- the match: an arm per kind
    unfoldable pub arm : IR → Ruled
    arm IR.Scan = ruled s false false false
    arm IR.UnoptimizedDispatch = ruled s false false false
    arm IR.Sink = ruled (unmaintained_if sink_in s) sink_in false false
    arm IR.Select = ruled s select_in false select_out
    arm IR.HStack = ruled s select_in false select_out
    arm IR.Sort = ruled (unmaintained_if sort_in s) sort_in false false
    arm IR.Filter = ruled s filter_in false filter_out
    arm IR.GroupBy = ruled (unmaintained_if group_by_out s) group_by_in false group_by_out
    arm IR.Distinct = ruled distinct_options distinct_in false distinct_out
    arm IR.Join = join_rule
    arm IR.Gather = ruled s false gather_idxs gather_out
    arm IR.Union = ruled (unmaintained_if union_all s) union_all union_all union_all
    arm IR.MergeSorted = ruled (if merge_sorted_all then unordered_union else s) merge_sorted_all merge_sorted_all merge_sorted_all
    arm IR.MapFunction = ruled s map_in false map_out
    arm IR.HConcat = ruled s false false concat_outs
    arm IR.Slice = ruled s false false concat_outs
    arm IR.ExtContext = ruled s false false concat_outs
    arm IR.SimpleProjection = ruled s projection_both false projection_both
    arm IR.Cache = ruled s cache_in false cache_outs

-- the step's options after the visit, and the edges loosened
abbrev pub rule : Functions → Options → Around → Observable → Ruled
rule functions s e o = arm s e o functions s.kind

-- Refusals 10 and 11: the keys of a Join and of a partitioned Sink should be elementwise ---------------------------------------

abbrev pub elementwise : Observable → Bool
elementwise o = not (o.exprs ∪ o.aggs).independent && not o.internal.column

abbrev pub join_fails : Options → Observable → Bool
join_fails s o = same_ir s.kind IR.Join && not (elementwise o)

abbrev pub sink_fails : Options → Observable → Bool
sink_fails s o = same_ir s.kind IR.Sink && yes? s.b && not (elementwise o)

-- 10, 11, or 0 for neither
unfoldable pub refusal_number : Options → Observable → ℕ
refusal_number s o = if join_fails s o then 10 else if sink_fails s o then 11 else 0

-- The edges of a step ------------------------------------------------------------------------------------------------------

abbrev pub is_into : ℕ → Edge → Bool
is_into n d = eqb d.consumer n

abbrev pub is_out_of : ℕ → Edge → Bool
is_out_of n d = elim d.producer [ none ↦ false | some m ↦ eqb m n ]

abbrev pub no_edge : Edge
no_edge = record { consumer = 0; slot = 0; producer = none; unordered = false }

-- the edge leaving a step that has one
unfoldable pub out_edge : ℕ → List Edge → Edge
out_edge n ds = get_or (select (is_out_of n) ds) 0 no_edge

-- and the one into a step that has one
unfoldable pub in_edge : ℕ → List Edge → Edge
in_edge n ds = get_or (select (is_into n) ds) 0 no_edge

unfoldable pub ins_unordered : ℕ → List Edge → List Bool
ins_unordered n ds = map (λ (d : Edge). d.unordered) (select (is_into n) ds)

unfoldable pub outs_unordered : ℕ → List Edge → Bool
outs_unordered n ds = all? (λ (d : Edge). d.unordered) (select (is_out_of n) ds)

unfoldable pub around : ℕ → List Edge → Around
around n ds =
    let ins = ins_unordered n ds in
    record {
      ins = all? (λ b. b) ins;
      in0 = get_or ins 0 false;
      in1 = get_or ins 1 false;
      out = (out_edge n ds).unordered;
      outs = outs_unordered n ds;
    }

abbrev pub loosened : ℕ → Loosened → Edge → Edge
loosened n l d =
    record {
      consumer = d.consumer;
      slot = d.slot;
      producer = d.producer;
      unordered =
          d.unordered || (is_into n d && (if eqb d.slot 0 then l.in0 else l.later)) || (is_out_of n d && l.out);
    }

-- The looks of a visit -----------------------------------------------------------------------------------------------------

-- GroupBy: an Implode over each agg that is no scalar
abbrev pub implode_over : ℕ → Expr
implode_over q = record { kind = AExpr.Implode; scalar = true; length_preserving = false; option = 1; children = q ∷ [] }

unfoldable pub implode : ℕ → List Expr → ℕ × List Expr
implode q es = if (expr_at es q).scalar then (q, es) else (length es, es ++ (implode_over q ∷ []))

unfoldable pub imploded : List ℕ → List Expr → List ℕ × List Expr
imploded [] es = ([], es)
imploded (q ∷ qs) es =
    let (q', es₁) = implode q es in
    let (qs', es₂) = imploded qs es₁ in
    (q' ∷ qs', es₂)

-- the n3 list and the arena that the looks begin with
unfoldable pub with_implodes : Step → List Expr → List ℕ × List Expr
with_implodes s es = if same_ir s.kind IR.GroupBy then imploded s.aggs es else (s.aggs, es)

abbrev pub with_aggs : List ℕ → Step → Step
with_aggs qs s = record { kind = s.kind; a = s.a; b = s.b; c = s.c; inputs = s.inputs; exprs = s.exprs; aggs = qs }

-- allow_deordering_top of the n2 list; of the n3 list it is false
unfoldable pub allow_deordering_top : Options → Around → Bool
allow_deordering_top s e =
    if same_ir s.kind IR.Select || same_ir s.kind IR.HStack then e.out && (e.in0 || not (is_hstack s))
    else if same_ir s.kind IR.GroupBy then e.in0 && not (yes? s.a)
    else false

-- the looks of a visit: the step with its Implodes, its edges, the states before the n2 list, between the two lists and after the
-- n3 list, and what was observed. A step that has no expressions has empty lists
pub record Looked : Type 0 where
  pub step : Step
  pub around : Around
  pub start : Eos
  pub between : Eos
  pub end : Eos
  pub observable : Observable

-- expr_order_simplifier!
abbrev pub expr_order_simplifier : List Expr → Tally → Eos
expr_order_simplifier es tally =
    record { expr_arena = es; revisit_cache = λ _. none; struct_field_ordering = ∅; internally_observed = ∅; tally = tally }

unfoldable pub looks_of : Step → Around → List Expr → Tally → Looked
looks_of s e es tally =
    let (aggs, arena) = with_implodes s es in
    let start = expr_order_simplifier arena tally in
    let (exprs_observable, between) = simplify_projected_exprs s.exprs (allow_deordering_top (options_of s) e) start in
    let (aggs_observable, end) = simplify_projected_exprs aggs false between in
    record {
      step = with_aggs aggs s;
      around = e;
      start = start;
      between = between;
      end = end;
      observable = record { exprs = exprs_observable; aggs = aggs_observable; internal = end.internally_observed };
    }

-- unlink_node ----------------------------------------------------------------------------------------------------------------

-- the edge into n loses its producer, and is unordered as the one out of n was; the one out of n is produced by what produced the
-- edge into n (`from`): the key of n's input
abbrev pub relinked : ℕ → Option ℕ → Edge → Edge
relinked n from d =
    if is_into n d then record { consumer = d.consumer; slot = d.slot; producer = none; unordered = true }
    else if is_out_of n d then record { consumer = d.consumer; slot = d.slot; producer = from; unordered = d.unordered }
    else d

-- a step with another input in a slot
abbrev pub with_input : ℕ → ℕ → Step → Step
with_input k input s =
    record {
      kind = s.kind;
      a = s.a;
      b = s.b;
      c = s.c;
      inputs = set s.inputs k input;
      exprs = s.exprs;
      aggs = s.aggs;
    }

-- n's consumer takes n's input in its place
unfoldable pub unlink_node : ℕ → Run → Run
unlink_node n r =
    let input = get_or (step_at r.steps n).inputs 0 0 in
    let d = out_edge n r.edges in
    record {
      arena = r.arena;
      steps = set r.steps d.consumer (with_input d.slot input (step_at r.steps d.consumer));
      edges = map (relinked n (in_edge n r.edges).producer) r.edges;
      back = r.back;
      removed = n ∷ r.removed;
      tally = visit_more r.tally;
    }

-- A visit ----------------------------------------------------------------------------------------------------------------------

-- a Sort with an unordered out-edge and no slice goes
unfoldable pub goes : ℕ → Run → Bool
goes n r =
    let s = step_at r.steps n in
    same_ir s.kind IR.Sort && (out_edge n r.edges).unordered && not (yes? s.b)

unfoldable pub looked_in : ℕ → Run → Looked
looked_in n r = looks_of (step_at r.steps n) (around n r.edges) r.arena r.tally

-- what the step's rule makes of what the looks l observed
unfoldable pub ruling_of : Looked → Ruled
ruling_of l = rule rust_functions (options_of l.step) l.around l.observable

-- and so the run after them
unfoldable pub settled_by : Looked → ℕ → Run → Run
settled_by l n r =
    record {
      arena = l.end.expr_arena;
      steps = set r.steps n (with_options (ruling_of l).options l.step);
      edges = map (loosened n (ruling_of l).loosened) r.edges;
      back = n ∷ r.back;
      removed = r.removed;
      tally = visit_more l.end.tally;
    }

-- a visit that removes nothing
unfoldable pub settle : ℕ → Run → Outcome Run
settle n r =
    let l = looked_in n r in
    let k = refusal_number (options_of l.step) l.observable in
    if eqb k 0 then done (settled_by l n r) else refused k

unfoldable pub simplify_ir_node_orders : ℕ → Run → Outcome Run
simplify_ir_node_orders n r = if goes n r then done (unlink_node n r) else settle n r
