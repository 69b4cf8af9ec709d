-- ExprOrderSimplifier of expr.rs: a look (document 01's term for one call of `rec`), and a list of projected expressions.
use Rattle.std.specs.Prelude.{ℕ, zero, suc, Bool, true, false, ◌&&◌, ◌||◌, not, List, [], ◌∷◌, ◌++◌, eqb, get_or, set, length, take, drop, if◌then◌else◌}
use Rattle.std.proofs.Math.Option.{Option, none, some}
use Rattle.plan.specs.declared.tally.Tally.{Tally}
use Rattle.plan.specs.Tally.{look_more}
use Rattle.plan.specs.declared.aexpr.AExpr.{AExpr}
use Rattle.plan.specs.declared.looks.Before.{Before}
use Rattle.plan.specs.declared.orders.ExprOrderAcc.{ExprOrderAcc}
use Rattle.plan.specs.declared.orders.ObservableOrders.{ObservableOrders}
use Rattle.plan.specs.Kinds.{same_aexpr}
use Rattle.plan.specs.FunctionFlags.{observes_input_order, terminates_input_order, non_order_producing}
use Rattle.plan.specs.Lists.{yes?, all?, first_last}
use Rattle.plan.specs.Sheet.{Expr, expr_at}
use Rattle.plan.specs.Orders.{∅, COLUMN, INDEPENDENT, ◌∪◌, is_empty, no_orders, add, single}

-- what the looks of one visit share, and the run's tally
pub record Eos : Type 0 where
  pub expr_arena : List Expr
  pub revisit_cache : ℕ → Option ObservableOrders  -- a map: the entry of a node, if it has one
  pub struct_field_ordering : ObservableOrders  -- ∅ for the Rust's None, which refusal 9 keeps from being read
  pub internally_observed : ObservableOrders
  pub tally : Tally

-- Changes of the state ---------------------------------------------------------------------------------------------------

abbrev pub one_look : Eos → Eos
one_look s =
    record {
      expr_arena = s.expr_arena;
      revisit_cache = s.revisit_cache;
      struct_field_ordering = s.struct_field_ordering;
      internally_observed = s.internally_observed;
      tally = look_more s.tally;
    }

abbrev pub with_arena : List Expr → Eos → Eos
with_arena es s =
    record {
      expr_arena = es;
      revisit_cache = s.revisit_cache;
      struct_field_ordering = s.struct_field_ordering;
      internally_observed = s.internally_observed;
      tally = s.tally;
    }

abbrev pub with_field : ObservableOrders → Eos → Eos
with_field o s =
    record {
      expr_arena = s.expr_arena;
      revisit_cache = s.revisit_cache;
      struct_field_ordering = o;
      internally_observed = s.internally_observed;
      tally = s.tally;
    }

abbrev pub internal_observe : ObservableOrders → Eos → Eos
internal_observe o s =
    record {
      expr_arena = s.expr_arena;
      revisit_cache = s.revisit_cache;
      struct_field_ordering = s.struct_field_ordering;
      internally_observed = s.internally_observed ∪ o;
      tally = s.tally;
    }

-- the map with an entry more
abbrev pub with_entry : ℕ → ObservableOrders → (ℕ → Option ObservableOrders) → ℕ → Option ObservableOrders
with_entry p o cache q = if eqb q p then some o else cache q

-- cache_output!, if it should
abbrev pub cache_output : Bool → ℕ → ObservableOrders → Eos → Eos
cache_output should_cache p o s =
    record {
      expr_arena = s.expr_arena;
      revisit_cache = if should_cache then with_entry p o s.revisit_cache else s.revisit_cache;
      struct_field_ordering = s.struct_field_ordering;
      internally_observed = s.internally_observed;
      tally = s.tally;
    }

-- The kinds, before the looks along the children ---------------------------------------------------------------------------

-- RecursionState: is de-ordering allowed?
abbrev pub NO_DEORDER : Bool
NO_DEORDER = false

abbrev pub ALLOW_DEORDER : Bool
ALLOW_DEORDER = true

-- Before is the code's own type (plan/src/looks.rt): does it check the cache, is its first child looked at last, and the mode of
-- the look that comes first
abbrev pub row : Bool → Bool → Bool → Before
row c t f = record { checks = c; turned = t; first = f }

-- e the record, allow the mode in which it is looked at
module _ (e : Expr) (allow : Bool) where
  --                            checks turned first
  unfoldable pub before : AExpr → Before
  before AExpr.Column = row false false NO_DEORDER
  before AExpr.Literal = row false false NO_DEORDER
  before AExpr.Element = row false false NO_DEORDER
  before AExpr.StructField = row false false NO_DEORDER
  before AExpr.Len = row false false NO_DEORDER
  before AExpr.BinaryExpr = row true false NO_DEORDER
  before AExpr.Ternary = row true true NO_DEORDER  -- truthy, falsy, predicate
  before AExpr.Cast = row false false allow
  before AExpr.Explode = row false false allow
  before AExpr.Sort = row false false ALLOW_DEORDER  -- an expression's sort never maintains order
  before AExpr.SortBy = row false false allow
  before AExpr.Filter = row true false NO_DEORDER
  before AExpr.Gather = row true false NO_DEORDER
  before AExpr.Slice = row false true NO_DEORDER  -- offset, length, input
  before AExpr.Eval = row true false NO_DEORDER
  before AExpr.StructEval = row true false NO_DEORDER
  before AExpr.Over = row true false NO_DEORDER
  before AExpr.Rolling = row true false NO_DEORDER
  before AExpr.MinBy = row true false NO_DEORDER
  before AExpr.Function = row true false NO_DEORDER
  before AExpr.AnonymousAgg = row true false NO_DEORDER
  before AExpr.First = row true false NO_DEORDER
  before AExpr.Min = row true false ALLOW_DEORDER
  before AExpr.Implode = row true false (not (yes? e.option))  -- allowed unless it maintains order
  before AExpr.AggGroups = row true false NO_DEORDER

-- the children in the order of the looks
abbrev pub in_order : Before → List ℕ → List ℕ
in_order b cs = if b.turned then first_last cs else cs

-- check_return_cached!: the answer that a look gives at once
unfoldable pub check_return_cached : Before → ℕ → Eos → Option ObservableOrders
check_return_cached b p s = if b.checks then s.revisit_cache p else none

-- Sort, and SortBy over children that preserve length, where de-ordering is allowed: the first child's record takes its place
unfoldable pub is_replaced : List Expr → Expr → Bool → Bool
is_replaced es e allow =
    allow
    && (same_aexpr e.kind AExpr.Sort
    || (same_aexpr e.kind AExpr.SortBy && all? (λ q. (expr_at es q).length_preserving) e.children))

abbrev pub replace_by_input : ℕ → Expr → Eos → Eos
replace_by_input p e s = with_arena (set s.expr_arena p (expr_at s.expr_arena (get_or e.children 0 0))) s

-- The kinds, after the looks along the children ----------------------------------------------------------------------------

-- a Function's output_observable, by terminates_input_order and non_order_producing
abbrev pub function_output : Bool → Bool → ObservableOrders → ObservableOrders
function_output false false input_order = input_order ∪ INDEPENDENT
function_output false true input_order = input_order
function_output true false input_order = INDEPENDENT
function_output true true input_order = ∅

-- what a record does once its children have answered. It holds a function, so it is no type of the code
pub record After : Type 0 where
  pub observes : ObservableOrders  -- handed to internal_observe
  pub again : Bool  -- is the single ordered child looked at once more, in ALLOW_DEORDER?
  pub answer : ObservableOrders  -- where no child is looked at again
  pub answer_again : ObservableOrders → ObservableOrders  -- from the answer of the second look
  pub caches : Bool  -- cache_output!

-- a kind that may look at a child again
abbrev pub twice : ObservableOrders → Bool → ObservableOrders → (ObservableOrders → ObservableOrders) → Bool → After
twice o b a f c = record { observes = o; again = b; answer = a; answer_again = f; caches = c }

-- a kind that looks at no child again
abbrev pub once : ObservableOrders → ObservableOrders → Bool → After
once o a c = twice o false a (λ _. a) c

-- and observes nothing and caches nothing
abbrev pub plain : ObservableOrders → After
plain a = once ∅ a false

-- e the record; field struct_field_ordering; os the children's answers, as they were looked at; x their ExprOrderAcc
module _ (e : Expr) (allow : Bool) (field : ObservableOrders) (os : List ObservableOrders) (x : ExprOrderAcc) where
  abbrev pub o₀ : ObservableOrders
  o₀ = get_or os 0 ∅

  abbrev pub o₁ : ObservableOrders
  o₁ = get_or os 1 ∅

  abbrev pub o₂ : ObservableOrders
  o₂ = get_or os 2 ∅

  abbrev pub if_mixed : ObservableOrders → ObservableOrders
  if_mixed o = if x.saw_mixed_inputs then o else ∅

  -- `else if let Some(node) = acc.single_ordered_node() && ..`
  abbrev pub else_single : Bool → Bool
  else_single b = not x.saw_mixed_inputs && single x && b

  -- the option of SortBy and Implode: maintain_order; of Gather: returns_scalar; of Eval: Cumulative
  abbrev pub option? : Bool
  option? = yes? e.option

  abbrev pub function_again : Bool
  function_again = single x && not (observes_input_order e.option) && (allow || terminates_input_order e.option)

  -- a Function's, from its input_order
  abbrev pub output_observable : ObservableOrders → ObservableOrders
  output_observable = function_output (terminates_input_order e.option) (non_order_producing e.option)

  -- once: observes, answer, caches; twice: observes, again, answer, answer_again, caches
  unfoldable pub after : AExpr → After
  after AExpr.Column = plain COLUMN
  after AExpr.Literal = plain (if e.scalar then ∅ else INDEPENDENT)
  after AExpr.Element = plain INDEPENDENT
  after AExpr.StructField = plain field
  after AExpr.Len = plain ∅
  after AExpr.BinaryExpr = twice (if_mixed x.acc) (else_single allow) x.acc (λ i. i) (x.saw_mixed_inputs || else_single allow)
  after AExpr.Ternary =
      twice (if_mixed (o₀ ∪ o₁)) (else_single allow) (o₀ ∪ o₁)
      (λ i. if eqb x.last_ordered_node (get_or e.children 0 0) then ∅ else i)  -- the predicate's order is not the output's
      (x.saw_mixed_inputs || else_single allow)
  after AExpr.Cast = plain o₀
  after AExpr.Explode = plain (o₀ ∪ INDEPENDENT)
  after AExpr.Sort = plain INDEPENDENT
  after AExpr.SortBy = once (if_mixed x.acc) (if option? then o₀ ∪ INDEPENDENT else INDEPENDENT) false
  after AExpr.Filter = twice (if_mixed x.acc) (else_single (is_empty o₀ && not (is_empty o₁))) o₀ (λ _. o₀) true
  after AExpr.Gather = once o₀ (if option? || is_empty o₀ then ∅ else o₁) true
  after AExpr.Slice = once (o₂ ∪ if_mixed x.acc) o₂ false
  after AExpr.Eval = once (if option? then o₀ else ∅) (if option? then o₀ ∪ INDEPENDENT else o₀) true
  after AExpr.StructEval = twice (if_mixed x.acc) (else_single allow) x.acc (λ i. i) (x.saw_mixed_inputs || else_single allow)
  after AExpr.Over = once x.acc (x.acc ∪ INDEPENDENT) true
  after AExpr.Rolling = once x.acc (x.acc ∪ INDEPENDENT) true
  after AExpr.MinBy = once x.acc ∅ true
  after AExpr.Function =
      twice ((if observes_input_order e.option then x.acc else ∅) ∪ if_mixed x.acc) function_again
      (output_observable x.acc) output_observable (x.saw_mixed_inputs || function_again)
  after AExpr.AnonymousAgg = once x.acc (x.acc ∪ INDEPENDENT) true
  after AExpr.First = once o₀ ∅ true
  after AExpr.Min = once ∅ ∅ true
  after AExpr.Implode = once (if option? then o₀ else ∅) ∅ (not option? || is_empty o₀)
  after AExpr.AggGroups = once o₀ (o₀ ∪ INDEPENDENT) true

-- an Implode over nothing ordered no longer maintains order: it is replaced by itself, switched off
abbrev pub loses_order : Expr → List ObservableOrders → Bool
loses_order e os = same_aexpr e.kind AExpr.Implode && yes? e.option && is_empty (get_or os 0 ∅)

abbrev pub switched_off : Expr → Expr
switched_off e =
    record { kind = e.kind; scalar = e.scalar; length_preserving = e.length_preserving; option = 0; children = e.children }

abbrev pub replace_implode : ℕ → Expr → List ObservableOrders → Eos → Eos
replace_implode p e os s =
    with_arena (if loses_order e os then set s.expr_arena p (switched_off (expr_at s.expr_arena p)) else s.expr_arena) s

-- the fields of a StructEval have the order of its first child
abbrev pub enter_struct : Expr → List ObservableOrders → Eos → Eos
enter_struct e os s = with_field (if same_aexpr e.kind AExpr.StructEval then get_or os 0 ∅ else s.struct_field_ordering) s

-- The look ---------------------------------------------------------------------------------------------------------------

abbrev pub Look : Type 0
Look = Bool → ℕ → Eos → ObservableOrders × Eos

-- along children in one mode: their answers are added to os and x
unfoldable pub look_along : Look → Bool → List ℕ → List ObservableOrders → ExprOrderAcc → Eos → List ObservableOrders × ExprOrderAcc × Eos
look_along rec mode [] os x s = (os, x, s)
look_along rec mode (q ∷ qs) os x s = let (o, s') = rec mode q s in look_along rec mode qs (os ++ (o ∷ [])) (add x o q) s'

-- the single ordered child once more, or not
unfoldable pub look_again : Look → Bool → ExprOrderAcc → Eos → ObservableOrders × Eos
look_again rec true x s = rec ALLOW_DEORDER x.last_ordered_node s
look_again rec false x s = (x.acc, s)

-- along all the children of a record: the first look in its own mode, the others in NO_DEORDER
unfoldable pub look_along_children : Look → Expr → Before → Eos → List ObservableOrders × ExprOrderAcc × Eos
look_along_children rec e b s =
    let qs = in_order b e.children in
    let (os, x, s₁) = look_along rec b.first (take 1 qs) [] no_orders s in
    look_along rec NO_DEORDER (drop 1 qs) os x (enter_struct e os s₁)

-- the end of a look at p, whose record was e, with the answer o
unfoldable pub look_ended : ℕ → Expr → After → ObservableOrders → ObservableOrders → List ObservableOrders → Eos → Eos
look_ended p e v o field os s = cache_output v.caches p o (replace_implode p e os (internal_observe v.observes (with_field field s)))

-- a look that finds no cached answer and replaces nothing
unfoldable pub look_whole : Look → Bool → ℕ → Expr → Before → Eos → ObservableOrders × Eos
look_whole rec allow p e b s =
    let field = s.struct_field_ordering in
    let (os, x, s₂) = look_along_children rec e b s in
    let v = after e allow field os x e.kind in
    let (i, s₃) = look_again rec v.again x s₂ in
    let o = if v.again then v.answer_again i else v.answer in
    (o, look_ended p e v o field os s₃)

-- by the answer that it gives at once, and by whether the record is replaced
unfoldable pub look_at : Look → Bool → ℕ → Expr → Before → Eos → Option ObservableOrders → Bool → ObservableOrders × Eos
look_at rec allow p e b s (some o) replaced = (o, s)
look_at rec allow p e b s none true = rec allow p (replace_by_input p e s)
look_at rec allow p e b s none false = look_whole rec allow p e b s

-- `rec`. The fuel is above the height of p's tree, which falls to a child, and where the child's record takes p's place
unfoldable pub look : ℕ → Look
look zero allow p s = (∅, s)
look (suc f) allow p s₀ =
    let s = one_look s₀ in
    let e = expr_at s.expr_arena p in
    let b = before e allow e.kind in
    look_at (λ mode q t. look f mode q t) allow p e b s (check_return_cached b p s) (is_replaced s.expr_arena e allow)

-- every tree is lower than the arena is long
unfoldable pub simplify_projected_exprs : List ℕ → Bool → Eos → ObservableOrders × Eos
simplify_projected_exprs ae_nodes allow_deordering_top s =
    let rec : Look = look (length s.expr_arena) in
    let (os, x, s₁) = look_along rec NO_DEORDER ae_nodes [] no_orders s in
    look_again rec (single x && allow_deordering_top) x (internal_observe (if x.saw_mixed_inputs then x.acc else ∅) s₁)
