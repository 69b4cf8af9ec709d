-- Who looks at a child again, and at which.
use Rattle.std.specs.Prelude.{if◌then◌else◌}
use mathlib.Core.Path.{◌≡◌, refl}
use mathlib.Core.Logic.{◌⊎◌, inl, inr}
use Prim.Native.Nat.{ℕ, ◌+◌, ◌≤◌}
use native.Mathlib.Omega.{arith}
use native.Mathlib.Nat.{not-suc-le-zero}
use mathlib.Core.Bool.{Bool, true, false, ◌&&◌, ◌||◌, not}
use mathlib.Core.List.Memᴰ
use mathlib.Core.List.{List, [], ◌∷◌, ◌++◌, Memᴰ}
use lib.Dec.{T, eqb→eq}
use lib.ListN.{take, drop}
use Rattle.plan.specs.declared.aexpr.AExpr.{AExpr}
use Rattle.plan.specs.declared.looks.Before.{Before}
use Rattle.plan.specs.declared.orders.ExprOrderAcc.{ExprOrderAcc}
use Rattle.plan.specs.declared.orders.ObservableOrders.{ObservableOrders}
use Rattle.plan.specs.FunctionFlags.{observes_input_order, terminates_input_order}
use Rattle.plan.specs.Lists.{sum, first_last}
use Rattle.plan.specs.Sheet.{Expr}
use Rattle.plan.specs.Orders.{no_orders, add, single, is_empty}
use Rattle.plan.specs.Look.{Eos, Look, before, after, in_order, enter_struct, look_along, look_along_children, NO_DEORDER}
use Rattle.plan.proofs.ListLaws.{and_left, and_right, sum_append}

or_right : (a b : Bool) → T b → T (a || b)
or_right true b t = tt
or_right false b t = t

module _ (e : Expr) (allow : Bool) (field : ObservableOrders) (os : List ObservableOrders) (x : ExprOrderAcc) where
  -- a record that looks at a child again has a single ordered child, has found nothing in the cache, and is cached
  pub record Again (k : AExpr) : Type 0 where
    pub one : T (single x)
    pub checks : T (before e allow k).checks
    pub caches : T (after e allow field os x k).caches

  one_of_else : (b : Bool) → T (not x.saw_mixed_inputs && single x && b) → T (single x)
  one_of_else b t =
      and_right (not x.saw_mixed_inputs) (single x) (and_left (not x.saw_mixed_inputs && single x) b t)

  pub looks_again : (k : AExpr) → T (after e allow field os x k).again → Again k
  unfolding after before
  looks_again AExpr.Column t = absurd t
  looks_again AExpr.Literal t = absurd t
  looks_again AExpr.Element t = absurd t
  looks_again AExpr.StructField t = absurd t
  looks_again AExpr.Len t = absurd t
  looks_again AExpr.BinaryExpr t = record { one = one_of_else allow t; checks = tt; caches = or_right x.saw_mixed_inputs _ t }
  looks_again AExpr.Ternary t = record { one = one_of_else allow t; checks = tt; caches = or_right x.saw_mixed_inputs _ t }
  looks_again AExpr.Cast t = absurd t
  looks_again AExpr.Explode t = absurd t
  looks_again AExpr.Sort t = absurd t
  looks_again AExpr.SortBy t = absurd t
  looks_again AExpr.Filter t = record { one = one_of_else _ t; checks = tt; caches = tt }
  looks_again AExpr.Gather t = absurd t
  looks_again AExpr.Slice t = absurd t
  looks_again AExpr.Eval t = absurd t
  looks_again AExpr.StructEval t = record { one = one_of_else allow t; checks = tt; caches = or_right x.saw_mixed_inputs _ t }
  looks_again AExpr.Over t = absurd t
  looks_again AExpr.Rolling t = absurd t
  looks_again AExpr.MinBy t = absurd t
  looks_again AExpr.Function t =
      let calm = not (observes_input_order e.option) in
      record {
        one = and_left (single x) calm (and_left (single x && calm) (allow || terminates_input_order e.option) t);
        checks = tt;
        caches = or_right x.saw_mixed_inputs _ t;
      }
  looks_again AExpr.AnonymousAgg t = absurd t
  looks_again AExpr.First t = absurd t
  looks_again AExpr.Min t = absurd t
  looks_again AExpr.Implode t = absurd t
  looks_again AExpr.AggGroups t = absurd t

-- The last ordered child is a child ----------------------------------------------------------------------------------------

abbrev Last : List ℕ → ExprOrderAcc → Type 0
Last qs x = 1 ≤ x.num_ordered_inputs → Memᴰ x.last_ordered_node qs

last_add : (all : List ℕ) (x : ExprOrderAcc) (o : ObservableOrders) (q : ℕ) → Memᴰ q all → Last all x → Last all (add x o q)
unfolding add
last_add all x o q m l = by (is_empty o)
  where
    by : (b : Bool) → 1 ≤ (if b then x.num_ordered_inputs else x.num_ordered_inputs + 1) → Memᴰ (if b then x.last_ordered_node else q) all
    by true h = l h
    by false h = m

last_along : (all : List ℕ) (rec : Look) (m : Bool) (qs : List ℕ) (os : List ObservableOrders) (x : ExprOrderAcc) (s : Eos) → ((q : ℕ) → Memᴰ q qs → Memᴰ q all) → Last all x → Last all (look_along rec m qs os x s).1
unfolding look_along
last_along all rec m [] os x s i l = l
last_along all rec m (q ∷ qs) os x s i l =
    last_along all rec m qs (os ++ ((rec m q s).0 ∷ [])) (add x (rec m q s).0 q) (rec m q s).1 (λ z k. i z (Memᴰ.tail k)) (last_add all x (rec m q s).0 q (i q (Memᴰ.head refl)) l)

none_yet : (all : List ℕ) → Last all no_orders
none_yet all h = absurd (not-suc-le-zero h)

at_least_one : (x : ExprOrderAcc) → T (single x) → 1 ≤ x.num_ordered_inputs
at_least_one x t = omega (arith, eqb→eq x.num_ordered_inputs 1 t)

pub of_take : (qs : List ℕ) (q : ℕ) → Memᴰ q (take 1 qs) → Memᴰ q qs
of_take [] q m = m
of_take (c ∷ qs) q m = Memᴰ.head (Memᴰ.eq_of_singleton m)

pub of_drop : (qs : List ℕ) (q : ℕ) → Memᴰ q (drop 1 qs) → Memᴰ q qs
of_drop [] q m = m
of_drop (c ∷ qs) q m = Memᴰ.tail m

-- of a list, and of a record's children
pub single_of_list : (rec : Look) (m : Bool) (qs : List ℕ) (s : Eos)
    → let x = (look_along rec m qs [] no_orders s).1 in
    T (single x) → Memᴰ x.last_ordered_node qs
single_of_list rec m qs s t =
    last_along qs rec m qs [] no_orders s (λ q k. k) (none_yet qs) (at_least_one (look_along rec m qs [] no_orders s).1 t)

pub single_of_children : (rec : Look) (e : Expr) (b : Before) (s : Eos)
    → let x = (look_along_children rec e b s).1 in
    T (single x) → Memᴰ x.last_ordered_node (in_order b e.children)
unfolding look_along_children
single_of_children rec e b s t =
    let qs = in_order b e.children in
    let l = look_along rec b.first (take 1 qs) [] no_orders s in
    let s₁ = enter_struct e l.0 l.2 in
    last_along qs rec NO_DEORDER (drop 1 qs) l.0 l.1 s₁ (of_drop qs)
    (last_along qs rec b.first (take 1 qs) [] no_orders s (of_take qs) (none_yet qs))
    (at_least_one (look_along rec NO_DEORDER (drop 1 qs) l.0 l.1 s₁).1 t)

-- The order of the looks ---------------------------------------------------------------------------------------------------

pub sum_in_order : (w : ℕ → ℕ) (b : Before) (cs : List ℕ) → sum w (in_order b cs) ≡ sum w cs
unfolding sum
sum_in_order w b cs = by b.turned cs
  where
    by : (t : Bool) (cs : List ℕ) → sum w (if t then first_last cs else cs) ≡ sum w cs
    by true [] = refl
    by true (c ∷ cs) = omega (arith, sum_append w cs (c ∷ []))
    by false cs = refl

pub of_in_order : (b : Before) (cs : List ℕ) (q : ℕ) → Memᴰ q (in_order b cs) → Memᴰ q cs
of_in_order b cs q = by b.turned cs
  where
    turn : (c : ℕ) (cs : List ℕ) → Memᴰ q cs ⊎ Memᴰ q (c ∷ []) → Memᴰ q (c ∷ cs)
    turn c cs (inl m) = Memᴰ.tail m
    turn c cs (inr m) = Memᴰ.head (Memᴰ.eq_of_singleton m)

    by : (t : Bool) (cs : List ℕ) → Memᴰ q (if t then first_last cs else cs) → Memᴰ q cs
    by true [] m = m
    by true (c ∷ cs) m = turn c cs (Memᴰ.append_cases cs m)
    by false cs m = m
