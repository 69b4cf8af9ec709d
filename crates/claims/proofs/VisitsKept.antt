-- The looks of a visit add no visit to the tally.
use Rattle.std.specs.Prelude.{if◌then◌else◌}
use mathlib.Core.Path.{◌≡◌, refl, ◌∙◌}
use Prim.Native.Nat.{ℕ, zero, suc}
use mathlib.Core.Bool.{Bool, true, false, ◌&&◌}
use mathlib.Core.List.{List, [], ◌∷◌, ◌++◌}
use mathlib.Core.Option.{Option, none, some}
use lib.ListN.{length, take, drop}
use Rattle.plan.specs.declared.looks.Before.{Before}
use Rattle.plan.specs.declared.orders.ExprOrderAcc.{ExprOrderAcc}
use Rattle.plan.specs.declared.orders.ObservableOrders.{ObservableOrders}
use Rattle.plan.specs.Sheet.{Expr, Step, expr_at, step_at}
use Rattle.plan.specs.Orders.{∅, no_orders, add, single}
use Rattle.plan.specs.Look.{Eos, one_look, internal_observe, before, in_order, check_return_cached, is_replaced, replace_by_input, after, enter_struct, Look, look_along, look_again, look_along_children, look_ended, look_whole, look_at, look, simplify_projected_exprs, NO_DEORDER}
use Rattle.plan.specs.declared.tally.Tally.{Tally}
use Rattle.plan.specs.declared.rules.Around.{Around}
use Rattle.plan.specs.Visit.{Run, around, looks_of, looked_in}

abbrev visits : Eos → ℕ
visits s = s.tally.visits

module _ (rec : Look) (same : (m : Bool) (q : ℕ) (s : Eos) → visits (rec m q s).1 ≡ visits s) where
  along : (m : Bool) (qs : List ℕ) (os : List ObservableOrders) (x : ExprOrderAcc) (s : Eos) → visits (look_along rec m qs os x s).2 ≡ visits s
  unfolding look_along
  along m [] os x s = refl
  along m (q ∷ qs) os x s = along m qs (os ++ ((rec m q s).0 ∷ [])) (add x (rec m q s).0 q) (rec m q s).1 ∙ same m q s

  again : (b : Bool) (x : ExprOrderAcc) (s : Eos) → visits (look_again rec b x s).1 ≡ visits s
  unfolding look_again
  again true x s = same true x.last_ordered_node s
  again false x s = refl

  whole : (allow : Bool) (p : ℕ) (e : Expr) (b : Before) (s : Eos) → visits (look_whole rec allow p e b s).1 ≡ visits s
  unfolding look_whole look_along_children look_ended
  whole allow p e b s =
      let qs = in_order b e.children in
      let l = look_along rec b.first (take 1 qs) [] no_orders s in
      let d = look_along_children rec e b s in
      let v = after e allow s.struct_field_ordering d.0 d.1 e.kind in
      again v.again d.1 d.2 ∙ along NO_DEORDER (drop 1 qs) l.0 l.1 (enter_struct e l.0 l.2)
      ∙ along b.first (take 1 qs) [] no_orders s

  at : (allow : Bool) (p : ℕ) (e : Expr) (b : Before) (s : Eos) (c : Option ObservableOrders) (r : Bool) → visits (look_at rec allow p e b s c r).1 ≡ visits s
  unfolding look_at
  at allow p e b s (some o) r = refl
  at allow p e b s none true = same allow p (replace_by_input p e s)
  at allow p e b s none false = whole allow p e b s

looked : (f : ℕ) (m : Bool) (q : ℕ) (s : Eos) → visits (look f m q s).1 ≡ visits s
unfolding look
looked zero m q s = refl
looked (suc f) m q s =
    let e = expr_at s.expr_arena q in
    let b = before e m e.kind in
    at (look f) (looked f) m q e b (one_look s) (check_return_cached b q (one_look s)) (is_replaced s.expr_arena e m)

pub list_visits : (qs : List ℕ) (allow : Bool) (s : Eos) → visits (simplify_projected_exprs qs allow s).1 ≡ visits s
unfolding simplify_projected_exprs
list_visits qs allow s =
    let f = length s.expr_arena in
    let rec : Look = look f in
    let l = look_along rec NO_DEORDER qs [] no_orders s in
    again rec (looked f) (single l.1 && allow) l.1 (internal_observe (if l.1.saw_mixed_inputs then l.1.acc else ∅) l.2)
    ∙ along rec (looked f) NO_DEORDER qs [] no_orders s

pub looks_visits : (s : Step) (e : Around) (es : List Expr) (t : Tally) → visits (looks_of s e es t).end ≡ t.visits
unfolding looks_of
looks_visits s e es t = list_visits _ _ (looks_of s e es t).between ∙ list_visits _ _ (looks_of s e es t).start

pub visit_visits : (n : ℕ) (r : Run) → visits (looked_in n r).end ≡ r.tally.visits
unfolding looked_in
visit_visits n r = looks_visits (step_at r.steps n) (around n r.edges) r.arena r.tally
