use mathlib.Core.Path.{◌≡◌}
use Prim.Native.Nat.{ℕ, ◌+◌}
use mathlib.Core.Bool.{Bool, true, false, ◌&&◌, ◌||◌, not}
use Rattle.plan.specs.declared.orders.ExprOrderAcc.{ExprOrderAcc}
use Rattle.plan.specs.declared.orders.ObservableOrders.{ObservableOrders}
use Rattle.plan.specs.Orders.{◌∪◌, is_empty, add}
use Rattle.plan.proofs.orders.ExprOrderAcc.add.Goals as goal

-- the two ways: e and d say whether the right and the accumulated orders are empty, u is their union
module _ (x : ExprOrderAcc) (right : ObservableOrders) (node : ℕ) (e d : Bool) (u : ObservableOrders) (e_is : e ≡ is_empty right) (d-is : d ≡ is_empty x.acc) (u_is : u ≡ x.acc ∪ right) where
  abbrev mixed : Bool
  mixed = x.saw_mixed_inputs || (x.acc.independent && not e) || (right.independent && not d)

  added_none : e ≡ true
      → record { acc = u; saw_mixed_inputs = mixed; num_ordered_inputs = x.num_ordered_inputs; last_ordered_node = x.last_ordered_node }
      ≡ add x right node
  unfolding add
  added_none q = rw (u_is, d-is, ← e_is, q)

  added-one : e ≡ false
      → record { acc = u; saw_mixed_inputs = mixed; num_ordered_inputs = x.num_ordered_inputs + 1; last_ordered_node = node }
      ≡ add x right node
  unfolding add
  added-one q = rw (u_is, d-is, ← e_is, q)

pub returns-then-empty : goal.returns-then-empty
returns-then-empty c = added_none _ _ _ _ _ _ c.is_empty-empty.ensures c.is_empty.ensures c.union.ensures c.if-empty.true

pub returns : goal.returns
returns c = added-one _ _ _ _ _ _ c.is_empty-empty.ensures c.is_empty.ensures c.union-2.ensures c.if-empty.false
