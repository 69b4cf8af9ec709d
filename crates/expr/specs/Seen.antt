-- What is seen of a record's children: their ExprOrderAcc, and the answers of the first three.
use Rattle.std.specs.Prelude.{◌≡◌, ℕ, List, eqb, get_or, if◌then◌else◌}
use Rattle.plan.specs.declared.orders.ObservableOrders.{ObservableOrders}
use Rattle.plan.specs.Orders.{∅, no_orders, add}
use Rattle.expr.specs.declared.seen.Seen.{Seen}

abbrev pub none_seen : Seen
none_seen = record { acc = no_orders; first = ∅; second = ∅; third = ∅ }

-- the answer o of the i-th child, which is the node, is seen
pub record Adds (x : Seen) (o : ObservableOrders) (node i : ℕ) (r : Seen) : Type 0 where
  pub acc : r.acc ≡ add x.acc o node
  pub first : r.first ≡ if eqb i 0 then o else x.first
  pub second : r.second ≡ if eqb i 1 then o else x.second
  pub third : r.third ≡ if eqb i 2 then o else x.third

-- what the definition has of the answers os, as far as a record reads them
pub record Sees (os : List ObservableOrders) (x : Seen) : Type 0 where
  pub first : get_or os 0 ∅ ≡ x.first
  pub second : get_or os 1 ∅ ≡ x.second
  pub third : get_or os 2 ∅ ≡ x.third
