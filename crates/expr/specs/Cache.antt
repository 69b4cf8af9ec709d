-- The revisit cache: for each node its entry, if it has one.
use Rattle.std.specs.Prelude.{ℕ, List, Option, None, get_or}
use Rattle.std.proofs.Math.Option as definition
use Rattle.plan.specs.Refusals.{option_of}
use Rattle.plan.specs.declared.orders.ObservableOrders.{ObservableOrders}

-- the map that the entries hold
unfoldable pub cache_of : List (Option ObservableOrders) → ℕ → definition.Option ObservableOrders
cache_of entries q = option_of (get_or entries q None)
