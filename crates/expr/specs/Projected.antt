-- What a list of projected expressions asks and gives, and the state that a visit starts with.
use Rattle.std.specs.Prelude.{Option, None, ◌≡◌, ℕ, ◌≤◌, ◌<◌, ◌^◌, Bool, List, [], length, drop, replicate}
use Rattle.plan.specs.declared.orders.ObservableOrders.{ObservableOrders}
use Rattle.plan.specs.declared.tally.Tally.{Tally}
use Rattle.plan.specs.Orders.{no_orders}
use Rattle.plan.specs.Look.{NO_DEORDER, look, look_along, simplify_projected_exprs}
use Rattle.plan.specs.Visit.{expr_order_simplifier}
use Rattle.storage.specs.Stored.{arena_of}
use Rattle.storage.specs.declared.entries.Entries.{Entries}
use Rattle.storage.specs.Entries.{list_of}
use Rattle.expr.specs.declared.eos.Eos.{Eos}
use Rattle.expr.specs.declared.seen.Seen.{Seen}
use Rattle.storage.specs.Based.{Falls}
use Rattle.expr.specs.State.{State, state, eos_of, Kept}
use Rattle.expr.specs.Contract.{looked_of, Begun}

-- a revisit cache without entries
abbrev pub no_entries : List (Option ObservableOrders)
no_entries = replicate 128 None

-- beside such a cache, and before any look
pub record Started (s : Eos) : Type 0 where
  pub is : (tally : Tally) (recs : List ℕ) (n : ℕ) (line : List ℕ) (off : List Bool)
      → eos_of tally recs n (state line off no_entries s) ≡ expr_order_simplifier (arena_of recs line off n) tally

pub record ListAsks (recs : List ℕ) (n : ℕ) (s : State) (list : Entries) (allow : Bool) : Type 0 where
  pub cached : length s.cache ≡ 128
  pub few : list.count ≤ 8
  pub room : length list.nodes ≡ 8
  pub falls : Falls n (list_of list)
  pub tally : Tally
  pub fits : (simplify_projected_exprs (list_of list) allow (eos_of tally recs n s)).1.tally.looks < 2 ^ 58

pub record ListGives (recs : List ℕ) (n : ℕ) (s : State) (list : Entries) (allow : Bool) (r : State) : Type 0 where
  pub is : (tally : Tally) → looked_of tally recs n r ≡ simplify_projected_exprs (list_of list) allow (eos_of tally recs n s)
  pub kept : Kept s r

-- the invariant: from s on, the looks at the first i of the list left the state t, and the others go on from it
pub record ListReached (recs : List ℕ) (n : ℕ) (s : State) (list : Entries) (t : State) (x : Seen) (i : ℕ) : Type 0 where
  pub most : i ≤ list.count
  pub os : List ObservableOrders
  pub begun : Begun n i os x
  pub kept : Kept s t
  pub is : (tally : Tally)
      → look_along (look n) NO_DEORDER (list_of list) [] no_orders (eos_of tally recs n s)
      ≡ look_along (look n) NO_DEORDER (drop i (list_of list)) os x.acc (eos_of tally recs n t)
