-- The lines before anything is changed: an arena of the stored records.
use mathlib.Core.Path.{◌≡◌}
use Prim.Native.Nat.{ℕ, ◌≤◌}
use native.Mathlib.Omega.{arith}
use mathlib.Core.Bool.{Bool}
use mathlib.Core.List.{List}
use Rattle.std.specs.Prelude.{Option, None}
use lib.ListN.{length-replicate}
use Rattle.plan.specs.declared.orders.ObservableOrders.{ObservableOrders}
use Rattle.expr.specs.declared.eos.Eos.{Eos}
use Rattle.expr.specs.State.{state}
use Rattle.expr.specs.Projected.{no_entries}
use Rattle.expr.proofs.States.{Formed}
use Rattle.storage.specs.Stored.{stored_exprs, stored_expr, held_expr, arena_of}
use Rattle.storage.proofs.Laws.{same_table}
use Rattle.storage.specs.Start.{OwnLines, NoneOff}

module _ (recs : List ℕ) (n : ℕ) (few : n ≤ 128) (line : List ℕ) (off : List Bool) (own : OwnLines line) (on : NoneOff off) where
  pub arena_at_start : arena_of recs line off n ≡ stored_exprs recs n
  unfolding arena_of stored_exprs held_expr
  arena_at_start = same_table (held_expr recs line off) (stored_expr recs) n (λ q h. rw (own.own q (omega (arith, few)), on.on q))

  -- and no line holds a later one
  pub formed_at_start : (s : Eos) → Formed n (state line off no_entries s)
  formed_at_start s =
      record {
        sized = record { line = own.size; off = on.size; cache = length-replicate {A = Option ObservableOrders} 128 None };
        below = λ q h. rw (own.own q (omega (arith, few))) (omega arith);
      }
