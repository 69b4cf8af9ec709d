-- Laws of the answers of the first three children.
use Rattle.std.specs.Prelude.{if◌then◌else◌}
use mathlib.Core.Path.{◌≡◌, refl}
use Prim.Native.Nat.compare
use Prim.Native.Nat.{ℕ, zero, suc}
use mathlib.Core.List.{List, [], ◌∷◌, ◌++◌}
use lib.Dec.{eqb}
use native.Mathlib.Omega.{arith}
use borrow.Author.Tests.{ne_eqb}
use lib.ListN.{length, get_or}
use Rattle.plan.specs.declared.orders.ObservableOrders.{ObservableOrders}
use Rattle.plan.specs.Orders.{∅}
use Rattle.expr.specs.declared.seen.Seen.{Seen}
use Rattle.expr.specs.Seen.{Adds, Sees}

pub suc-eqb : (a b : ℕ) → eqb (suc a) (suc b) ≡ eqb a b
suc-eqb a b = rw compare.suc-suc

-- one answer more
at_end : (os : List ObservableOrders) (o : ObservableOrders) (k : ℕ) → get_or (os ++ (o ∷ [])) k ∅ ≡ (if eqb (length os) k then o else get_or os k ∅)
at_end [] o zero = refl
at_end [] o (suc k) = rw (ne_eqb 0 (suc k) (λ q. omega arith))
at_end (a ∷ os) o zero = rw (ne_eqb (suc (length os)) 0 (λ q. omega arith))
at_end (a ∷ os) o (suc k) = rw (suc-eqb (length os) k) (at_end os o k)

pub sees_next : {os : List ObservableOrders} {x r : Seen} {o : ObservableOrders} {node i : ℕ} → length os ≡ i → Sees os x → Adds x o node i r → Sees (os ++ (o ∷ [])) r
sees_next {os} {x} {r} {o} l s a =
    record {
      first = rw (at_end os o 0, l, s.first, a.first);
      second = rw (at_end os o 1, l, s.second, a.second);
      third = rw (at_end os o 2, l, s.third, a.third);
    }
