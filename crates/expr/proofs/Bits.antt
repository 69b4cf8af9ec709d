-- The number that holds what the looks of a visit own: each method changes one part of it.
use mathlib.Core.Path.{◌≡◌, refl}
use Prim.Native.Nat.{ℕ, ◌+◌, ◌*◌, ◌/◌, ◌%◌, ◌<◌, ◌^◌}
use native.Mathlib.Omega.{arith}
use mathlib.Core.Bool.{Bool, true, false}
use Rattle.plan.specs.declared.orders.ObservableOrders.{ObservableOrders}
use Rattle.expr.specs.declared.eos.Eos.{Eos}
use Rattle.plan.specs.Orders.{orders_number, orders_of}
use Rattle.expr.specs.Eos.{own_of, no_looks, one_look, with_field, with_observed, with_answer}

back : (a b : Bool) → orders_of (orders_number (record { column = a; independent = b })) ≡ record { column = a; independent = b }
back true true = refl
back true false = refl
back false true = refl
back false false = refl

orders_back : (o : ObservableOrders) → orders_of (orders_number o) ≡ o
orders_back o = back o.column o.independent

abbrev holding : ℕ → Eos
holding b = record { bits = b }

parts : (b l f o a : ℕ) → b / 64 ≡ l → b / 16 % 4 ≡ f → b / 4 % 4 ≡ o → b % 4 ≡ a
    → own_of (holding b) ≡ record { looks = l; field = orders_of f; observed = orders_of o; answer = orders_of a }
unfolding own_of
parts b l f o a p q r s = rw (p, q, r, s)

pub holds_none : own_of (holding 0) ≡ no_looks
unfolding own_of
holds_none = refl

module _ (s : Eos) where
  abbrev b : ℕ
  b = s.bits

  -- each part is what its method reads
  pub looks_at : (own_of s).looks ≡ b / 64
  unfolding own_of
  looks_at = refl

  pub field_at : (own_of s).field ≡ orders_of (b / 16 % 4)
  unfolding own_of
  field_at = refl

  pub observed_at : (own_of s).observed ≡ orders_of (b / 4 % 4)
  unfolding own_of
  observed_at = refl

  pub answer_at : (own_of s).answer ≡ orders_of (b % 4)
  unfolding own_of
  answer_at = refl

  pub count_fits : (own_of s).looks + 1 < 2 ^ 58 → b + 64 < 2 ^ 64
  count_fits h = omega (arith, looks_at)

  pub holds_looked : own_of (holding (b + 64)) ≡ one_look (own_of s)
  unfolding own_of
  holds_looked = parts (b + 64) (b / 64 + 1) (b / 16 % 4) (b / 4 % 4) (b % 4) (omega arith) (omega arith) (omega arith) (omega arith)

  module _ (o : ObservableOrders) (c : ℕ) (is : c ≡ orders_number o) (small : c < 4) where
    pub holds_field : own_of (holding (b / 64 * 64 + c * 16 + b % 16)) ≡ with_field o (own_of s)
    unfolding own_of
    holds_field =
        rw (← orders_back o, ← is)
        (parts (b / 64 * 64 + c * 16 + b % 16) (b / 64) c (b / 4 % 4) (b % 4) (omega arith) (omega arith) (omega arith) (omega arith))

    pub holds_observed : own_of (holding (b / 16 * 16 + c * 4 + b % 4)) ≡ with_observed o (own_of s)
    unfolding own_of
    holds_observed =
        rw (← orders_back o, ← is)
        (parts (b / 16 * 16 + c * 4 + b % 4) (b / 64) (b / 16 % 4) c (b % 4) (omega arith) (omega arith) (omega arith) (omega arith))

    pub holds_answer : own_of (holding (b / 4 * 4 + c)) ≡ with_answer o (own_of s)
    unfolding own_of
    holds_answer =
        rw (← orders_back o, ← is)
        (parts (b / 4 * 4 + c) (b / 64) (b / 16 % 4) (b / 4 % 4) c (omega arith) (omega arith) (omega arith) (omega arith))
