-- Which records the revisit cache has an answer for.
use Rattle.std.specs.Prelude.{if◌then◌else◌}
use mathlib.Core.Path.{◌≡◌}
use Prim.Native.Nat.{ℕ}
use native.Mathlib.Omega.{arith}
use mathlib.Core.Bool.{Bool, true, false}
use mathlib.Core.Option.{Option, none, some}
use lib.Dec.{T, eqb, eqb_refl}
use Rattle.plan.specs.declared.looks.Before.{Before}
use Rattle.plan.specs.declared.orders.ObservableOrders.{ObservableOrders}
use Rattle.plan.specs.Look.{Eos, cache_output, check_return_cached}

abbrev is_some : Option ObservableOrders → Bool
is_some none = false
is_some (some o) = true

abbrev pub Cache : Type 0
Cache = ℕ → Option ObservableOrders

pub seen_in : Cache → ℕ → Bool
seen_in c q = is_some (c q)

abbrev pub seen : Eos → ℕ → Bool
seen s q = seen_in s.revisit_cache q

-- what was there stays
pub seen_still : (should : Bool) (p q : ℕ) (o : ObservableOrders) (s : Eos) → T (seen s q) → T (seen (cache_output should p o s) q)
unfolding seen_in
seen_still false p q o s t = t
seen_still true p q o s t = by (eqb q p)
  where
    by : (b : Bool) → T (is_some (if b then some o else s.revisit_cache q))
    by true = tt
    by false = t

pub seen_now : (should : Bool) (p : ℕ) (o : ObservableOrders) (s : Eos) → T should → T (seen (cache_output should p o s) p)
unfolding seen_in
seen_now false p o s t = absurd t
seen_now true p o s _ = by (eqb p p) (eqb_refl p)
  where
    by : (b : Bool) → T b → T (is_some (if b then some o else s.revisit_cache p))
    by true t = tt
    by false t = absurd t

-- a look that asks and goes on has found nothing
pub not_seen : (b : Before) (p : ℕ) (s : Eos) → check_return_cached b p s ≡ none → T b.checks → T (seen s p) → ⊥
unfolding seen_in check_return_cached
not_seen b p s = by b.checks (s.revisit_cache p)
  where
    by : (asks : Bool) (o : Option ObservableOrders) → (if asks then o else none) ≡ none → T asks → T (is_some o) → ⊥
    by true none i t k = k
    by true (some x) i t k = let z : ◌≡◌ {A = ℕ} 0 1 = cc in omega arith
    by false o i t k = t
