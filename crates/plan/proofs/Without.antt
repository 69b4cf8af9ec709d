-- Texts without a byte: one that is no digit is not among those of a number.
use mathlib.Core.Path.{◌≡◌, sym, subst}
use Prim.Native.Nat.{ℕ, zero, suc, ◌+◌, ◌<◌, ◌≤◌, ◌/◌, ◌%◌}
use native.Mathlib.Omega.{arith}
use native.Mathlib.Decide.{dec_lt}
use native.Mathlib.Nat.{not-suc-le-zero}
use mathlib.Core.Bool.{Bool, true, not}
use mathlib.Core.List.{List, [], ◌∷◌, ◌++◌}
use lib.Dec.{T, eqb}
use borrow.Author.Tests.{ne_eqb}
use Rattle.plan.specs.Lists.{all?, concat_map}
use Rattle.plan.specs.Text.{decimal}
use Rattle.plan.proofs.Booleans.{and_both}
use Rattle.plan.proofs.Decimals.{decimal_one, decimal_more}
use Rattle.plan.proofs.ListLaws.{and_left, and_right}

module _ (c : ℕ) where
  abbrev pub other : ℕ → Bool
  other b = not (eqb b c)

  -- c is not among the bytes
  abbrev pub Without : List ℕ → Type 0
  Without x = T (all? other x)

  pub without_append : (x y : List ℕ) → Without x → Without y → Without (x ++ y)
  unfolding all?
  without_append [] y p q = q
  without_append (b ∷ x) y p q =
      and_both (other b) (all? other (x ++ y)) (and_left (other b) (all? other x) p)
      (without_append x y (and_right (other b) (all? other x) p) q)

  pub without_all : {A : Type 0} (f : A → List ℕ) → ((a : A) → Without (f a)) → (l : List A) → Without (concat_map f l)
  unfolding concat_map all?
  without_all f h [] = tt
  without_all f h (a ∷ l) = without_append (f a) (concat_map f l) (h a) (without_all f h l)

  -- c is no digit
  module _ (h : (d : ℕ) → d < 10 → 48 + d ≡ c → ⊥) where
    without_digit : (d : ℕ) → d < 10 → Without ((48 + d) ∷ [])
    unfolding all?
    without_digit d l = and_both (other (48 + d)) true (rw (ne_eqb (48 + d) c (h d l)) tt) tt

    -- the fuel is above the number
    without_fuel : (f n : ℕ) → n < f → Without (decimal n)
    without_fuel zero n l = absurd (not-suc-le-zero l)
    without_fuel (suc f) n l = by (dec_lt n 10) (λ m. without_fuel f (n / 10) (omega (arith, l, m)))
      where
        by : Dec (n < 10) → (10 ≤ n → Without (decimal (n / 10))) → Without (decimal n)
        by (yes m) again = subst Without (sym (decimal_one n m)) (without_digit n m)
        by (no m) again =
            let more : 10 ≤ n = omega (arith, m) in
            subst Without (sym (decimal_more n more))
            (without_append (decimal (n / 10)) ((48 + n % 10) ∷ []) (again more) (without_digit (n % 10) (omega arith)))

    pub without_decimal : (n : ℕ) → Without (decimal n)
    without_decimal n = without_fuel (suc n) n (omega arith)
