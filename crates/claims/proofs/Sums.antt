-- Sums over lists, and over all numbers below a given one.
use Rattle.std.specs.Prelude.{if◌then◌else◌}
use mathlib.Core.Path.{◌≡◌, refl, ap}
use mathlib.Core.Logic.{◌⊎◌, inl, inr}
use Prim.Native.Nat.{ℕ, zero, suc, ◌+◌, ◌≤◌, ◌<◌}
use native.Mathlib.Omega.{arith}
use native.Mathlib.Nat.{add-le-add, not-suc-le-zero}
use native.Mathlib.Decide.{ℕ_discrete, dec_lt}
use mathlib.Core.Bool.{Bool, true, false}
use mathlib.Core.List.Memᴰ
use mathlib.Core.List.{List, [], ◌∷◌, Memᴰ}
use lib.Dec.{T, eqb, eqb_refl}
use lib.ListN.{length, get_or, set}
use Rattle.plan.specs.Lists.{sum}
use borrow.Author.Tests.{ne_eqb}
use Rattle.plan.proofs.Counts.{only}

module _ {A : Type 0} where
  pub sum_none : (w : A → ℕ) (l : List A) → ((a : A) → Memᴰ a l → w a ≡ 0) → sum w l ≡ 0
  unfolding sum
  sum_none w [] h = refl
  sum_none w (x ∷ l) h = omega (arith, h x (Memᴰ.head refl), sum_none w l (λ a m. h a (Memᴰ.tail m)))

  -- a member's part
  pub sum_part : (w : A → ℕ) (l : List A) (a : A) → Memᴰ a l → w a ≤ sum w l
  unfolding sum
  sum_part w [] a m = elim m [ ]
  sum_part w (x ∷ l) a (Memᴰ.head e) = omega (arith, ap w e)
  sum_part w (x ∷ l) a (Memᴰ.tail m) = omega (arith, sum_part w l a m)

  -- the part of the entry at i, where what stands past the end counts nothing
  pub sum_at : (w : A → ℕ) (l : List A) (d : A) → w d ≡ 0 → (i : ℕ) → w (get_or l i d) ≤ sum w l
  unfolding sum
  sum_at w [] d z i = omega arith
  sum_at w (x ∷ l) d z zero = omega arith
  sum_at w (x ∷ l) d z (suc i) = omega (arith, sum_at w l d z i)

  -- another entry at i
  pub sum_set : (w : A → ℕ) (l : List A) (d : A) (i : ℕ) (x : A) → sum w (set l i x) + w (get_or l i d) ≤ sum w l + w x + w d
  unfolding sum
  sum_set w [] d i x = omega arith
  sum_set w (y ∷ l) d zero x = omega arith
  sum_set w (y ∷ l) d (suc i) x = omega (arith, sum_set w l d i x)

  pub sum_set_le : (w : A → ℕ) (l : List A) (i : ℕ) (x y : A) → w x ≤ w y → sum w (set l i x) ≤ sum w (set l i y)
  unfolding sum
  sum_set_le w [] i x y h = omega arith
  sum_set_le w (z ∷ l) zero x y h = omega arith
  sum_set_le w (z ∷ l) (suc i) x y h = omega (arith, sum_set_le w l i x y h)

  sum_new : (w : A → ℕ) (l : List A) (i : ℕ) (y : A) → i < length l → w y ≤ sum w (set l i y)
  unfolding sum
  sum_new w [] i y h = absurd (not-suc-le-zero h)
  sum_new w (z ∷ l) zero y h = omega arith
  sum_new w (z ∷ l) (suc i) y h = omega (arith, sum_new w l i y (omega arith))

  -- a member is the new entry, or has a part beside it
  pub sum_beside : (l : List A) (i : ℕ) (y x : A) → i < length l → Memᴰ x (set l i y)
      → (x ≡ y) ⊎ ((w : A → ℕ) → w x + w y ≤ sum w (set l i y))
  unfolding sum
  sum_beside [] i y x h m = absurd (not-suc-le-zero h)
  sum_beside (z ∷ l) zero y x h m =
      elim (Memᴰ.cases_cons m) [ inl e ↦ inl e | inr k ↦ inr (λ w. omega (arith, sum_part w l x k)) ]
  sum_beside (z ∷ l) (suc i) y x h m =
      elim (Memᴰ.cases_cons m) [
        | inl e ↦ inr (λ w. omega (arith, ap w e, sum_new w l i y (omega arith)))
        | inr k ↦ elim (sum_beside l i y x (omega arith) k) [ inl e ↦ inl e | inr f ↦ inr (λ w. omega (arith, f w)) ]
      ]

-- the weighing `only v` counts v alone: `times v l` is `sum (only v) l`
pub only_own : (v : ℕ) → only v v ≡ 1
only_own v = by (eqb v v) (eqb_refl v)
  where
    by : (b : Bool) → T b → ◌≡◌ {A = ℕ} (if b then 1 else 0) 1
    by true t = refl
    by false t = absurd t

pub only_other : (v m : ℕ) → ¬ (v ≡ m) → only v m ≡ 0
only_other v m n = rw (ne_eqb v m n)

-- over the numbers below n
unfoldable pub sum_below : (ℕ → ℕ) → ℕ → ℕ
sum_below w zero = 0
sum_below w (suc n) = sum_below w n + w n

pub below_le : (v w : ℕ → ℕ) (n : ℕ) → ((i : ℕ) → i < n → v i ≤ w i) → sum_below v n ≤ sum_below w n
unfolding sum_below
below_le v w zero h = omega arith
below_le v w (suc n) h = add-le-add (below_le v w n (λ i k. h i (omega arith))) (h n (omega arith))

pub below_add : (u v w : ℕ → ℕ) (n : ℕ) → ((i : ℕ) → i < n → u i ≡ v i + w i) → sum_below u n ≡ sum_below v n + sum_below w n
unfolding sum_below
below_add u v w zero h = refl
below_add u v w (suc n) h = omega (arith, below_add u v w n (λ i k. h i (omega arith)), h n (omega arith))

-- one number alone: nothing up to it, one past it
below_none : (v n : ℕ) → n ≤ v → sum_below (only v) n ≡ 0
unfolding sum_below
below_none v zero h = refl
below_none v (suc n) h = omega (arith, below_none v n (omega arith), only_other v n (λ e. omega arith))

pub below_one : (v n : ℕ) → sum_below (only v) n ≤ 1
unfolding sum_below
below_one v zero = omega arith
below_one v (suc n) = by (ℕ_discrete v n) (below_one v n)
  where
    by : Dec (v ≡ n) → sum_below (only v) n ≤ 1 → sum_below (only v) n + only v n ≤ 1
    by (yes e) h = omega (arith, below_none v n (omega arith), ap (only v) e, only_own v)
    by (no d) h = omega (arith, only_other v n d)

pub below_if_counted : (v n : ℕ) → 1 ≤ sum_below (only v) n → v < n
below_if_counted v n h = by (dec_lt v n)
  where
    by : Dec (v < n) → v < n
    by (yes k) = k
    by (no k) = absurd (omega (arith, below_none v n (omega arith)))
