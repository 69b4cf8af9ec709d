-- A property of every entry of a list, and of what stands past its end.
use mathlib.Core.Path.{◌≡◌, sym, subst}
use mathlib.Core.Logic.{inl, inr}
use Prim.Native.Nat.{ℕ, zero, suc, ◌<◌}
use native.Mathlib.Omega.{arith}
use native.Mathlib.Decide.{dec_lt}
use mathlib.Core.List.Memᴰ
use mathlib.Core.List.{List, [], ◌∷◌, ◌++◌, map, Memᴰ}
use lib.ListN.{length, get_or, set, get_or-eq_default}

module _ {A : Type 0} where
  -- a member stands somewhere
  pub place_of : (l : List A) (d a : A) → Memᴰ a l → (i : ℕ) × (i < length l) × (get_or l i d ≡ a)
  place_of [] d a m = absurd (Memᴰ.not-nil m)
  place_of (x ∷ l) d a m =
      elim (Memᴰ.cases_cons m) [
        | inl e ↦ (0, omega arith, sym e)
        | inr k ↦ let (i, h, e) = place_of l d a k in (suc i, omega arith, e)
      ]

module _ {A : Type 0} (P : A → Type 0) (d : A) where
  abbrev pub Every : List A → Type 0
  Every l = (i : ℕ) → P (get_or l i d)

  pub every_of : (l : List A) → P d → ((i : ℕ) → i < length l → P (get_or l i d)) → Every l
  every_of l k h i = by (dec_lt i (length l))
    where
      by : Dec (i < length l) → P (get_or l i d)
      by (yes g) = h i g
      by (no g) = subst P (sym (get_or-eq_default l d (omega arith))) k

  pub every_member : (l : List A) → Every l → (a : A) → Memᴰ a l → P a
  every_member l h a m = let (i, _, e) = place_of l d a m in subst P e (h i)

  pub every_set : (l : List A) (n : ℕ) (x : A) → Every l → P x → Every (set l n x)
  every_set [] n x h k i = h i
  every_set (y ∷ l) zero x h k zero = k
  every_set (y ∷ l) zero x h k (suc i) = h (suc i)
  every_set (y ∷ l) (suc n) x h k zero = h 0
  every_set (y ∷ l) (suc n) x h k (suc i) = every_set l n x (λ j. h (suc j)) k i

  pub every_both : (l m : List A) → Every l → Every m → Every (l ++ m)
  every_both [] m h k i = k i
  every_both (x ∷ l) m h k zero = h 0
  every_both (x ∷ l) m h k (suc i) = every_both l m (λ j. h (suc j)) k i

  pub every_append : (l : List A) (x : A) → Every l → P x → Every (l ++ (x ∷ []))
  every_append [] x h k zero = k
  every_append [] x h k (suc i) = h i
  every_append (y ∷ l) x h k zero = h 0
  every_append (y ∷ l) x h k (suc i) = every_append l x (λ j. h (suc j)) k i

  pub every_map : (f : A → A) (l : List A) → Every l → ((a : A) → P a → P (f a)) → Every (map f l)
  every_map f [] h k i = h i
  every_map f (y ∷ l) h k zero = k y (h 0)
  every_map f (y ∷ l) h k (suc i) = every_map f l (λ j. h (suc j)) k i
