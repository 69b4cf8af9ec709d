-- The class of a byte: what it says of the byte, and how ranges tell it.
use Rattle.std.specs.Prelude.{if◌then◌else◌}
use mathlib.Core.Logic.{◌⊎◌, inl, inr}
use mathlib.Core.Path.{◌≡◌, refl, sym}
use mathlib.Core.Bool.{Bool, true, false}
use Prim.Native.Nat.{ℕ, ◌<◌, ◌≤◌}
use native.Mathlib.Omega.{arith}
use native.Mathlib.Decide.{dec_lt}
use lib.Dec.{eqb, ltb}
use borrow.Author.Tests.{lt-ltb, le-ltb, ne_eqb, ltb-true, ltb-false, eqb-true}
use Rattle.formula.specs.declared.token.Class.{Class}
use Rattle.formula.specs.Tokens.{level, class}

unfoldable pub Is : Class → ℕ → Type 0
Is (Class.Sign k) b = (k ≡ level b) × (level b < 5)
Is Class.Space b = b ≡ 32
Is Class.Opens b = b ≡ 40
Is Class.Closes b = b ≡ 41
Is Class.Letter b = (97 ≤ b) × (b < 123)
Is Class.Digit b = (48 ≤ b) × (b < 58)
Is Class.Other b = Unit {0}

pick_is : (P : Class → Type 0) (x : Bool) (c d : Class) → (x ≡ true → P c) → (x ≡ false → P d) → P (if x then c else d)
pick_is P true c d y n = y refl
pick_is P false c d y n = n refl

pub is : (b : ℕ) → Is (class b) b
unfolding Is class
is b =
    pick_is P (ltb (level b) 5) _ _ (λ e. (refl, ltb-true _ _ e)) λ e₀.
    pick_is P (eqb b 32) _ _ (eqb-true _ _) λ e₁.
    pick_is P (eqb b 40) _ _ (eqb-true _ _) λ e₂.
    pick_is P (eqb b 41) _ _ (eqb-true _ _) λ e₃.
    pick_is P (ltb b 48) _ _ (λ _. tt) λ e₄.
    pick_is P (ltb b 58) _ _ (λ e. (ltb-false _ _ e₄, ltb-true _ _ e)) λ e₅.
    pick_is P (ltb b 97) _ _ (λ _. tt) λ e₆.
    pick_is P (ltb b 123) _ _ (λ e. (ltb-false _ _ e₆, ltb-true _ _ e)) λ e₇. tt
  where
    P : Class → Type 0
    P c = Is c b

pub class_sign : (b : ℕ) → level b < 5 → class b ≡ Class.Sign (level b)
unfolding class
class_sign b h = simp (class, lt-ltb (level b) 5 h)

level_none : (b : ℕ) → (b ≡ 124 → ⊥) → (b ≡ 38 → ⊥) → (b ≡ 60 → ⊥) → (b ≡ 62 → ⊥) → (b ≡ 61 → ⊥) → (b ≡ 43 → ⊥) → (b ≡ 45 → ⊥)
    → (b ≡ 42 → ⊥) → (b ≡ 47 → ⊥) → level b ≡ 5
unfolding level
level_none b h₁ h₂ h₃ h₄ h₅ h₆ h₇ h₈ h₉ =
    simp (level, ne_eqb b 124 h₁, ne_eqb b 38 h₂, ne_eqb b 60 h₃, ne_eqb b 62 h₄, ne_eqb b 61 h₅, ne_eqb b 43 h₆, ne_eqb b 45 h₇, ne_eqb b 42 h₈, ne_eqb b 47 h₉)

letter_level : (b : ℕ) → 97 ≤ b → b < 123 → level b ≡ 5
letter_level b l h = level_none b (λ e. omega arith) (λ e. omega arith) (λ e. omega arith) (λ e. omega arith) (λ e. omega arith) (λ e. omega arith) (λ e. omega arith) (λ e. omega arith) (λ e. omega arith)

digit_level : (b : ℕ) → 48 ≤ b → b < 58 → level b ≡ 5
digit_level b l h = level_none b (λ e. omega arith) (λ e. omega arith) (λ e. omega arith) (λ e. omega arith) (λ e. omega arith) (λ e. omega arith) (λ e. omega arith) (λ e. omega arith) (λ e. omega arith)

pub class_letter : (b : ℕ) → 97 ≤ b → b < 123 → class b ≡ Class.Letter
unfolding class
class_letter b l h =
    simp (class, letter_level b l h, ne_eqb b 32 (λ e. omega arith), ne_eqb b 40 (λ e. omega arith), ne_eqb b 41 (λ e. omega arith), le-ltb b 48 (omega arith), le-ltb b 58 (omega arith), le-ltb b 97 l, lt-ltb b 123 h)

pub class_digit : (b : ℕ) → 48 ≤ b → b < 58 → class b ≡ Class.Digit
unfolding class
class_digit b l h =
    simp (class, digit_level b l h, ne_eqb b 32 (λ e. omega arith), ne_eqb b 40 (λ e. omega arith), ne_eqb b 41 (λ e. omega arith), le-ltb b 48 l, lt-ltb b 58 h)

-- Told by ranges -----------------------------------------------------------------------------------------------------------------

module _ (b : ℕ) where
  -- < = > stand in a row
  level_middle : 60 ≤ b → b < 63 → 2 ≡ level b
  level_middle l h = by (dec_lt b 61) (dec_lt b 62)
    where
      by : Dec (b < 61) → Dec (b < 62) → 2 ≡ level b
      by (yes k) _ = let e : b ≡ 60 = omega arith in rw e (unfold level in refl)
      by (no i) (yes k) = let e : b ≡ 61 = omega arith in rw e (unfold level in refl)
      by (no i) (no k) = let e : b ≡ 62 = omega arith in rw e (unfold level in refl)

  pub class_middle : 60 ≤ b → b < 63 → Class.Sign 2 ≡ class b
  class_middle l h = rw (level_middle l h) (sym (class_sign b (omega (arith, level_middle l h))))

  -- none of the bytes that are told one by one
  module _ (bar : ¬ (b ≡ 124)) (and : ¬ (b ≡ 38)) (sums : ¬ ((b ≡ 43) ⊎ (b ≡ 45))) (products : ¬ ((b ≡ 42) ⊎ (b ≡ 47))) where
    no_level : (b < 60) ⊎ (63 ≤ b) → level b ≡ 5
    no_level (inl h) = level_none b bar and (λ e. omega arith) (λ e. omega arith) (λ e. omega arith) (λ e. sums (inl e)) (λ e. sums (inr e)) (λ e. products (inl e)) (λ e. products (inr e))
    no_level (inr h) = level_none b bar and (λ e. omega arith) (λ e. omega arith) (λ e. omega arith) (λ e. sums (inl e)) (λ e. sums (inr e)) (λ e. products (inl e)) (λ e. products (inr e))

    module _ (space : ¬ (b ≡ 32)) (opens : ¬ (b ≡ 40)) (closes : ¬ (b ≡ 41)) where
      pub other : (97 ≤ b → b < 123 → ⊥) → (48 ≤ b → b < 58 → ⊥) → (b < 60) ⊎ (63 ≤ b) → Class.Other ≡ class b
      unfolding class
      other letter digit r = sym (by (dec_lt b 48) (dec_lt b 97))
        where
          by : Dec (b < 48) → Dec (b < 97) → class b ≡ Class.Other
          by (yes h) _ = simp (class, no_level r, ne_eqb b 32 space, ne_eqb b 40 opens, ne_eqb b 41 closes, lt-ltb b 48 h)
          by (no l) (yes h) =
              simp (class, no_level r, ne_eqb b 32 space, ne_eqb b 40 opens, ne_eqb b 41 closes, le-ltb b 48 (omega arith), le-ltb b 58 (grind (arith, digit)), lt-ltb b 97 h)
          by (no l) (no k) =
              simp (class, no_level r, ne_eqb b 32 space, ne_eqb b 40 opens, ne_eqb b 41 closes, le-ltb b 48 (omega arith), le-ltb b 58 (omega arith), le-ltb b 97 (omega arith), le-ltb b 123 (grind (arith, letter)))
