-- Parts of a text, and numbers as they are printed: read again they are themselves.
use mathlib.Core.Path.{◌≡◌, refl, ap, ◌∙◌}
use Prim.Native.Nat.{ℕ, ◌+◌, ◌-◌, ◌*◌, ◌≤◌, ◌<◌, ◌%◌, ◌/◌}
use native.Mathlib.Omega.{arith}
use native.Mathlib.Decide.{dec_lt}
use mathlib.Core.Bool.{false}
use mathlib.Core.Option.{some}
use mathlib.Core.List.{List, [], ◌∷◌, ◌++◌, map}
use lib.Dec.{T, T_not, leb, leb→le, eqb, eqb_refl}
use borrow.Author.Tests.{ne_eqb, le-leb}
use Rattle.plan.specs.Lists.{all?}
use Rattle.plan.specs.Sheet.{parts, onto, value, number, numbers, cons?}
use Rattle.plan.specs.Text.{decimal}
use Rattle.plan.proofs.Counts.{true_of, false_of}
use Rattle.plan.proofs.Decimals.{decimal_one, decimal_two, decimal_three}
use Rattle.plan.proofs.Without.{other, Without}
use Rattle.plan.proofs.ListLaws.{and_left, and_right}

-- Parts between bytes c -------------------------------------------------------------------------------------------------------

module _ (c : ℕ) where
  first_other : (b : ℕ) (x : List ℕ) → Without c (b ∷ x) → eqb b c ≡ false
  unfolding all?
  first_other b x p = false_of (eqb b c) (T_not (eqb b c) (and_left (other c b) (all? (other c) x) p))

  rest_other : (b : ℕ) (x : List ℕ) → Without c (b ∷ x) → Without c x
  unfolding all?
  rest_other b x p = and_right (other c b) (all? (other c) x) p

  pub only_part : (x : List ℕ) → Without c x → parts c x ≡ x ∷ []
  unfolding parts
  only_part [] p = refl
  only_part (b ∷ x) p = rw (parts, first_other b x p) (ap (onto b) (only_part x (rest_other b x p)))

  pub first_part : (x y : List ℕ) → Without c x → parts c (x ++ (c ∷ y)) ≡ x ∷ parts c y
  unfolding parts
  first_part [] y p = rw (parts, true_of (eqb c c) (eqb_refl c)) refl
  first_part (b ∷ x) y p = rw (parts, first_other b x p) (ap (onto b) (first_part x y (rest_other b x p)))

-- A number --------------------------------------------------------------------------------------------------------------------

next_digit : (v d w : ℕ) (l : List ℕ) → d < 10 → v * 10 + d ≡ w → value v ((48 + d) ∷ l) ≡ value w l
unfolding value
next_digit v d w l h e =
    let i : (48 + d) - 48 ≡ d = omega arith in
    simp (value, le-leb 48 (48 + d) (omega arith), le-leb (48 + d) 57 (omega arith), i, e)

last_digit : (v d n : ℕ) → d < 10 → v * 10 + d ≡ n → value v ((48 + d) ∷ []) ≡ some n
unfolding value
last_digit v d n h e = next_digit v d n [] h e

-- of more digits than one, the first is not 0
long_number : (a b : ℕ) (l : List ℕ) (n : ℕ) → 1 ≤ a → n ≤ 255 → value 0 ((48 + a) ∷ b ∷ l) ≡ some n → number ((48 + a) ∷ b ∷ l) ≡ some n
unfolding number
long_number a b l n h k e = rw (ne_eqb (48 + a) 48 (λ z. omega (arith, h, z)), e, le-leb n 255 k) refl

module _ (n : ℕ) (h : n ≤ 255) where
  number_one : n < 10 → number (decimal n) ≡ some n
  unfolding number
  number_one l = rw (decimal_one n l) (last_digit 0 n n l (omega arith))

  number_two : 10 ≤ n → n < 100 → number (decimal n) ≡ some n
  number_two l k =
      rw (decimal_two n l k)
      (long_number (n / 10) (48 + n % 10) [] n (omega arith) h
      (next_digit 0 (n / 10) (n / 10) _ (omega arith) (omega arith) ∙ last_digit (n / 10) (n % 10) n (omega arith) (omega arith)))

  number_three : 100 ≤ n → number (decimal n) ≡ some n
  number_three l =
      rw (decimal_three n l (omega arith))
      (long_number (n / 100) (48 + n / 10 % 10) ((48 + n % 10) ∷ []) n (omega arith) h
      (next_digit 0 (n / 100) (n / 100) _ (omega arith) (omega arith)
      ∙ next_digit (n / 100) (n / 10 % 10) (n / 10) _ (omega arith) (omega arith)
      ∙ last_digit (n / 10) (n % 10) n (omega arith) (omega arith)))

  number_decimal : number (decimal n) ≡ some n
  number_decimal = by (dec_lt n 10) (dec_lt n 100)
    where
      by : Dec (n < 10) → Dec (n < 100) → number (decimal n) ≡ some n
      by (yes l) k = number_one l
      by (no l) (yes k) = number_two (omega arith) k
      by (no l) (no k) = number_three (omega arith)

-- each is a byte's worth
abbrev pub AllBytes : List ℕ → Type 0
AllBytes ns = T (all? (λ n. leb n 255) ns)

pub numbers_decimals : (ns : List ℕ) → AllBytes ns → numbers (map decimal ns) ≡ some ns
unfolding numbers all?
numbers_decimals [] h = refl
numbers_decimals (n ∷ ns) h =
    rw (number_decimal n (leb→le n 255 (and_left (leb n 255) _ h))) (ap (cons? (some n)) (numbers_decimals ns (and_right (leb n 255) _ h)))
