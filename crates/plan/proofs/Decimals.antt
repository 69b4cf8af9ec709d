-- Laws of numbers in base ten (Text's decimal): their digits one by one, and how many there are.
use mathlib.Core.Path.{◌≡◌, sym, ap, ◌∙◌}
use mathlib.Core.List.{List, [], ◌∷◌, ◌++◌}
use Prim.Native.Nat.{ℕ, zero, suc, ◌+◌, ◌<◌, ◌≤◌, ◌/◌, ◌%◌, ◌^◌}
use native.Mathlib.Omega.{arith}
use native.Mathlib.Decide.{dec_lt}
use native.Mathlib.Nat.{not-suc-le-zero, pow-suc}
use borrow.Author.Tests.{lt-ltb, le-ltb}
use lib.ListN.{length, length-append}
use Rattle.plan.specs.Text.{digits, decimal}

digits_low : (f n : ℕ) → n < 10 → digits (suc f) n ≡ (48 + n) ∷ []
unfolding digits
digits_low f n h = simp (digits, lt-ltb n 10 h)

digits_high : (f n : ℕ) → 10 ≤ n → digits (suc f) n ≡ digits f (n / 10) ++ ((48 + n % 10) ∷ [])
unfolding digits
digits_high f n h = simp (digits, le-ltb n 10 h)

-- the digits do not depend on the fuel
pub enough : (f g n : ℕ) → n < f → n < g → digits f n ≡ digits g n
enough zero g n h l = absurd (not-suc-le-zero h)
enough (suc f) zero n h l = absurd (not-suc-le-zero l)
enough (suc f) (suc g) n h l = by (dec_lt n 10) (λ m. enough f g (n / 10) (omega arith) (omega arith))
  where
    by : Dec (n < 10) → (10 ≤ n → digits f (n / 10) ≡ digits g (n / 10)) → digits (suc f) n ≡ digits (suc g) n
    by (yes m) again = digits_low f n m ∙ sym (digits_low g n m)
    by (no m) again =
        digits_high f n (omega arith) ∙ ap (λ (d : List ℕ). d ++ ((48 + n % 10) ∷ [])) (again (omega arith))
        ∙ sym (digits_high g n (omega arith))

pub decimal_one : (n : ℕ) → n < 10 → decimal n ≡ (48 + n) ∷ []
decimal_one n h = digits_low n n h

pub decimal_more : (n : ℕ) → 10 ≤ n → decimal n ≡ decimal (n / 10) ++ ((48 + n % 10) ∷ [])
decimal_more n h =
    digits_high n n h ∙ ap (λ (d : List ℕ). d ++ ((48 + n % 10) ∷ [])) (enough n (suc (n / 10)) (n / 10) (omega arith) (omega arith))

pub decimal_two : (n : ℕ) → 10 ≤ n → n < 100 → decimal n ≡ (48 + n / 10) ∷ (48 + n % 10) ∷ []
decimal_two n h l = decimal_more n h ∙ ap (λ (d : List ℕ). d ++ ((48 + n % 10) ∷ [])) (decimal_one (n / 10) (omega arith))

pub decimal_three : (n : ℕ) → 100 ≤ n → n < 1000 → decimal n ≡ (48 + n / 100) ∷ (48 + n / 10 % 10) ∷ (48 + n % 10) ∷ []
decimal_three n h l =
    decimal_more n (omega arith)
    ∙ ap (λ (d : List ℕ). d ++ ((48 + n % 10) ∷ []))
    (decimal_two (n / 10) (omega arith) (omega arith) ∙ ap (λ (k : ℕ). (48 + k) ∷ (48 + n / 10 % 10) ∷ []) (omega arith))

-- below 10 ^ (k + 1) there are at most k + 1 digits
pub decimal_short : (k n : ℕ) → n < 10 ^ suc k → length (decimal n) ≤ suc k
decimal_short zero n h = omega (arith, ap length (decimal_one n (omega arith)))
decimal_short (suc k) n h = by (dec_lt n 10) (decimal_short k (n / 10) (omega (arith, pow-suc 10 (suc k))))
  where
    by : Dec (n < 10) → length (decimal (n / 10)) ≤ suc k → length (decimal n) ≤ suc (suc k)
    by (yes m) fewer = omega (arith, ap length (decimal_one n m))
    by (no m) fewer =
        omega (arith, fewer, ap length (decimal_more n (omega arith)), length-append (decimal (n / 10)) ((48 + n % 10) ∷ []))
