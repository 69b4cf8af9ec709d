-- A number behind its comma, digit by digit.
use mathlib.Core.Path.{refl, ap}
use mathlib.Core.List.{List, [], ◌∷◌, ◌++◌}
use Prim.Native.Nat.{ℕ, ◌+◌, ◌<◌, ◌≤◌, ◌/◌, ◌%◌, ◌^◌}
use native.Mathlib.Omega.{arith}
use native.Mathlib.Decide.{dec_lt}
use lib.ListN.{length, set, length-append}
use Rattle.plan.specs.Text.{decimal}
use Rattle.plan.proofs.Decimals.{decimal_one, decimal_more, decimal_two, decimal_three, decimal_short}
use Rattle.writing.specs.Wrote.{Wrote, field}

put_two : (a b : ℕ) (o : List ℕ) → 2 ≤ length o → Wrote (a ∷ b ∷ []) o (set (set o 0 a) 1 b) 2
put_two a b [] h = absurd (omega arith)
put_two a b (x ∷ []) h = absurd (omega arith)
put_two a b (x ∷ y ∷ o) h = record { len = refl; bytes = refl }

put_three : (a b c : ℕ) (o : List ℕ) → 3 ≤ length o → Wrote (a ∷ b ∷ c ∷ []) o (set (set (set o 0 a) 1 b) 2 c) 3
put_three a b c [] h = absurd (omega arith)
put_three a b c (x ∷ []) h = absurd (omega arith)
put_three a b c (x ∷ y ∷ []) h = absurd (omega arith)
put_three a b c (x ∷ y ∷ z ∷ o) h = record { len = refl; bytes = refl }

put_four : (a b c d : ℕ) (o : List ℕ) → 4 ≤ length o → Wrote (a ∷ b ∷ c ∷ d ∷ []) o (set (set (set (set o 0 a) 1 b) 2 c) 3 d) 4
put_four a b c d [] h = absurd (omega arith)
put_four a b c d (x ∷ []) h = absurd (omega arith)
put_four a b c d (x ∷ y ∷ []) h = absurd (omega arith)
put_four a b c d (x ∷ y ∷ z ∷ []) h = absurd (omega arith)
put_four a b c d (x ∷ y ∷ z ∷ w ∷ o) h = record { len = refl; bytes = refl }

-- one digit, two, three
module _ (n : ℕ) (o : List ℕ) (room : 4 ≤ length o) where
  pub field_one : n < 10 → Wrote (field n) o (set (set o 0 44) 1 (48 + n)) 2
  field_one h = rw (decimal_one n h) (put_two 44 (48 + n) o (omega arith))

  pub field_two : 10 ≤ n → n < 100 → Wrote (field n) o (set (set (set o 0 44) 1 (48 + n / 10)) 2 (48 + n % 10)) 3
  field_two h l = rw (decimal_two n h l) (put_three 44 (48 + n / 10) (48 + n % 10) o (omega arith))

  pub field_three : 100 ≤ n → n < 1000
      → Wrote (field n) o (set (set (set (set o 0 44) 1 (48 + n / 100)) 2 (48 + n / 10 % 10)) 3 (48 + n % 10)) 4
  field_three h l = rw (decimal_three n h l) (put_four 44 (48 + n / 100) (48 + n / 10 % 10) (48 + n % 10) o room)

-- any number of digits
module _ (n : ℕ) (o x : List ℕ) (r : ℕ) where
  pub one_digit : n < 10 → Wrote ((48 + n) ∷ []) o x r → Wrote (decimal n) o x r
  one_digit h w = rw (decimal_one n h) w

  pub more_digits : 10 ≤ n → Wrote (decimal (n / 10) ++ ((48 + n % 10) ∷ [])) o x r → Wrote (decimal n) o x r
  more_digits h w = rw (decimal_more n h) w

pub more_room : (n m : ℕ) → 10 ≤ n → length (decimal n) ≤ m → length (decimal (n / 10) ++ ((48 + n % 10) ∷ [])) ≤ m
more_room n m h l = rw (decimal_more n h) at l

pub some_room : (n m : ℕ) → length (decimal n) ≤ m → 1 ≤ m
some_room n m l = by (dec_lt n 10)
  where
    by : Dec (n < 10) → 1 ≤ m
    by (yes h) = omega (arith, ap length (decimal_one n h))
    by (no h) = omega (arith, more_room n m (omega arith) l, length-append (decimal (n / 10)) ((48 + n % 10) ∷ []))

-- a number of 64 bits has at most 20 digits
pub wide_short : (n : ℕ) → n < 2 ^ 64 → length (decimal n) ≤ 20
wide_short n h = decimal_short 19 n (omega arith)
