-- A number of a line, as the code meets it: at the front of the bytes that follow a comma.
use Rattle.std.specs.Prelude.{ℕ, zero, suc, ◌-◌, ◌<◌, ◌≡◌, Bool, true, false, ◌||◌, List, [], ◌∷◌, eqb, ltb, length, if◌then◌else◌, Result, Ok, Err}
use Rattle.std.proofs.Math.Option.{Option, none, some}
use Rattle.plan.specs.Sheet.{number}
use Rattle.plan.specs.declared.refusal.Refusal.{Refusal}
use Rattle.reading.specs.declared.number.Number.{Number}
use Rattle.reading.specs.declared.number.Byte.{Byte}

-- a comma or byte 10
abbrev pub separator? : ℕ → Bool
separator? x = eqb x 44 || eqb x 10

-- the bytes up to the next separator, or all of them
unfoldable pub field : List ℕ → List ℕ
field [] = []
field (x ∷ xs) = elim (separator? x) [ true ↦ [] | false ↦ x ∷ field xs ]

abbrev pub found : Option ℕ → ℕ → Result Number Refusal
found none n = Err Refusal.Form
found (some v) n = Ok (record { value = v; width = n })

-- the first field's number, and its length
unfoldable pub number_at : List ℕ → Result Number Refusal
number_at s = found (number (field s)) (length (field s))

-- The digits that the code meets ----------------------------------------------------------------------------------------

unfoldable pub digit_of : ℕ → Byte
digit_of b =
    if separator? b then Byte.End else if ltb b 48 then Byte.Other else if ltb 57 b then Byte.Other else Byte.Digit (b - 48)

-- the end of the bytes is a separator too
unfoldable pub digit_at : List ℕ → ℕ → Byte
digit_at [] i = Byte.End
digit_at (x ∷ xs) zero = digit_of x
digit_at (x ∷ xs) (suc i) = digit_at xs i

-- a digit is below 10
abbrev pub Small : Byte → Type 0
Small (Byte.Digit d) = d < 10
Small Byte.End = Unit
Small Byte.Other = Unit

-- a and b are the first two digits of the bytes, and the number does not begin with 0
pub record TwoDigits (s : List ℕ) (a b : ℕ) : Type 0 where
  pub first : Byte.Digit a ≡ digit_at s 0
  pub second : Byte.Digit b ≡ digit_at s 1
  pub not_zero : 0 < a
  pub first_digit : a < 10
  pub second_digit : b < 10
