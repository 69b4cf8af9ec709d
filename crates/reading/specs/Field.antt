-- What stands at the front of the bytes that follow a line's letter.
use Rattle.std.specs.Prelude.{ℕ, ◌+◌, List, [], ◌∷◌, eqb, if◌then◌else◌, Option, Some, None, Result, Ok, Err}
use Rattle.plan.specs.declared.refusal.Refusal.{Refusal}
use Rattle.reading.specs.Number.{number_at}
use Rattle.reading.specs.declared.number.Number.{Number}

-- a number, none at byte 10, or neither
abbrev pub Field : Type 0
Field = Result (Option Number) Refusal

-- the number behind a comma, with the comma's byte
abbrev pub field_of : Result Number Refusal → Field
field_of (Ok n) = Ok (Some (record { value = n.value; width = n.width + 1 }))
field_of (Err e) = Err e

unfoldable pub field_at : List ℕ → Field
field_at [] = Err Refusal.Form
field_at (x ∷ xs) = if eqb x 10 then Ok None else if eqb x 44 then field_of (number_at xs) else Err Refusal.Form
