-- The refusals by number, and what a call of the code comes to in the definition's words.
use Rattle.std.specs.Prelude as rust
use Rattle.std.specs.Prelude.{ℕ, None, Some, Ok, Err, Result}
use Rattle.std.proofs.Math.Option.{Option, none, some}
use Rattle.plan.specs.declared.refusal.Refusal.{Refusal}
use Rattle.plan.specs.Sheet.{Outcome, refused, done}

abbrev pub refusal_number : Refusal → ℕ
refusal_number Refusal.ShortOutput = 1
refusal_number Refusal.LongSheet = 2
refusal_number Refusal.Form = 3
refusal_number Refusal.Table = 4
refusal_number Refusal.Limits = 5
refusal_number Refusal.NoPlan = 6
refusal_number Refusal.Reference = 7
refusal_number Refusal.Unused = 8
refusal_number Refusal.StructField = 9
refusal_number Refusal.JoinKeys = 10
refusal_number Refusal.SinkKeys = 11
refusal_number Refusal.UsedTwice = 12
refusal_number Refusal.CacheId = 13

-- a result of the code is the definition's outcome: a refusal goes by its number
abbrev pub outcome_of : {A : Type 0} → Result A Refusal → Outcome A
outcome_of (Ok x) = done x
outcome_of (Err e) = refused (refusal_number e)

-- a pass that finds no fault, or the first: 0 for none
abbrev pub fault_number : {A : Type 0} → Result A Refusal → ℕ
fault_number (Ok x) = 0
fault_number (Err e) = refusal_number e

-- an Option of the code is the definition's
abbrev pub option_of : {A : Type 0} → rust.Option A → Option A
option_of None = none
option_of (Some x) = some x
