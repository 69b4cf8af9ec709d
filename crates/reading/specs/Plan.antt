-- What reading a sheet comes to.
use Rattle.std.specs.Prelude.{◌≡◌, ℕ, List, length, Result, Ok, Err}
use Rattle.plan.specs.declared.refusal.Refusal.{Refusal}
use Rattle.plan.specs.Refusals.{outcome_of}
use Rattle.plan.specs.Sheet.{Sheet, Outcome, refused, done, ◌then◌, refuse◌when◌else◌, read, no_plan}
use Rattle.plan.specs.Faults.{checked}
use Rattle.storage.specs.Stored.{stored_exprs, stored_steps, StepsHeld}
use Rattle.reading.specs.Held.{ExprsHeld}
use Rattle.reading.specs.declared.Counts.{Counts}

-- the definition's sheet, read and checked
unfoldable pub plan_of : List ℕ → Outcome Sheet
plan_of s = read s then checked

-- the part of it that comes after the last line
unfoldable pub checked_plan : Sheet → Outcome Sheet
checked_plan sh = (refuse 6 when no_plan sh else done sh) then checked

-- a plan was taken: the answer has its two lengths, and its lines stand in the bytes
pub record HeldPlan (sh : Sheet) (es ps : List ℕ) (r : Result Counts Refusal) : Type 0 where
  pub answer : r ≡ Ok (record { exprs = length sh.exprs; steps = length sh.steps })
  pub exprs : stored_exprs es (length sh.exprs) ≡ sh.exprs
  pub steps : stored_steps ps (length sh.steps) ≡ sh.steps

-- the code's answer against the definition's outcome: a refusal's number, or the plan. What the bytes hold after a refusal is free
abbrev pub PlanIs : Outcome Sheet → List ℕ → List ℕ → Result Counts Refusal → Type 0
PlanIs (refused k) es ps r = outcome_of r ≡ refused k
PlanIs (done sh) es ps r = HeldPlan sh es ps r

-- small facts for callers: at most 128 E lines and 32 P lines, whose numbers fit
abbrev pub PlanHeld : List ℕ → List ℕ → Result Counts Refusal → Type 0
PlanHeld es ps (Err e) = Unit
PlanHeld es ps (Ok c) = ExprsHeld es c.exprs × StepsHeld ps c.steps
