-- Demand 1, of the call on a sheet s and an output lent: a finished sheet, or a number of the list under its own condition
-- (plan/specs/Conditions).
use Rattle.std.specs.Prelude.{◌≡◌, ◌⊎◌, ℕ, ◌≤◌, length, drop}
use mathlib.Core.List.{List, ◌++◌, Memᴰ}
use Rattle.plan.specs.Sheet.{refused, done}
use Rattle.plan.specs.Visit.{Run}
use Rattle.plan.specs.Text.{printed}
use Rattle.plan.specs.Finished.{run, finish, finished_answer}
use Rattle.plan.specs.Conditions.{refusal_numbers, TurnedBack}

-- A finished sheet: it stands at the front of the output, and what stood behind it stays
pub record FinishedCall (s output : List ℕ) : Type 0 where
  pub whole : Run
  pub runs : run s ≡ done whole
  pub answer : (finish s output).answer ≡ done (finished_answer whole)
  pub bytes : (finish s output).output ≡ printed whole ++ drop (length (printed whole)) output
  -- it has a G line
  pub has_edge : 1 ≤ length whole.edges

-- A refusal: one of the numbers, under its condition; no byte of the output is altered
pub record RefusedCall (s output : List ℕ) : Type 0 where
  pub number : ℕ
  pub listed : Memᴰ number refusal_numbers
  pub condition : TurnedBack s output number
  pub answer : (finish s output).answer ≡ refused number
  pub bytes : (finish s output).output ≡ output

pub record Demand1 (s output : List ℕ) : Type 0 where
  -- what is not finished is turned back, under a condition
  pub either : FinishedCall s output ⊎ RefusedCall s output
  -- a number is given on its condition alone
  pub alone : (n : ℕ) → TurnedBack s output n → (finish s output).answer ≡ refused n
  -- so the conditions of two numbers never hold together, and none holds of a finished sheet
  pub exclude : (m n : ℕ) → TurnedBack s output m → TurnedBack s output n → m ≡ n
  pub finished_none : FinishedCall s output → (n : ℕ) → ¬ TurnedBack s output n
  pub size : length (finish s output).output ≡ length output
