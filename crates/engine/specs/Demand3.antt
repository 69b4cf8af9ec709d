-- Demand 3, of a call: the bytes s that are lent, its answer, and the bytes that stand in the output at exit.
use Rattle.std.specs.Prelude.{◌≡◌, ℕ, List, [], ◌∷◌, length, take, drop}
use Rattle.plan.specs.declared.answer.Finished.{Finished}
use Rattle.plan.specs.Lists.{concat_map}
use Rattle.plan.specs.Sheet.{Sheet, Outcome, refused, done}
use Rattle.plan.specs.Text.{line, edge_line}
use Rattle.plan.specs.Visit.{Run}
use Rattle.plan.specs.Walks.{down}
use Rattle.claims.specs.WellFormed.{Accepted}
use Rattle.plan.specs.Conditions.{Down, Up}
use Rattle.claims.specs.Demand3.{LooksBounded, FinishedRun}

-- a finished sheet stands at the front of the output
pub record Stands (s exit : List ℕ) (f : Finished) : Type 0 where
  -- those bytes are what a run on s prints: E, P and G lines and a T line; and that run makes as many visits and removes those sorts as
  -- demand 3 says
  pub run : FinishedRun s (take f.length exit)
  -- the G lines, behind the P lines: one for each of that run's edges
  pub g_lines : drop f.steps (take f.edges exit) ≡ concat_map edge_line run.whole.edges
  -- the T line, behind the G lines, has that run's figures
  pub t_line :
      drop f.edges (take f.length exit)
      ≡ line 84 (length run.whole.removed ∷ run.whole.tally.visits ∷ run.whole.tally.looks ∷ [])

abbrev pub StandsIfFinished : List ℕ → List ℕ → Outcome Finished → Type 0
StandsIfFinished s exit (done f) = Stands s exit f
StandsIfFinished s exit (refused k) = Unit

pub record Demand3Kept (s exit : List ℕ) (r : Outcome Finished) : Type 0 where
  pub stands : StandsIfFinished s exit r
  -- the looks of any visit of the run on s, one that ends in a refusal included
  pub looks_down : (sh : Sheet) → Accepted s sh → (n : ℕ) (x : Run) → Down sh n x → LooksBounded n x
  pub looks_up : (sh : Sheet) → Accepted s sh → (half : Run) → down sh ≡ done half → (n : ℕ) (x : Run) → Up half n x
      → LooksBounded n x
