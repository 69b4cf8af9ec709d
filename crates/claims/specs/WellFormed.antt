-- What is known of every sheet that is accepted.
use Rattle.std.specs.Prelude.{◌≡◌, List, not, ℕ, T}
use Rattle.plan.specs.Lists.{all?, numbered}
use Rattle.plan.specs.Sheet.{Sheet, done, ◌then◌, read, in_expr_table, in_step_table, over_limits, no_plan}
use Rattle.plan.specs.Faults.{lines, references_right, named_right, id_right, field_right, checked}

-- the bytes s are accepted, as the sheet sh
abbrev pub Accepted : List ℕ → Sheet → Type 0
Accepted s sh = (read s then checked) ≡ done sh

-- every line passes every test
pub record Tested (sh : Sheet) : Type 0 where
  pub references : T (all? (references_right sh) (lines sh))
  pub uses : T (all? (named_right sh) (lines sh))
  pub ids : T (all? (id_right sh.steps) (numbered 0 sh.steps))
  pub fields : T (all? (field_right sh.exprs) (numbered 0 sh.exprs))

-- The bytes s are accepted exactly if they are read as a sheet that passes the tests. That names no number: which sheets are
-- accepted does not depend on how their faults are numbered
pub record AcceptedAre (s : List ℕ) (sh : Sheet) : Type 0 where
  pub tested : Accepted s sh → (read s ≡ done sh) × Tested sh
  pub accepted : read s ≡ done sh → Tested sh → Accepted s sh

pub record WellFormed (sh : Sheet) : Type 0 where
  pub exprs_in_table : T (all? in_expr_table sh.exprs)
  pub steps_in_table : T (all? in_step_table sh.steps)
  pub within_limits : T (not (over_limits sh))
  pub has_plan : T (not (no_plan sh))
  pub tested : Tested sh
