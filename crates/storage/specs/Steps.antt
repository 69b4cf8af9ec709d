-- What is read of a stored step, and what is changed.
use Rattle.std.specs.Prelude.{◌≡◌, ℕ, ◌≤◌, List, length, set, take}
use Rattle.plan.specs.Sheet.{Step, step_at}
use Rattle.plan.specs.Visit.{with_aggs}
use Rattle.storage.specs.declared.entries.Entries.{Entries}

-- a step's n2 or n3 list, out of the bytes: the first `count` of the nodes
pub record IsList (xs : List ℕ) (e : Entries) : Type 0 where
  pub is : take e.count e.nodes ≡ xs
  pub few : e.count ≤ 8
  pub room : length e.nodes ≡ 8

-- the steps, with another entry k in the n3 list of step i
abbrev pub with_agg : ℕ → ℕ → ℕ → List Step → List Step
with_agg i k agg ps = set ps i (with_aggs (set (step_at ps i).aggs k agg) (step_at ps i))
