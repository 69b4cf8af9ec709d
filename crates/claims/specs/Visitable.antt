-- What the code of a visit leans on: of the step n, in the state r in which it is visited.
use mathlib.Core.List.{List, Memᴰ}
use Rattle.std.specs.Prelude.{ℕ, ◌+◌, ◌≤◌, ◌<◌, ◌^◌, T, length, get_or}
use Rattle.plan.specs.Sheet.{step_at}
use Rattle.plan.specs.Visit.{Run, no_edge, goes, looked_in}
use Rattle.plan.specs.Walks.{trace}

pub record Visitable (n : ℕ) (r : Run) : Type 0 where
  pub step : n < length r.steps
  pub visits : r.tally.visits + 1 < 2 ^ 64
  -- the entries of its two lists are records, those of the n3 list also before the Implodes are appended
  pub exprs : (q : ℕ) → Memᴰ q (step_at r.steps n).exprs → q < length r.arena
  pub aggs : (q : ℕ) → Memᴰ q (step_at r.steps n).aggs → q < length r.arena
  pub imploded : (q : ℕ) → Memᴰ q (looked_in n r).step.aggs → q < length (looked_in n r).start.expr_arena
  -- the arena has room for the Implodes, and the looks fit in the 58 bits that count them
  pub room : length (looked_in n r).start.expr_arena ≤ 128
  pub between : (looked_in n r).between.tally.looks < 2 ^ 58
  pub looks : (looked_in n r).end.tally.looks < 2 ^ 58
  -- every edge leads to a slot of a step
  pub consumers : (k : ℕ) → k < length r.edges → (get_or r.edges k no_edge).consumer < length r.steps
  pub slots : (k : ℕ) → k < length r.edges
      → (get_or r.edges k no_edge).slot < length (step_at r.steps (get_or r.edges k no_edge).consumer).inputs
  -- a sort that goes has an input
  pub input : T (goes n r) → 1 ≤ length (step_at r.steps n).inputs

-- at each visit of a walk along ns that sets out from r
abbrev pub AllVisitable : List ℕ → Run → Type 0
AllVisitable ns r = (n : ℕ) (v : Run) → Memᴰ (n, v) (trace ns r) → Visitable n v
