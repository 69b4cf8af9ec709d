-- What the graph rests on: the steps of a plan, as refusals 7, 8, 12 and 13 leave them.
use Rattle.std.specs.Prelude.{◌≡◌, ◌⊎◌, ℕ, ◌+◌, ◌≤◌, ◌<◌, not, T, length, if◌then◌else◌}
use mathlib.Core.List.{List, [], Memᴰ}
use Rattle.plan.specs.declared.ir.IR.{IR}
use Rattle.plan.specs.Kinds.{same_ir}
use Rattle.plan.specs.Lists.{times}
use Rattle.plan.specs.Sheet.{Step, step_at}
use Rattle.plan.specs.Faults.{named}
use Rattle.plan.specs.Graph.{sinks, is_cache, one_id}

pub record Plan (ps : List Step) : Type 0 where
  -- the Sinks are the roots
  pub roots : (n : ℕ) → times n (sinks ps) ≡ (if same_ir (step_at ps n).kind IR.Sink then 1 else 0)
  -- every step is a root or named, or names nothing itself; none is named twice but a Cache
  pub rooted : (n : ℕ) → n < length ps → (1 ≤ times n (sinks ps) + times n (named ps)) ⊎ ((step_at ps n).inputs ≡ [])
  pub cache_used : (n : ℕ) → T (is_cache ps n) → 1 ≤ times n (named ps)
  pub once : (n : ℕ) → T (not (is_cache ps n)) → times n (sinks ps) + times n (named ps) ≤ 1
  -- an input is a step of a lower rank
  pub rank : ℕ → ℕ
  pub ranked : (n : ℕ) → n < length ps → rank n < length ps
  pub lower : (n m : ℕ) → Memᴰ m (step_at ps n).inputs → rank m < rank n
  pub input_there : (n m : ℕ) → Memᴰ m (step_at ps n).inputs → m < length ps
  -- a sort has one input
  pub one_input : (n : ℕ) → (step_at ps n).kind ≡ IR.Sort → length (step_at ps n).inputs ≡ 1
  -- each id has one Cache line
  pub ids : (k m : ℕ) → T (one_id ps k m) → k ≡ m
