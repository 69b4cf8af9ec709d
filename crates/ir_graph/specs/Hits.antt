-- What the first pass hands on: to the second pass, and to update_cache_nodes.
use Rattle.std.specs.Prelude.{◌≡◌, ℕ, ◌≤◌, ◌<◌, List, length, get_or, if◌then◌else◌}
use Rattle.plan.specs.Sheet.{Step}
use Rattle.plan.specs.Graph.{popped, is_cache, key, hits}

-- of each Cache line its hits, of any other 0
pub record HitsCounted (ps : List Step) (counts : List ℕ) : Type 0 where
  pub size : length counts ≡ 32
  pub of_line : (m : ℕ) → get_or counts m 0 ≡ (if is_cache ps m then hits (key ps) (popped ps) m else 0)

-- the steps in the order in which they were popped
pub record MetNoted (ps : List Step) (met : List ℕ) : Type 0 where
  pub order : met ≡ popped ps
  pub few : length met ≤ 288
  pub there : (k : ℕ) → k < length met → get_or met k 0 < length ps
