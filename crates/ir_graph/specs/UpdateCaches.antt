-- CacheNodeUpdater of ir_graph.rs as the code goes about it: a table of the lines met first, and update_cache_nodes line by line.
use Rattle.std.specs.Prelude.{◌≡◌, ℕ, List, T, length, get_or, set, if◌then◌else◌}
use Rattle.plan.specs.Sheet.{Step, step_at}
use Rattle.plan.specs.Graph.{is_cache, key}
use Rattle.storage.specs.Stored.{table}
use Rattle.plan.specs.Visit.{with_input}

-- the key of each line, by the steps as they are sent; only a Cache's is read
unfoldable pub first_lines : List Step → List ℕ
first_lines ps = table (key ps) 0 (length ps)

-- such a table as a function
abbrev pub line_met : List ℕ → ℕ → ℕ
line_met first m = get_or first m 0

-- Line m, if it is a Cache, takes the input of the line of its id that was met first; that line itself keeps its own
unfoldable pub update_cache_node : List ℕ → List Step → ℕ → List Step
update_cache_node first ps m =
    if is_cache ps m then set ps m (with_input 0 (get_or (step_at ps (line_met first m)).inputs 0 0) (step_at ps m)) else ps

-- what the code leans on: a Cache has one input, and the line met first for it is a Cache that was itself met first
pub record Updatable (first : List ℕ) (ps : List Step) : Type 0 where
  pub input : (m : ℕ) → T (is_cache ps m) → length (step_at ps m).inputs ≡ 1
  pub cache : (m : ℕ) → T (is_cache ps m) → T (is_cache ps (line_met first m))
  pub own : (m : ℕ) → T (is_cache ps m) → line_met first (line_met first m) ≡ line_met first m
