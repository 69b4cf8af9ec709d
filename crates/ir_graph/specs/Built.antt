-- What the graph's list and arrays hold when both passes are done.
use Rattle.std.specs.Prelude.{◌≡◌, ℕ, ◌+◌, ◌≤◌, ◌<◌, List, length, get_or}
use Rattle.plan.specs.Sheet.{Step, step_at}
use Rattle.plan.specs.Graph.{graph}
use Rattle.storage.specs.Edges.{stored_edges, InRows}

-- the visiting list is `places`, and `made` edges stand in the arrays
pub record Built (ps : List Step) (places ends edges : List ℕ) (made : ℕ) : Type 0 where
  pub places_are : places ≡ (graph ps).0
  pub edges_are : stored_edges ends edges made ≡ (graph ps).1
  pub few_places : length places ≤ 288
  pub few_edges : made ≤ 256
  -- what is placed and linked are lines of the sheet
  pub place_there : (k : ℕ) → k < length places → get_or places k 0 < length ps
  pub consumer_there : (k : ℕ) → k < made → get_or ends k 0 < length ps
  pub slot_there : (k : ℕ) → k < made → get_or ends (256 + k) 0 < length (step_at ps (get_or ends k 0)).inputs
  pub producer_there : (k : ℕ) → k < made → get_or edges k 0 < length ps
  -- each step's in-edges stand in a row
  pub in_rows : InRows ends made (length ps)
