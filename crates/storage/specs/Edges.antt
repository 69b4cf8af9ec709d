-- How the code stores the edges, in two arrays. `ends` has what never changes: of edge k the step that consumes it at k and its slot at
-- 256 + k, and of step m the number of its first in-edge at 512 + m. `edges` has, of edge k, the step that produces it at k and its
-- mark at 256 + k, which is 1 if it is unordered.
use Rattle.std.specs.Prelude as rust
use Rattle.std.specs.Prelude.{ℕ, ◌+◌, ◌≤◌, ◌<◌, ◌≡◌, ◌≢◌, Bool, false, ◌||◌, List, eqb, get_or, if◌then◌else◌}
use Rattle.std.specs.Option.{unwrap_or}
use Rattle.std.proofs.Math.Option.{Option, none, some}
use Rattle.plan.specs.Lists.{yes?}
use Rattle.plan.specs.Graph.{Edge}
use Rattle.storage.specs.Stored.{table}

-- an edge into a removed sort has the producer 255, which is no step's
abbrev pub producer_of : ℕ → Option ℕ
producer_of p = if eqb p 255 then none else some p

-- the byte that is stored for the code's Option of a step
abbrev pub byte_of : rust.Option ℕ → ℕ
byte_of p = unwrap_or p 255

-- is edge k unordered?
abbrev pub mark : List ℕ → ℕ → Bool
mark edges k = yes? (get_or edges (256 + k) 0)

unfoldable pub stored_edge : (ends edges : List ℕ) → ℕ → Edge
stored_edge ends edges k =
    record {
      consumer = get_or ends k 0;
      slot = get_or ends (256 + k) 0;
      producer = producer_of (get_or edges k 0);
      unordered = mark edges k;
    }

-- the first n of them
unfoldable pub stored_edges : (ends edges : List ℕ) → ℕ → List Edge
stored_edges ends edges n = table (stored_edge ends edges) 0 n

-- Making and changing one ------------------------------------------------------------------------------------------------------------

-- an edge as it is made: it has a producer, and is ordered
abbrev pub made : ℕ → ℕ → ℕ → Edge
made n k m = record { consumer = n; slot = k; producer = some m; unordered = false }

abbrev pub with_mark : Bool → Edge → Edge
with_mark u d = record { consumer = d.consumer; slot = d.slot; producer = d.producer; unordered = u }

abbrev pub with_producer : Option ℕ → Edge → Edge
with_producer p d = record { consumer = d.consumer; slot = d.slot; producer = p; unordered = d.unordered }

abbrev pub loosened_if : Bool → Edge → Edge
loosened_if b d = with_mark (d.unordered || b) d

abbrev pub produced_if : Bool → ℕ → Edge → Edge
produced_if b p d = if b then with_producer (producer_of p) d else d

-- edge k was changed, and no other; `old` was the array of producers and marks, and is `now`
pub record EdgeChanged (change : Edge → Edge) (ends : List ℕ) (k : ℕ) (old now : List ℕ) : Type 0 where
  pub here : stored_edge ends now k ≡ change (stored_edge ends old k)
  pub elsewhere : (j : ℕ) → j < 256 → j ≢ k → stored_edge ends now j ≡ stored_edge ends old j

-- In-edges ---------------------------------------------------------------------------------------------------------------------------

-- the edges into step m stand in a row among the first n: none is before the number that `ends` has for it, and from there to the last
-- of them there is no other
pub record InARow (ends : List ℕ) (n m : ℕ) : Type 0 where
  pub few : get_or ends (512 + m) 0 ≤ n
  pub from : (k : ℕ) → k < n → get_or ends k 0 ≡ m → get_or ends (512 + m) 0 ≤ k
  pub row : (j k : ℕ) → get_or ends (512 + m) 0 ≤ j → j ≤ k → k < n → get_or ends k 0 ≡ m → get_or ends j 0 ≡ m

-- so do those into each of the steps
abbrev pub InRows : List ℕ → ℕ → ℕ → Type 0
InRows ends n steps = (m : ℕ) → m < steps → InARow ends n m
