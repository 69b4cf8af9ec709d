-- What the code of a visit finds and leaves, of the edges and of the steps.
use Rattle.std.specs.Prelude.{◌≡◌, ℕ, ◌-◌, ◌≤◌, ◌<◌, Bool, true, false, List, map, length, get_or, set, if◌then◌else◌}
use Rattle.std.proofs.Math.Option.{Option, none}
use Rattle.plan.specs.Sheet.{Step, step_at}
use Rattle.plan.specs.Graph.{Edge}
use Rattle.storage.specs.Stored.{table}
use Rattle.plan.specs.declared.rules.Loosened.{Loosened}
use Rattle.plan.specs.Visit as Visit
use Rattle.storage.specs.Edges.{mark}
use Rattle.node_rules.specs.declared.in_edges.InEdges.{InEdges}

-- The edges of a step among all ------------------------------------------------------------------------------------------------------

-- step n has its edges among the first `len`
pub record Among (len n : ℕ) : Type 0 where
  pub few : len ≤ 256
  pub small : n < 32

-- The edges into a step --------------------------------------------------------------------------------------------------------------

-- the edges into step d.of are those from one number up to another
pub record InRun (ends : List ℕ) (len : ℕ) (d : InEdges) : Type 0 where
  pub fits : d.to ≤ len
  pub into : (k : ℕ) → k < len → get_or ends k 0 ≡ d.of → (d.from ≤ k) × (k < d.to)
  pub all : (k : ℕ) → d.from ≤ k → k < d.to → get_or ends k 0 ≡ d.of

-- which of them are unordered
abbrev pub run_marks : List ℕ → InEdges → List Bool
run_marks edges d = table (mark edges) d.from (d.to - d.from)

-- Loosening: the edges into a step, then those out of it ---------------------------------------------------------------------------

abbrev pub ins_of : Loosened → Loosened
ins_of l = record { in0 = l.in0; later = l.later; out = false }

abbrev pub outs_of : Bool → Loosened
outs_of out = record { in0 = false; later = false; out = out }

-- Relinking: the edges out of n are produced by `from`, then those into it lose their producer and are unordered ------------------

abbrev pub handed_on : ℕ → Option ℕ → Edge → Edge
handed_on n from d =
    if Visit.is_out_of n d then record { consumer = d.consumer; slot = d.slot; producer = from; unordered = d.unordered } else d

abbrev pub cut_off : ℕ → Edge → Edge
cut_off n d =
    if Visit.is_into n d then record { consumer = d.consumer; slot = d.slot; producer = none; unordered = true } else d

-- Edges and steps together ----------------------------------------------------------------------------------------------------------

-- every edge leads to a slot of a step
pub record EdgesHeld (ps : List Step) (ds : List Edge) : Type 0 where
  pub there : (k : ℕ) → k < length ds → (get_or ds k Visit.no_edge).consumer < length ps
  pub slots : (k : ℕ) → k < length ds
      → (get_or ds k Visit.no_edge).slot < length (step_at ps (get_or ds k Visit.no_edge).consumer).inputs

-- step n has an input, and an unordered edge leaves it
pub record Unlinkable (ps : List Step) (n : ℕ) (ds : List Edge) : Type 0 where
  pub step : n < length ps
  pub reads : 1 ≤ length (step_at ps n).inputs
  pub unordered : (Visit.out_edge n ds).unordered ≡ true

-- steps and edges after unlink_node, from those before
pub record Unlinked (n : ℕ) (ps : List Step) (ds : List Edge) (ps' : List Step) (ds' : List Edge) : Type 0 where
  pub steps :
      let d = Visit.out_edge n ds in
      ps' ≡ set ps d.consumer (Visit.with_input d.slot (get_or (step_at ps n).inputs 0 0) (step_at ps d.consumer))
  pub edges : ds' ≡ map (Visit.relinked n (Visit.in_edge n ds).producer) ds
