-- What a stored plan holds, as the definition's lists.
use Rattle.std.specs.Prelude.{◌≡◌, ℕ, List}
use Rattle.plan.specs.Sheet.{Expr, Step}
use Rattle.plan.specs.Graph.{Edge}
use Rattle.storage.specs.Stored.{arena_of, stored_steps}
use Rattle.storage.specs.Edges.{stored_edges}
use Rattle.storage.specs.declared.stored.Records.{Records}
use Rattle.storage.specs.declared.stored.Arena.{Arena}
use Rattle.storage.specs.declared.stored.Steps.{Steps}
use Rattle.storage.specs.declared.stored.Edges.{Edges}

abbrev pub arena_in : Arena → List Expr
arena_in a = arena_of a.records.bytes a.lines.holds a.lines.off a.records.count

-- the records r' are r as they were
abbrev pub SameRecords : Records → Records → Type 0
SameRecords r r' = (r'.bytes ≡ r.bytes) × (r'.count ≡ r.count)

abbrev pub steps_in : Steps → List Step
steps_in s = stored_steps s.bytes s.count

-- `ends` has what does not change of the edges
abbrev pub edges_in : List ℕ → Edges → List Edge
edges_in ends e = stored_edges ends e.bytes e.count
