use mathlib.Core.Path.{◌≡◌}
use mathlib.Core.List.{List}
use Prim.Native.Nat.{ℕ}
use Rattle.storage.specs.Edges.{byte_of, producer_of}
use Rattle.node_rules.specs.Held.{handed_on}
use Rattle.node_rules.proofs.EdgeChanges.{Changed}
use Rattle.node_rules.proofs.in_edges.InEdges.hand_on.Given as goal

abbrev pub invariant-loop-k : goal.invariant-loop-k
invariant-loop-k l = (l.edges.count ≡ l.initial.edges.count) × ((ends : List ℕ) → Changed (handed_on l.fn.self.of (producer_of (byte_of l.from))) ends l.initial.edges.bytes l.edges.bytes 0 l.k)
