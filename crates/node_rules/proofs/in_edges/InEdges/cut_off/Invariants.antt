use mathlib.Core.Path.{◌≡◌}
use mathlib.Core.List.{List}
use Prim.Native.Nat.{ℕ}
use Rattle.node_rules.proofs.EdgeChanges.{Changed, in_cut_off}
use Rattle.node_rules.proofs.in_edges.InEdges.cut_off.Given as goal

abbrev pub invariant-loop-k : goal.invariant-loop-k
invariant-loop-k l = (l.edges.count ≡ l.initial.edges.count) × ((ends : List ℕ) → Changed in_cut_off ends l.initial.edges.bytes l.edges.bytes l.fn.self.from l.k)
