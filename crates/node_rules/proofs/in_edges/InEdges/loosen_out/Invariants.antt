use mathlib.Core.Path.{◌≡◌}
use mathlib.Core.Bool.{true}
use mathlib.Core.List.{List}
use Prim.Native.Nat.{ℕ}
use Rattle.plan.specs.Visit.{loosened}
use Rattle.node_rules.specs.Held.{outs_of}
use Rattle.node_rules.proofs.EdgeChanges.{Changed}
use Rattle.node_rules.proofs.in_edges.InEdges.loosen_out.Given as goal

abbrev pub invariant-loop-k : goal.invariant-loop-k
invariant-loop-k l = (l.edges.count ≡ l.initial.edges.count) × ((ends : List ℕ) → Changed (loosened l.fn.self.of (outs_of true)) ends l.initial.edges.bytes l.edges.bytes 0 l.k)
