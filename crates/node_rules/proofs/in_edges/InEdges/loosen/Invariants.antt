use mathlib.Core.Path.{◌≡◌}
use Rattle.node_rules.proofs.EdgeChanges.{Changed, in_loosened}
use Rattle.node_rules.proofs.in_edges.InEdges.loosen.Given as goal

abbrev pub invariant-loop-k : goal.invariant-loop-k
invariant-loop-k l = (l.edges.count ≡ l.initial.edges.count) × Changed (in_loosened l.l) l.ends l.initial.edges.bytes l.edges.bytes l.fn.self.from l.k
