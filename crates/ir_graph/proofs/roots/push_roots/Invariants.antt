use Rattle.std.proofs.Common.{◌≡◌}
use Rattle.plan.specs.Graph.{sinks}
use Rattle.storage.specs.Stored.{stored_steps}
use Rattle.ir_graph.proofs.roots.push_roots.Given as goal

abbrev pub invariant-loop-i : goal.invariant-loop-i
invariant-loop-i l = l.list.items ≡ sinks (stored_steps l.steps l.i)
