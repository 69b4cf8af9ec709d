use Rattle.std.proofs.Common.{◌-◌}
use Rattle.plan.specs.Graph.{most_places}
use Rattle.storage.specs.Held.{steps_in}
use Rattle.ir_graph.proofs.Graphs.{Placing}
use Rattle.ir_graph.proofs.ir_graph.grow.Given as goal

abbrev pub invariant-loop-i : goal.invariant-loop-i
invariant-loop-i l = Placing (steps_in l.steps) l.places.items l.hits l.ends l.edges.bytes l.edges.count l.i

abbrev pub decreases-loop-i : goal.decreases-loop-i
decreases-loop-i l = most_places (steps_in l.steps) - l.i
