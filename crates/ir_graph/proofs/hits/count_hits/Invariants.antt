use Rattle.std.proofs.Common.{◌-◌, length}
use Rattle.plan.specs.Graph.{most_places}
use Rattle.storage.specs.Held.{steps_in}
use Rattle.ir_graph.proofs.FirstPass.{Popping}
use Rattle.ir_graph.proofs.hits.count_hits.Given as goal

abbrev pub invariant-loop-top : goal.invariant-loop-top
invariant-loop-top l = Popping (steps_in l.steps) l.stack.items l.hits l.met.items

abbrev pub decreases-loop-top : goal.decreases-loop-top
decreases-loop-top l = most_places (steps_in l.steps) - length l.met.items
