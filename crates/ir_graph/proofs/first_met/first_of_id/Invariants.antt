use Rattle.std.proofs.Common.{◌≡◌, drop}
use Rattle.storage.specs.Held.{steps_in}
use Rattle.plan.specs.Graph.{first_met}
use Rattle.ir_graph.proofs.first_met.first_of_id.Given as goal

abbrev pub invariant-loop-k : goal.invariant-loop-k
invariant-loop-k l =
    first_met (steps_in l.steps) (drop l.k-index l.met) l.m ≡ first_met (steps_in l.steps) l.met l.m
