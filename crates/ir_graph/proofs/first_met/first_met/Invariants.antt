use Rattle.std.proofs.Common.{◌≡◌}
use Rattle.storage.specs.Stored.{table}
use Rattle.storage.specs.Held.{steps_in}
use Rattle.plan.specs.Graph.{first_met}
use Rattle.ir_graph.proofs.first_met.first_met.Given as goal

abbrev pub invariant-loop-m : goal.invariant-loop-m
invariant-loop-m l = l.first.items ≡ table (first_met (steps_in l.steps) l.met.items) 0 l.m
