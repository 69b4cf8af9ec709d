use Rattle.std.proofs.Common.{take}
use Rattle.ir_graph.specs.Edges.{Linked}
use Rattle.ir_graph.proofs.edges.link.Given as goal

abbrev pub invariant-loop-k : goal.invariant-loop-k
invariant-loop-k l =
    Linked l.step (take l.k l.inputs) l.initial.ends l.initial.edges.bytes l.initial.edges.count l.ends l.edges.bytes l.edges.count
