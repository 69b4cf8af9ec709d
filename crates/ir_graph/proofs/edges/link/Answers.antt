use Rattle.std.proofs.Common.{arith}
use Rattle.ir_graph.proofs.Linking.{none_linked, next_linked, all_linked}
use Rattle.ir_graph.proofs.edges.link.Goals as goal

pub loop-k-init : goal.loop-k-init
loop-k-init c = none_linked

pub loop-k-preserved : goal.loop-k-preserved
loop-k-preserved c =
    next_linked c.loop-k.k c.args.inputs.now c.loop-k.invariant (omega arith) c.make_edge.ensures.k_after c.make_edge.ensures.ends_unchanged

pub returns : goal.returns
returns c = all_linked c.loop-k.k c.args.inputs.now c.loop-k.invariant (omega arith)
