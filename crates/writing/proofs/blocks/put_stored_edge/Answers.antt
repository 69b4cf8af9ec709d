use native.Mathlib.Omega.{arith}
use Rattle.plan.specs.Text.{edge_line}
use Rattle.storage.specs.Edges.{stored_edge}
use Rattle.writing.proofs.blocks.put_stored_edge.Goals as goal

pub returns : goal.returns
unfolding edge_line stored_edge
returns c =
    let consumer = c.consumer_of.ensures c.args.edges.now in
    let slot = c.slot_of.ensures c.args.edges.now in
    (rw (consumer, slot, c.is_unordered.ensures) at c.put_edge.ensures.0, omega arith)
