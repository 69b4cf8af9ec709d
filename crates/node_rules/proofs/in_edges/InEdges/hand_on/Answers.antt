use mathlib.Core.Path.{refl}
use Rattle.storage.specs.Edges.{byte_of, producer_of, stored_edge}
use Rattle.node_rules.specs.Held.{handed_on}
use Rattle.node_rules.proofs.EdgeChanges.{none_changed, one_changed, all_changed, out_handed_on}
use native.Mathlib.Omega.{arith}
use Rattle.node_rules.proofs.in_edges.InEdges.hand_on.Goals as goal

pub loop-k-init : goal.loop-k-init
loop-k-init c = (refl, λ ends. none_changed _ ends c.args.edges.now.bytes 0)

pub loop-k-preserved : goal.loop-k-preserved
loop-k-preserved c = (
  c.loop-k.invariant.0,
  λ ends. one_changed (handed_on c.args.self.of (producer_of (byte_of c.args.from))) ends c.args.edges.now.bytes 0 c.loop-k.edges.bytes _ c.loop-k.k (omega arith) (omega arith) _ (c.produce_if.ensures.0 ends)
      (out_handed_on c.args.self.of (byte_of c.args.from) (stored_edge ends c.loop-k.edges.bytes c.loop-k.k) _ (c.is_out_of-out_of.ensures ends)) (c.loop-k.invariant.1 ends),
)

pub returns-clause-edges_after : goal.returns-clause-edges_after
returns-clause-edges_after c = λ ends. rw c.loop-k.invariant.0 (all_changed ends c.args.edges.now.bytes c.loop-k.edges.bytes c.args.edges.now.count c.args.edges.now.few _ c.loop-k.k (omega arith) (c.loop-k.invariant.1 ends))
