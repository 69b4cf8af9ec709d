use mathlib.Core.Path.{refl}
use mathlib.Core.Bool.{true}
use Rattle.plan.specs.Visit.{loosened}
use Rattle.storage.specs.Edges.{stored_edge}
use Rattle.node_rules.specs.Held.{outs_of}
use Rattle.node_rules.proofs.EdgeChanges.{none_changed, one_changed, all_changed, none_loosened, out_loosened}
use native.Mathlib.Omega.{arith}
use Rattle.node_rules.proofs.in_edges.InEdges.loosen_out.Goals as goal

pub returns-then-not-out-clause-edges_after : goal.returns-then-not-out-clause-edges_after
returns-then-not-out-clause-edges_after c = λ ends. none_loosened c.args.self.of (outs_of c.args.out) refl refl c.if-not-out.true _

pub loop-k-init : goal.loop-k-init
loop-k-init c = (refl, λ ends. none_changed _ ends c.args.edges.now.bytes 0)

pub loop-k-preserved : goal.loop-k-preserved
loop-k-preserved c = (
  c.loop-k.invariant.0,
  λ ends. one_changed (loosened c.args.self.of (outs_of true)) ends c.args.edges.now.bytes 0 c.loop-k.edges.bytes _ c.loop-k.k (omega arith) (omega arith) _ (c.loosen_if.ensures.0 ends)
      (out_loosened c.args.self.of (stored_edge ends c.loop-k.edges.bytes c.loop-k.k) _ (c.is_out_of-out_of.ensures ends)) (c.loop-k.invariant.1 ends),
)

pub returns-clause-edges_after : goal.returns-clause-edges_after
returns-clause-edges_after c = λ ends. rw (c.if-not-out.false, c.loop-k.invariant.0) (all_changed ends c.args.edges.now.bytes c.loop-k.edges.bytes c.args.edges.now.count c.args.edges.now.few _ c.loop-k.k (omega arith) (c.loop-k.invariant.1 ends))
