use mathlib.Core.Path.{refl}
use Rattle.node_rules.proofs.EdgeChanges.{none_changed, one_changed, in_cut_off, both_changed, ins_cut_off}
use native.Mathlib.Omega.{arith}
use Rattle.node_rules.proofs.in_edges.InEdges.cut_off.Goals as goal

pub loop-k-init : goal.loop-k-init
loop-k-init c = (refl, λ ends. none_changed _ ends c.args.edges.now.bytes c.args.self.from)

pub loop-k-preserved : goal.loop-k-preserved
loop-k-preserved c = (
  c.loop-k.invariant.0,
  λ ends. one_changed in_cut_off ends c.args.edges.now.bytes c.args.self.from c.loop-k.edges.bytes _ c.loop-k.k (omega arith) (omega arith) _ (both_changed (c.produce_if.ensures.0 ends) (c.loosen_if.ensures.0 ends)) refl (c.loop-k.invariant.1 ends),
)

pub returns-clause-edges_after : goal.returns-clause-edges_after
returns-clause-edges_after c = λ ends run. rw c.loop-k.invariant.0 (ins_cut_off ends c.args.edges.now.bytes c.loop-k.edges.bytes c.args.edges.now.count c.args.edges.now.few c.args.self run c.loop-k.k (omega arith) (omega arith) (c.loop-k.invariant.1 ends))
