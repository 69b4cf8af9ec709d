use Rattle.std.proofs.Common.{arith, refl, ◌∙◌}
use Rattle.storage.proofs.Laws.{length_steps}
use Rattle.ir_graph.proofs.UpdateCaches.{no_lines, next_line, all_lines}
use Rattle.ir_graph.proofs.update_cache_nodes.update_cache_nodes.Goals as goal

pub loop-m-init : goal.loop-m-init
loop-m-init c = (refl, c.requires.updatable, no_lines _ _)

pub loop-m-preserved : goal.loop-m-preserved
loop-m-preserved c =
    let next = next_line _ _ c.loop-m.m _ _ c.loop-m.invariant.1 c.loop-m.invariant.2 c.update_cache_node.ensures.updated in
    (c.update_cache_node.ensures.count ∙ c.loop-m.invariant.0, next.0, next.1)

pub returns-clause-updated : goal.returns-clause-updated
returns-clause-updated c = all_lines _ _ c.requires.updatable c.loop-m.m (omega (arith, length_steps c.args.steps.now.bytes c.args.steps.now.count)) c.loop-m.invariant.2
