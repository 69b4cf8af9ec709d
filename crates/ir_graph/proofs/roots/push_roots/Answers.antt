use Rattle.std.proofs.Common.{arith, ◌∙◌}
use Rattle.claims.proofs.Sizes.{few_sinks}
use Rattle.storage.specs.Stored.{stored_steps}
use Rattle.storage.proofs.Laws.{length_steps}
use Rattle.ir_graph.proofs.Pushing.{no_roots, root_more}
use Rattle.ir_graph.proofs.roots.push_roots.Goals as goal

pub loop-i-init : goal.loop-i-init
loop-i-init c = c.clear.ensures ∙ no_roots c.args.steps.now

pub push_root-requires : goal.push_root-requires
push_root-requires c =
    rw c.loop-i.invariant (omega arith, omega (arith, few_sinks (stored_steps c.args.steps.now c.loop-i.i), length_steps c.args.steps.now c.loop-i.i))

pub loop-i-preserved : goal.loop-i-preserved
loop-i-preserved c = rw (root_more c.args.steps.now c.loop-i.i, ← c.loop-i.invariant) c.push_root.ensures
