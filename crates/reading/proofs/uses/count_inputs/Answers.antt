use mathlib.Core.Path.{ap}
use native.Mathlib.Omega.{arith}
use Rattle.storage.specs.Stored.{stored_steps}
use Rattle.plan.specs.Faults.{named}
use Rattle.reading.proofs.Names.{start, no_inputs, and_more, more_inputs, no_more}
use Rattle.reading.proofs.uses.count_inputs.Goals as goal

pub loop-i-init : goal.loop-i-init
loop-i-init c = start _ _ (no_inputs _)

pub loop-i-preserved : goal.loop-i-preserved
loop-i-preserved c = and_more _ _ _ _ _ _ c.loop-i.invariant c.count_all.ensures (more_inputs _ _ _ c.inputs_of.ensures)

pub returns : goal.returns
returns c = no_more _ _ _ _ c.loop-i.invariant (ap (λ k. named (stored_steps c.args.steps.bytes.now k)) (omega arith))
