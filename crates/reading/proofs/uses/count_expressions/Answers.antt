use mathlib.Core.Path.{ap}
use native.Mathlib.Omega.{arith}
use Rattle.storage.specs.Stored.{stored_steps}
use Rattle.reading.specs.Uses.{all_both}
use Rattle.reading.proofs.Names.{start, no_both, and_more, more_both, no_more}
use Rattle.reading.proofs.uses.count_expressions.Goals as goal

pub loop-i-init : goal.loop-i-init
loop-i-init c = start _ _ (no_both _)

pub loop-i-preserved : goal.loop-i-preserved
loop-i-preserved c = and_more _ _ _ _ _ _ c.loop-i.invariant c.count_all.ensures (more_both _ _ _ c.exprs_of.ensures)

pub returns : goal.returns
returns c = no_more _ _ _ _ c.loop-i.invariant (ap (λ k. all_both (stored_steps c.args.steps.bytes.now k)) (omega arith))
