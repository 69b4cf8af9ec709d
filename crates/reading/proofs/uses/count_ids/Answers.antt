use mathlib.Core.Path.{ap}
use native.Mathlib.Omega.{arith}
use Rattle.storage.specs.Stored.{stored_steps}
use Rattle.plan.specs.Faults.{cache_ids}
use Rattle.reading.proofs.Names.{start, no_ids, and_more, more_ids, no_more}
use Rattle.reading.proofs.uses.count_ids.Goals as goal

pub loop-i-init : goal.loop-i-init
loop-i-init c = start _ _ (no_ids _)

pub loop-i-preserved : goal.loop-i-preserved
loop-i-preserved c = and_more _ _ _ _ _ _ c.loop-i.invariant c.count_id.ensures (more_ids _ _)

pub returns : goal.returns
returns c = no_more _ _ _ _ c.loop-i.invariant (ap (λ k. cache_ids (stored_steps c.args.steps.now k)) (omega arith))
