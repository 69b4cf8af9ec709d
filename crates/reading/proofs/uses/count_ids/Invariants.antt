use mathlib.Core.Path.{◌≡◌}
use Rattle.reading.specs.Uses.{named_each}
use Rattle.storage.specs.Stored.{stored_steps}
use Rattle.plan.specs.Faults.{cache_ids}
use Rattle.reading.proofs.uses.count_ids.Given as goal

abbrev pub invariant-loop-i : goal.invariant-loop-i
invariant-loop-i l = l.namings ≡ named_each l.initial.namings (cache_ids (stored_steps l.steps l.i))
