use mathlib.Core.Path.{◌≡◌}
use Rattle.reading.specs.Uses.{named_each}
use Rattle.storage.specs.Stored.{stored_steps}
use Rattle.plan.specs.Faults.{named}
use Rattle.reading.proofs.uses.count_inputs.Given as goal

abbrev pub invariant-loop-i : goal.invariant-loop-i
invariant-loop-i l = l.namings ≡ named_each l.initial.namings (named (stored_steps l.steps.bytes.now l.i))
