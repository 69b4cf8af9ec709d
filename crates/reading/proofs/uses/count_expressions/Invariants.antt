use mathlib.Core.Path.{◌≡◌}
use Rattle.storage.specs.Stored.{stored_steps}
use Rattle.reading.specs.Uses.{named_each, all_both}
use Rattle.reading.proofs.uses.count_expressions.Given as goal

abbrev pub invariant-loop-i : goal.invariant-loop-i
invariant-loop-i l = l.namings ≡ named_each l.initial.namings (all_both (stored_steps l.steps.bytes.now l.i))
