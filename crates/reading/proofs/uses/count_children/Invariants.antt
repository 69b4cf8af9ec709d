use mathlib.Core.Path.{◌≡◌}
use Rattle.storage.specs.Stored.{stored_exprs}
use Rattle.reading.specs.Uses.{named_each, all_children}
use Rattle.reading.proofs.uses.count_children.Given as goal

abbrev pub invariant-loop-i : goal.invariant-loop-i
invariant-loop-i l = l.namings ≡ named_each l.initial.namings (all_children (stored_exprs l.exprs.bytes.now l.i))
