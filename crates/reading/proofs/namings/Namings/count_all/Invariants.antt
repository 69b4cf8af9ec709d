use mathlib.Core.Path.{◌≡◌}
use lib.ListN.{take}
use Rattle.reading.specs.Uses.{named_each}
use Rattle.reading.proofs.namings.Namings.count_all.Given as goal

abbrev pub invariant-loop-q : goal.invariant-loop-q
invariant-loop-q l = l.self ≡ named_each l.initial.self (take l.q-index l.numbers)
