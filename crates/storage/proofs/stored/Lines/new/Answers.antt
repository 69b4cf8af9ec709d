use Rattle.std.proofs.Common.{rules}
use Rattle.storage.proofs.Starts.{none_off}
use Rattle.storage.proofs.stored.Lines.new.Goals as goal

pub invariant_of-result : goal.invariant_of-result
invariant_of-result c = record { sized = c.from_fn.ensures.items.long; off_sized = none_off.size }

pub returns-clause-own : goal.returns-clause-own
returns-clause-own c =
    let items = c.from_fn.ensures.items in
    record { size = items.long; own = λ q h. let (before, after, called) = items.at q 0 h in search rules }

pub returns-clause-none_off : goal.returns-clause-none_off
returns-clause-none_off c = none_off
