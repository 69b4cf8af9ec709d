use borrow.Author.Tests.{lt-ltb, le-ltb}
use Rattle.reading.specs.Uses.{named_once}
use Rattle.reading.proofs.namings.Namings.count.Goals as goal

pub returns-then-c-lt2 : goal.returns-then-c-lt2
unfolding named_once
returns-then-c-lt2 c = rw (← c.self.view_is, c.from-at.ensures, lt-ltb _ 2 (rw c.from-at.ensures at c.if-c-lt2.true))

pub returns-else-c-lt2 : goal.returns-else-c-lt2
unfolding named_once
returns-else-c-lt2 c = rw (← c.self.view_is, le-ltb _ 2 (rw c.from-at.ensures at c.if-c-lt2.false))
