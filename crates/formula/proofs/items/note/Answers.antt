use mathlib.Core.Path.{refl}
use borrow.Author.Tests.{lt-ltb, le-ltb}
use Rattle.formula.specs.Items.{with_item}
use Rattle.formula.proofs.items.note.Goals as goal

pub returns-then-count-places : goal.returns-then-count-places
unfolding with_item
returns-then-count-places c = rw (lt-ltb _ _ c.if-count-places.true) refl

pub returns-else-count-places : goal.returns-else-count-places
unfolding with_item
returns-else-count-places c = rw (le-ltb _ _ c.if-count-places.false) refl
