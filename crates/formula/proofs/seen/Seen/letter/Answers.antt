use mathlib.Core.Path.{refl, sym, ◌∙◌}
use Rattle.formula.specs.Seen.{with_begun}
use Rattle.formula.proofs.Seeing.{letter_wanted, letter_had}
use Rattle.formula.proofs.seen.Seen.letter.Goals as goal

pub returns-then-not-wants-clause-seen : goal.returns-then-not-wants-clause-seen
returns-then-not-wants-clause-seen c = λ b. letter_had b _ (sym c.wants.ensures ∙ c.if-not-wants.true)

pub returns-then-not-wants-clause-noted : goal.returns-then-not-wants-clause-noted
unfolding with_begun
returns-then-not-wants-clause-noted c = rw (sym c.wants.ensures ∙ c.if-not-wants.true) refl

pub returns-clause-seen : goal.returns-clause-seen
returns-clause-seen c = λ b. rw c.then.ensures (letter_wanted b _ (sym c.wants.ensures ∙ c.if-not-wants.false))

pub returns-clause-noted : goal.returns-clause-noted
unfolding with_begun
returns-clause-noted c = rw (sym c.wants.ensures ∙ c.if-not-wants.false) c.note.ensures
