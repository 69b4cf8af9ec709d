use mathlib.Core.Path.{refl, sym, ◌∙◌}
use Rattle.formula.specs.Seen.{with_begun}
use Rattle.formula.proofs.Seeing.{sign_wanted, sign_had}
use Rattle.formula.proofs.seen.Seen.sign.Goals as goal

pub returns-then-wants-clause-seen : goal.returns-then-wants-clause-seen
returns-then-wants-clause-seen c = λ b. sign_wanted b _ _ (sym c.wants.ensures ∙ c.if-wants.true)

pub returns-then-wants-clause-noted : goal.returns-then-wants-clause-noted
unfolding with_begun
returns-then-wants-clause-noted c = rw (sym c.wants.ensures ∙ c.if-wants.true) refl

pub returns-clause-seen : goal.returns-clause-seen
returns-clause-seen c = λ b. rw c.then.ensures (sign_had b _ _ (sym c.wants.ensures ∙ c.if-wants.false))

pub returns-clause-noted : goal.returns-clause-noted
unfolding with_begun
returns-clause-noted c = rw (sym c.wants.ensures ∙ c.if-wants.false) c.note.ensures
