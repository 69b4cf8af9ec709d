use mathlib.Core.Path.{refl, sym, subst}
use Rattle.formula.specs.Seen.{with_begun}
use Rattle.formula.proofs.Classes.{Is, is}
use Rattle.formula.proofs.Seeing.{of_class, other}
use Rattle.formula.proofs.seen.Seen.after.Goals as goal

pub digit-requires : goal.digit-requires
unfolding Is
digit-requires c = subst (λ k. Is k c.args.b) (sym c.in-Digit.ensures) (is c.args.b)

pub returns-in-Sign-clause-seen : goal.returns-in-Sign-clause-seen
returns-in-Sign-clause-seen c = of_class _ _ _ _ c.in-Sign.ensures (c.sign.ensures.seen _)

pub returns-in-Sign-clause-noted : goal.returns-in-Sign-clause-noted
unfolding with_begun
returns-in-Sign-clause-noted c = rw (← c.in-Sign.ensures) c.sign.ensures.noted

pub returns-in-Space-clause-seen : goal.returns-in-Space-clause-seen
returns-in-Space-clause-seen c = of_class _ _ _ _ c.in-Space.ensures (c.space.ensures _)

pub returns-in-Space-clause-noted : goal.returns-in-Space-clause-noted
unfolding with_begun
returns-in-Space-clause-noted c = rw (← c.in-Space.ensures) refl

pub returns-in-Opens-clause-seen : goal.returns-in-Opens-clause-seen
returns-in-Opens-clause-seen c = of_class _ _ _ _ c.in-Opens.ensures (c.opens.ensures _)

pub returns-in-Opens-clause-noted : goal.returns-in-Opens-clause-noted
unfolding with_begun
returns-in-Opens-clause-noted c = rw (← c.in-Opens.ensures) refl

pub returns-in-Closes-clause-seen : goal.returns-in-Closes-clause-seen
returns-in-Closes-clause-seen c = of_class _ _ _ _ c.in-Closes.ensures (c.closes.ensures _)

pub returns-in-Closes-clause-noted : goal.returns-in-Closes-clause-noted
unfolding with_begun
returns-in-Closes-clause-noted c = rw (← c.in-Closes.ensures) refl

pub returns-in-Letter-clause-seen : goal.returns-in-Letter-clause-seen
returns-in-Letter-clause-seen c = of_class _ _ _ _ c.in-Letter.ensures (c.letter.ensures.seen _)

pub returns-in-Letter-clause-noted : goal.returns-in-Letter-clause-noted
unfolding with_begun
returns-in-Letter-clause-noted c = rw (← c.in-Letter.ensures) c.letter.ensures.noted

pub returns-in-Digit-clause-seen : goal.returns-in-Digit-clause-seen
returns-in-Digit-clause-seen c = of_class _ _ _ _ c.in-Digit.ensures c.digit.ensures.seen

pub returns-in-Digit-clause-noted : goal.returns-in-Digit-clause-noted
unfolding with_begun
returns-in-Digit-clause-noted c = rw (← c.in-Digit.ensures) c.digit.ensures.noted

pub returns-in-Other-clause-seen : goal.returns-in-Other-clause-seen
returns-in-Other-clause-seen c = of_class _ _ _ _ c.in-Other.ensures (other _ _)

pub returns-in-Other-clause-noted : goal.returns-in-Other-clause-noted
unfolding with_begun
returns-in-Other-clause-noted c = rw (← c.in-Other.ensures) refl
