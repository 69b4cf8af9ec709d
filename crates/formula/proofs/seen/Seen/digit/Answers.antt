use mathlib.Core.Logic.{inl, inr}
use mathlib.Core.Path.{refl, ap}
use Rattle.formula.specs.declared.seen.Next.{Next}
use Rattle.formula.specs.Seen.{wants, with_begun}
use Rattle.formula.proofs.Seeing.{digit_wanted, digit_none}
use Rattle.formula.proofs.seen.Seen.digit.Goals as goal

pub returns-in-Operand-clause-seen : goal.returns-in-Operand-clause-seen
returns-in-Operand-clause-seen c =
    rw c.then.ensures (digit_wanted _ _ (elim c.in-Operand.is [ inl e ↦ ap wants e | inr e ↦ ap wants e ]))

pub returns-in-Operand-clause-noted : goal.returns-in-Operand-clause-noted
unfolding with_begun
returns-in-Operand-clause-noted c = elim c.in-Operand.is [ inl e ↦ rw (ap wants e) c.note.ensures | inr e ↦ rw (ap wants e) c.note.ensures ]

pub returns-in-SignSpaceOrDigit-clause-noted : goal.returns-in-SignSpaceOrDigit-clause-noted
unfolding with_begun
returns-in-SignSpaceOrDigit-clause-noted c = rw (ap wants c.in-SignSpaceOrDigit.is) refl

pub returns-in-Sign-clause-seen : goal.returns-in-Sign-clause-seen
returns-in-Sign-clause-seen c = elim c.in-Sign.is [ inl e ↦ digit_none _ _ Next.Sign e refl refl | inr e ↦ digit_none _ _ Next.SignOrSpace e refl refl ]

pub returns-in-Sign-clause-noted : goal.returns-in-Sign-clause-noted
unfolding with_begun
returns-in-Sign-clause-noted c = elim c.in-Sign.is [ inl e ↦ rw (ap wants e) refl | inr e ↦ rw (ap wants e) refl ]
