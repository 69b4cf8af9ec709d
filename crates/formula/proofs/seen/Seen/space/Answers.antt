use mathlib.Core.Logic.{inl, inr}
use Rattle.formula.specs.declared.seen.Next.{Next}
use Rattle.formula.proofs.Seeing.{space}
use Rattle.formula.proofs.seen.Seen.space.Goals as goal

pub returns-in-OperandOrSpace : goal.returns-in-OperandOrSpace
returns-in-OperandOrSpace c = λ b. rw c.then.ensures (space b _ Next.OperandOrSpace c.in-OperandOrSpace.is)

pub returns-in-SignOrSpace : goal.returns-in-SignOrSpace
returns-in-SignOrSpace c =
    λ b. rw c.then-in-SignOrSpace.ensures (elim c.in-SignOrSpace.is [
      | inl e ↦ space b _ Next.SignOrSpace e
      | inr e ↦ space b _ (Next.SignSpaceOrDigit e.0) e.1
    ])

pub returns-in-Operand : goal.returns-in-Operand
returns-in-Operand c = λ b. elim c.in-Operand.is [ inl e ↦ space b _ Next.Operand e | inr e ↦ space b _ Next.Sign e ]
