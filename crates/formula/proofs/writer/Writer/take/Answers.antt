use native.Mathlib.Omega.{arith}
use Rattle.formula.proofs.Taking.{letter_takes, number_takes, operator_takes}
use Rattle.formula.proofs.writer.Writer.take.Goals as goal

pub returns-in-Letter : goal.returns-in-Letter
returns-in-Letter c = letter_takes _ _ _ _ _ _ c.in-Letter.is c.operand.ensures.line c.operand.ensures.count

pub returns-in-Number : goal.returns-in-Number
returns-in-Number c = number_takes _ _ _ _ _ _ c.in-Number.is c.operand-in-Number.ensures.line c.operand-in-Number.ensures.count

pub returns-in-Operator : goal.returns-in-Operator
returns-in-Operator c = operator_takes _ _ _ _ _ _ _ _ _ c.in-Operator.is
    (omega (arith, c.from.ensures, c.from-in-Operator.ensures)) c.operator.ensures
