use native.Mathlib.Omega.{arith}
use Rattle.formula.proofs.LineTexts.{column_text, literal_text}
use Rattle.formula.proofs.line.put_operand.Goals as goal

pub returns-then-number : goal.returns-then-number
returns-then-number c = rw (c.if-number.true, literal_text) (c.put_word.ensures, omega (arith, c.put_word.ensures.len))

pub returns-else-number : goal.returns-else-number
returns-else-number c =
    rw (c.if-number.false, column_text) (c.put_word-else-number.ensures, omega (arith, c.put_word-else-number.ensures.len))
