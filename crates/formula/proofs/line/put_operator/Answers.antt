use native.Mathlib.Omega.{arith}
use Rattle.writing.proofs.Over.{then}
use Rattle.formula.proofs.LineTexts.{operator_wrote}
use Rattle.formula.proofs.line.put_operator.Goals as goal

pub returns : goal.returns
returns c = (
  operator_wrote _ _ _ _ _ _ _
      (then _ _ _ _ _ _ _ (then _ _ _ _ _ _ _ (then _ _ _ _ _ _ _ c.put_binary-a.ensures.0 c.put_field.ensures.0) c.put_field-2.ensures.0) c.put_byte.ensures),
  omega (arith, c.put_binary-a.ensures.1, c.put_field.ensures.1, c.put_field-2.ensures.1, c.put_byte.ensures.len),
)
