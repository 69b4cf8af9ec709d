use native.Mathlib.Omega.{arith}
use Rattle.plan.specs.Text.{line}
use Rattle.writing.proofs.Over.{then}
use Rattle.writing.proofs.lines.put_line.Goals as goal

pub returns : goal.returns
unfolding line
returns c = (
  then _ _ _ _ _ _ _ (then _ _ _ _ _ _ _ c.put_byte-a.ensures c.put_fields.ensures.0) c.put_byte.ensures,
  omega arith,
)
