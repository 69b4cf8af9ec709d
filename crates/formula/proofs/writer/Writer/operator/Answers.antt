use mathlib.Core.Path.{refl}
use native.Mathlib.Omega.{arith}
use Rattle.formula.proofs.Taking.{operator_waits}
use Rattle.formula.proofs.writer.Writer.operator.Goals as goal

pub returns : goal.returns
returns c =
    operator_waits _ _ _ _ _ _ _ c.settle.ensures (record { last = refl; count = refl; lines = refl; written = refl })
    (omega (arith, c.settle.ensures.fewer, c.requires.few))
