use native.Mathlib.Omega.{arith}
use Rattle.reading.proofs.Marking.{no_marks, more_marks}
use Rattle.reading.proofs.fields.mark_lines.Goals as goal

pub loop-i-init : goal.loop-i-init
loop-i-init c = no_marks _ _ _ _ (omega arith)

pub loop-i-preserved : goal.loop-i-preserved
loop-i-preserved c = more_marks _ _ _ _ _ _ c.loop-i.i (omega arith) (omega arith) c.loop-i.invariant c.mark_line.ensures
