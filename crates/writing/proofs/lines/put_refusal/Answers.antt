use native.Mathlib.Omega.{arith}
use Rattle.writing.specs.Refusal.{refusal_line}
use Rattle.writing.proofs.lines.put_refusal.Goals as goal

pub returns : goal.returns
unfolding refusal_line
returns c = (c.put_line.ensures.0, omega arith)
