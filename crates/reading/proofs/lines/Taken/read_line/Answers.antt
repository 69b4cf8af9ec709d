use native.Mathlib.Omega.{arith}
use mathlib.Core.Path.{refl}
use Rattle.reading.proofs.Whole.{lettered_read, no_bytes, unlettered}
use Rattle.reading.proofs.lines.Taken.read_line.Goals as goal

pub returns-in-69-clause-line : goal.returns-in-69-clause-line
returns-in-69-clause-line c = lettered_read c.args.s.now c.args.self.now c.read_expr.new.self c.read_expr.result (omega arith) 69 refl refl (omega arith) c.read_expr.ensures.line

pub returns-in-80-clause-line : goal.returns-in-80-clause-line
returns-in-80-clause-line c = lettered_read c.args.s.now c.args.self.now c.read_step.new.self c.read_step.result (omega arith) 80 refl refl (omega arith) c.read_step.ensures.line

pub returns-in_default-clause-line : goal.returns-in_default-clause-line
returns-in_default-clause-line c = no_bytes _ _ c.in_default.len_below

pub returns-in_default-2-clause-line : goal.returns-in_default-2-clause-line
returns-in_default-2-clause-line c = unlettered _ _ c.in_default.len_at_least (λ e. omega arith) (λ e. omega arith)
