use mathlib.Core.Path.{refl}
use native.Mathlib.Omega.{arith}
use Rattle.formula.proofs.Stands.{line_more}
use Rattle.formula.proofs.writer.Writer.operand.Goals as goal

pub returns-clause-line : goal.returns-clause-line
returns-clause-line c =
    line_more _ _ _ _ _ c.put_operand.ensures.0 _ _ _ refl refl refl refl
    (omega (arith, c.put_operand.ensures.1, c.args.self.now.short, c.requires.room, c.requires.in_bounds))
