use mathlib.Core.Path.{refl}
use Rattle.formula.proofs.Taking.{held_nothing}
use Rattle.formula.proofs.writer.Writer.new.Goals as goal

pub returns-clause-held : goal.returns-clause-held
returns-clause-held c = λ ws entry. held_nothing entry _ ws refl refl refl refl
