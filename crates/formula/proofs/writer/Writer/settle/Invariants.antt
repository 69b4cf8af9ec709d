use Rattle.formula.proofs.Going.{Going}
use Rattle.formula.proofs.writer.Writer.settle.Given as goal

abbrev pub invariant-loop-self : goal.invariant-loop-self
invariant-loop-self l = Going l.weight l.waiting l.initial.self l.self l.initial.out l.out

abbrev pub decreases-loop-self : goal.decreases-loop-self
decreases-loop-self l = l.self.count
