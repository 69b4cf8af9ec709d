use Rattle.std.proofs.Common.{◌≡◌, length}
use Rattle.formula.specs.Items.{notes}
use Rattle.formula.proofs.Deciding.{SoFar}
use Rattle.formula.proofs.decide.decide.Given as goal

abbrev pub invariant-loop-b : goal.invariant-loop-b
invariant-loop-b l = SoFar l.formula l.b-index l.seen (notes l.places l.count) × (length l.places ≡ length l.initial.places)
