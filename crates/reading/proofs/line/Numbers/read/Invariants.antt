use lib.ListN.{length}
use Rattle.reading.proofs.LineFields.{Sofar}
use Rattle.reading.proofs.line.Numbers.read.Given as goal

abbrev pub invariant-loop-number : goal.invariant-loop-number
invariant-loop-number l = Sofar l.s l.len l.self.count l.self.kept l.rest

abbrev pub decreases-loop-number : goal.decreases-loop-number
decreases-loop-number l = length l.rest
