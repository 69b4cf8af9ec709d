use lib.ListN.{length}
use Rattle.reading.specs.Lines.{sheet_of}
use Rattle.reading.specs.Taken.{SameBuffers}
use Rattle.reading.proofs.Whole.{Along}
use Rattle.reading.proofs.lines.Taken.read_lines.Given as goal

abbrev pub invariant-loop-rest : goal.invariant-loop-rest
invariant-loop-rest l =
    let a = l.initial.self in
    SameBuffers a l.self × Along l.sheet l.rest (sheet_of a.exprs.now a.steps.now a.counts) l.self.exprs.now l.self.steps.now l.self.counts

abbrev pub decreases-loop-rest : goal.decreases-loop-rest
decreases-loop-rest l = length l.rest
