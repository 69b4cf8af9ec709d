use Rattle.std.proofs.Common.{◌≤◌, length}
use Rattle.guide_cases.proofs.BlocksIterator.next.Given as goal

abbrev pub invariant-loop-line : goal.invariant-loop-line
invariant-loop-line l = length l.self.rest.now ≤ length l.fn.self.rest.now

abbrev pub decreases-loop-line : goal.decreases-loop-line
decreases-loop-line l = length l.self.rest.now
