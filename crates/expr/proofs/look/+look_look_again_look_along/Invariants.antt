-- The number of the base record falls to a child, and where a child's record takes the place of its parent's; along the children,
-- those left fall.
use Rattle.std.specs.Prelude.{if◌then◌else◌}
use Rattle.std.proofs.Common.{◌+◌, ◌*◌, get_or}
use Rattle.storage.specs.Held.{SameRecords}
use Rattle.expr.specs.State.{state_in}
use Rattle.expr.specs.Contract.{reach, Reached}
use Rattle.expr.proofs.look.+look_look_again_look_along.Given as goal

abbrev pub decreases-look : goal.decreases-look
decreases-look l = get_or l.arena.now.lines.holds l.p 0 * 2 + 1

abbrev pub decreases-look_again : goal.decreases-look_again
decreases-look_again l = if l.v.again then get_or l.arena.now.lines.holds l.node 0 * 2 + 2 else 0

abbrev pub decreases-look_along : goal.decreases-look_along
decreases-look_along l = reach l.e * 2

abbrev pub invariant-look_along-loop-i : goal.invariant-look_along-loop-i
invariant-look_along-loop-i l =
    SameRecords l.initial.arena.records l.arena.records
    × Reached l.initial.arena.records.bytes l.initial.arena.records.count (state_in l.initial.arena l.initial.cache l.initial.t) l.e l.b (state_in l.arena l.cache l.t) l.seen l.i
