use Rattle.storage.specs.Held.{SameRecords}
use Rattle.expr.specs.State.{state_in}
use Rattle.expr.specs.Projected.{ListReached}
use Rattle.expr.proofs.projected.simplify_projected_exprs.Given as goal

abbrev pub invariant-loop-i : goal.invariant-loop-i
invariant-loop-i l =
    SameRecords l.initial.arena.records l.arena.records
    × ListReached l.initial.arena.records.bytes l.initial.arena.records.count (state_in l.initial.arena l.initial.cache l.initial.t) l.fn.exprs (state_in l.arena l.cache l.t) l.seen l.i
