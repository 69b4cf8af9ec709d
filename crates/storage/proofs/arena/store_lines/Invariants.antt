use Rattle.storage.proofs.ArenaLaws.{StoredFrom}
use Rattle.storage.proofs.arena.store_lines.Given as goal

abbrev pub invariant-loop-p : goal.invariant-loop-p
invariant-loop-p l = StoredFrom l.initial.recs l.lines.holds l.lines.off l.n l.p l.recs
