use native.Mathlib.Omega.{arith}
use Rattle.storage.proofs.ArenaLaws.{own_record, line_on, line_off}
use Rattle.storage.proofs.arena.store_line.Goals as goal
use Rattle.storage.proofs.arena.store_line.Goals.{then-l-p, else-l-p}

-- in both, the record is in its place, whether it was copied or was there
pub returns-then-lines-p : goal.returns-then-lines-p
returns-then-lines-p c =
    elim c.if-l-p.branch [
      | then-l-p w ↦ line_off _ _ _ _ _ (rw (w.recs-is, ← c.from-l.ensures) w.copy_record.ensures) (omega (arith, c.requires.few, c.requires.records)) c.if-lines-p.true
      | else-l-p w ↦ line_off _ _ _ _ _ (rw w.recs-is (own_record _ _ _ (rw c.from-l.ensures at w.if-l-p.false) c.requires.formed)) (omega (arith, c.requires.few, c.requires.records)) c.if-lines-p.true
    ]

pub returns-else-lines-p : goal.returns-else-lines-p
returns-else-lines-p c =
    elim c.if-l-p.branch [
      | then-l-p w ↦ line_on _ _ _ _ _ (rw (w.recs-is, ← c.from-l.ensures) w.copy_record.ensures) c.if-lines-p.false
      | else-l-p w ↦ line_on _ _ _ _ _ (rw w.recs-is (own_record _ _ _ (rw c.from-l.ensures at w.if-l-p.false) c.requires.formed)) c.if-lines-p.false
    ]
