use native.Mathlib.Omega.{arith}
use Rattle.storage.proofs.ArenaLaws.{record_copied}
use Rattle.storage.proofs.arena.copy_record.Goals as goal

pub returns : goal.returns
returns c =
    let (own, below, above) = c.copy_within.ensures.by_index in
    record_copied _ _ _ _ c.copy_within.ensures.len (omega (arith, c.requires.few, c.requires.records)) c.requires.lower own below above c.requires.formed
