use native.Mathlib.Omega.{arith}
use Rattle.storage.proofs.ArenaLaws.{no_lines, line_held, line_more, all_lines}
use Rattle.storage.proofs.arena.store_lines.Goals as goal

pub loop-p-init : goal.loop-p-init
loop-p-init c = no_lines _ _ c.args.lines.now.off _ c.requires

pub store_line-requires : goal.store_line-requires
store_line-requires c = line_held _ _ _ _ c.requires c.loop-p.p _ (omega arith) c.loop-p.recs c.loop-p.invariant

pub loop-p-preserved : goal.loop-p-preserved
loop-p-preserved c = line_more _ _ _ _ c.requires c.loop-p.p _ (omega arith) c.loop-p.recs c.loop-p.invariant _ c.store_line.ensures

pub returns : goal.returns
returns c =
    let both = all_lines _ _ _ _ c.requires c.loop-p.p (omega arith) c.loop-p.recs c.loop-p.invariant in
    record { stored = both.0; still_formed = both.1; sized = c.loop-p.invariant.size }
