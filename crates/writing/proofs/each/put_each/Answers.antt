use Rattle.std.proofs.Common.{rules, arith, ◌+◌, ◌≤◌, length}
use Rattle.writing.proofs.Texts.{room_left, one_longer, no_text, next_text}
use Rattle.writing.proofs.each.put_each.Goals as goal

pub loop-i-init : goal.loop-i-init
loop-i-init g c = (omega arith, search rules, λ text w. no_text text _)

pub put-len-requires : goal.put-len-requires
put-len-requires g c =
    let room : c.loop-i.len + g.row.MOST ≤ length c.args.out.now =
    room_left g.row.MOST c.args.n c.loop-i.i _ _ (omega arith) c.loop-i.invariant.0 c.requires.in_bounds in
    search rules

pub loop-i-preserved : goal.loop-i-preserved
loop-i-preserved g c = (
  one_longer _ _ _ _ c.loop-i.invariant.0 (c.requires.short c.loop-i.i _ _ _ (omega arith) c.put-len.ensures),
  search rules,
  λ text w. next_text text c.loop-i.i _ _ _ _ _ (c.loop-i.invariant.2 text w) (w c.loop-i.i _ _ _ (omega arith) c.put-len.ensures),
)
