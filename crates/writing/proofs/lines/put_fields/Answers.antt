use native.Mathlib.Omega.{arith}
use Rattle.writing.specs.Wrote.{field}
use Rattle.writing.proofs.Over.{no_turn, turn}
use borrow.Author.Rules.{rules}
use Rattle.writing.proofs.lines.put_fields.Goals as goal

pub loop-n-init : goal.loop-n-init
loop-n-init c = (omega arith, search rules, no_turn field c.args.ns.now _)

pub loop-n-preserved : goal.loop-n-preserved
loop-n-preserved c = (
  omega arith,
  search rules,
  turn field c.args.ns.now c.loop-n.n-index 0 _ _ _ _ _ c.loop-n-test.true c.loop-n.invariant.2 c.put_field-len.ensures.0,
)
