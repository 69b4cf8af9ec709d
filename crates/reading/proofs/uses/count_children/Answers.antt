use mathlib.Core.Path.{ap}
use native.Mathlib.Omega.{arith}
use Rattle.storage.specs.Stored.{stored_exprs}
use Rattle.reading.specs.Uses.{all_children}
use Rattle.reading.proofs.Names.{start, no_children, and_more, more_children, no_more}
use Rattle.reading.proofs.uses.count_children.Goals as goal

pub loop-i-init : goal.loop-i-init
loop-i-init c = start _ _ (no_children _)

pub loop-i-preserved : goal.loop-i-preserved
loop-i-preserved c = and_more _ _ _ _ _ _ c.loop-i.invariant c.count_all.ensures (more_children _ _ _ c.children_of.ensures)

pub returns : goal.returns
returns c = no_more _ _ _ _ c.loop-i.invariant (ap (λ k. all_children (stored_exprs c.args.exprs.bytes.now k)) (omega arith))
