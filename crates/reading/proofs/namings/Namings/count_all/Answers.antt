use mathlib.Core.Path.{refl}
use Rattle.std.proofs.lemmas.List.{take_all}
use native.Mathlib.Omega.{arith}
use Rattle.reading.proofs.Names.{start, one_more, no_more, next_taken}
use Rattle.reading.proofs.namings.Namings.count_all.Goals as goal

pub loop-q-init : goal.loop-q-init
loop-q-init c = start _ _ refl

pub loop-q-preserved : goal.loop-q-preserved
loop-q-preserved c = one_more _ _ _ _ _ _ c.loop-q.invariant c.count.ensures (next_taken c.args.numbers.now c.loop-q.q-index (omega arith))

pub returns : goal.returns
returns c = no_more _ _ _ _ c.loop-q.invariant (take_all c.loop-q.q-index c.args.numbers.now (omega arith))
