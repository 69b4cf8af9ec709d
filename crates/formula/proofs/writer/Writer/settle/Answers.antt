use native.Mathlib.Omega.{arith}
use Rattle.formula.proofs.Going.{going, going_on, going_light, going_empty}
use Rattle.formula.proofs.writer.Writer.settle.Goals as goal

pub loop-self-init : goal.loop-self-init
loop-self-init c = going _ _ _ _

pub loop-self-preserved : goal.loop-self-preserved
loop-self-preserved c =
    going_on _ _ _ _ _ _ _ _ c.loop-self.invariant (omega (arith, c.loop-self-test.true)) c.if-waiting-self.true c.join.ensures.line c.join.ensures.count

pub returns-else-waiting-self : goal.returns-else-waiting-self
returns-else-waiting-self c = going_light _ _ _ _ _ _ c.loop-self.invariant (omega (arith, c.loop-self-test.true)) c.if-waiting-self.false

pub returns-after-loop-self : goal.returns-after-loop-self
returns-after-loop-self c = going_empty _ _ _ _ _ _ c.loop-self.invariant (omega (arith, c.loop-self-test.false))
