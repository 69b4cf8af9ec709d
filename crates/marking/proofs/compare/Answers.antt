use mathlib.Core.Path.{sym, ap, ◌∙◌}
use Rattle.marking.proofs.Comparison.{too_short, both_decide}
use Rattle.marking.specs.Marking.{verdict}
use Rattle.marking.proofs.compare.Goals as goal

pub returns-in_default : goal.returns-in_default
unfolding verdict
returns-in_default c = λ ds l. ap verdict (sym (too_short _ _ c.in_default.ensures.cases _))

pub returns-then-steps_right-edges_right : goal.returns-then-steps_right-edges_right
unfolding verdict
returns-then-steps_right-edges_right c =
    let s = c.in-Some.ensures.cases in
    λ ds l. ap verdict (sym c.if-steps_right-edges_right.true ∙ both_decide _ _ _ _ s.1 c.eq-steps_right.ensures s.2 _ (c.equals_examined-edges_right.ensures ds l))

pub returns : goal.returns
unfolding verdict
returns c =
    let s = c.in-Some.ensures.cases in
    λ ds l. ap verdict (sym c.if-steps_right-edges_right.false ∙ both_decide _ _ _ _ s.1 c.eq-steps_right.ensures s.2 _ (c.equals_examined-edges_right.ensures ds l))
