use mathlib.Core.Path.{sym, ◌∙◌}
use Rattle.formula.proofs.Verdicts.{open_left, unfinished, too_many, few_enough}
use Rattle.formula.proofs.seen.Seen.end.Goals.{then-self-gt0-via-then-self-gt0, then-self-gt0-via-else-self-gt0+then-not-may_end}
use Rattle.formula.proofs.seen.Seen.end.Goals as goal

pub returns-then-self-gt0-clause-number : goal.returns-then-self-gt0-clause-number
returns-then-self-gt0-clause-number c =
    λ w ps l m e. elim c.then-self-gt0.branch [
      | then-self-gt0-via-then-self-gt0 p ↦ open_left w _ e p.if-self-gt0.true
      | then-self-gt0-via-else-self-gt0+then-not-may_end p ↦ unfinished w _ e (sym p.may_end.ensures ∙ p.if-not-may_end.true)
    ]

pub returns-then-count-gt128-clause-number : goal.returns-then-count-gt128-clause-number
returns-then-count-gt128-clause-number c =
    λ w ps l m e. too_many w _ e ps _ l m (sym c.may_end.ensures ∙ c.if-not-may_end.false) c.if-self-gt0.false c.if-count-gt128.true

pub returns-clause-number : goal.returns-clause-number
returns-clause-number c =
    λ w ps l m e. few_enough w _ e ps _ l m (sym c.may_end.ensures ∙ c.if-not-may_end.false) c.if-self-gt0.false c.if-count-gt128.false
