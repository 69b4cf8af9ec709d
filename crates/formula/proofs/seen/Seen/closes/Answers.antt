use mathlib.Core.Logic.{inl, inr}
use mathlib.Core.Path.{sym, ◌∙◌}
use Rattle.formula.proofs.Seeing.{closes_wanted, closes_none, closes_had}
use Rattle.formula.proofs.seen.Seen.closes.Goals.{then-wants-via-then-wants, then-wants-via-else-wants+then-self-eq0}
use Rattle.formula.proofs.seen.Seen.closes.Goals as goal

pub returns-then-wants : goal.returns-then-wants
returns-then-wants c =
    λ b. elim c.then-wants.either [
      | inl e ↦ closes_wanted b _ (sym c.wants.ensures ∙ e)
      | inr e ↦ closes_none b _ (sym c.wants.ensures ∙ e.0) e.1
    ]

pub returns : goal.returns
returns c = λ b. closes_had b _ (sym c.wants.ensures ∙ c.if-wants.false) c.if-self-eq0.false
