use mathlib.Core.Path.{sym, ◌∙◌}
use Rattle.formula.proofs.Seeing.{opens_wanted, opens_had}
use Rattle.formula.proofs.seen.Seen.opens.Goals as goal

pub returns-then-not-wants : goal.returns-then-not-wants
returns-then-not-wants c = λ b. opens_had b _ (sym c.wants.ensures ∙ c.if-not-wants.true)

pub returns : goal.returns
returns c = λ b. opens_wanted b _ (sym c.wants.ensures ∙ c.if-not-wants.false)
