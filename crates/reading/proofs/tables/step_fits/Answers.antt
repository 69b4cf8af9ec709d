use mathlib.Core.Path.{sym, ◌∙◌}
use Rattle.std.proofs.Common.{rules}
use Rattle.reading.proofs.TableKinds.{step_read, step_unread}
use Rattle.reading.proofs.Rows.{step_told}
use Rattle.reading.proofs.tables.step_fits.Goals as goal

pub returns-in_default : goal.returns-in_default
returns-in_default c = (sym (step_unread _ _ _ _ _ _ _ _ _ (sym c.try_from.ensures ∙ c.in_default.is)), λ h. absurd (cc))

pub returns-then-count-from : goal.returns-then-count-from
returns-then-count-from c = step_told _ _ _ _ _ _ _ _ _ (rw (step_read _ _ _ _ _ _ _ _ c.in-Ok.kind (sym c.try_from.ensures ∙ c.in-Ok.is)) (search rules))

pub returns-else-count-from : goal.returns-else-count-from
returns-else-count-from c = rw (step_read _ _ _ _ _ _ _ _ c.in-Ok.kind (sym c.try_from.ensures ∙ c.in-Ok.is)) (search rules)
