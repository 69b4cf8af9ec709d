use mathlib.Core.Path.{sym, ◌∙◌}
use borrow.Author.Tests.{le-leb}
use Rattle.std.proofs.Common.{rules}
use Rattle.reading.proofs.TableKinds.{expr_read, expr_unread}
use Rattle.reading.proofs.Rows.{expr_told}
use Rattle.reading.proofs.tables.expr_fits.Goals as goal

pub returns-in_default : goal.returns-in_default
returns-in_default c = (sym (expr_unread _ _ _ _ _ _ (sym c.try_from.ensures ∙ c.in_default.is)), λ h. absurd (cc))

pub returns-then-length_preserving-le1 : goal.returns-then-length_preserving-le1
returns-then-length_preserving-le1 c =
    let h = c.if-length_preserving-le1.true in
    expr_told _ _ _ _ _ _ (rw (expr_read _ _ _ _ _ c.in-Ok.kind (sym c.try_from.ensures ∙ c.in-Ok.is), le-leb _ 1 h.0, le-leb _ 1 h.1) c.expr_kind_fits.ensures)

pub returns-else-length_preserving-le1 : goal.returns-else-length_preserving-le1
returns-else-length_preserving-le1 c = rw (expr_read _ _ _ _ _ c.in-Ok.kind (sym c.try_from.ensures ∙ c.in-Ok.is)) (search rules)
