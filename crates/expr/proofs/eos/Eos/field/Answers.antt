use mathlib.Core.Path.{sym, ◌∙◌}
use Rattle.expr.proofs.Bits.{field_at}
use Rattle.expr.proofs.eos.Eos.field.Goals as goal

pub returns : goal.returns
returns c = c.from.ensures ∙ sym (field_at c.args.self)
