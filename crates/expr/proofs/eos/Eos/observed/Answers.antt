use mathlib.Core.Path.{sym, ◌∙◌}
use Rattle.expr.proofs.Bits.{observed_at}
use Rattle.expr.proofs.eos.Eos.observed.Goals as goal

pub returns : goal.returns
returns c = c.from.ensures ∙ sym (observed_at c.args.self)
