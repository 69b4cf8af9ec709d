use mathlib.Core.Path.{sym, ◌∙◌}
use Rattle.expr.proofs.Bits.{answer_at}
use Rattle.expr.proofs.eos.Eos.answer.Goals as goal

pub returns : goal.returns
returns c = c.from.ensures ∙ sym (answer_at c.args.self)
