use mathlib.Core.Path.{sym}
use Rattle.expr.proofs.Bits.{looks_at}
use Rattle.expr.proofs.eos.Eos.looks.Goals as goal

pub returns : goal.returns
returns c = sym (looks_at c.args.self)
