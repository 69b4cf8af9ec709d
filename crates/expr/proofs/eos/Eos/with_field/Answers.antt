use Rattle.expr.proofs.Bits.{holds_field}
use Rattle.expr.proofs.eos.Eos.with_field.Goals as goal

pub returns : goal.returns
returns c = holds_field c.args.self c.args.o _ c.code.ensures.0 c.code.ensures.1
