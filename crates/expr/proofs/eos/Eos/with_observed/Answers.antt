use Rattle.expr.proofs.Bits.{holds_observed}
use Rattle.expr.proofs.eos.Eos.with_observed.Goals as goal

pub returns : goal.returns
returns c = holds_observed c.args.self c.args.o _ c.code.ensures.0 c.code.ensures.1
