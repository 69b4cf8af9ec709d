use Rattle.expr.proofs.Bits.{holds_answer}
use Rattle.expr.proofs.eos.Eos.with_answer.Goals as goal

pub returns : goal.returns
returns c = holds_answer c.args.self c.args.o _ c.code.ensures.0 c.code.ensures.1
