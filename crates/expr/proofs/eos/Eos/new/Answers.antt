use Rattle.expr.proofs.Bits.{holds_none}
use Rattle.expr.proofs.eos.Eos.new.Goals as goal

pub returns : goal.returns
returns c = holds_none
