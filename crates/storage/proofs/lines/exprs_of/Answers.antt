use Rattle.storage.proofs.LineLaws.{exprs_lent}
use Rattle.storage.proofs.lines.exprs_of.Goals as goal

pub returns : goal.returns
returns c = exprs_lent _ _ _ _ c.step_numbers.ensures.are c.from-n1.ensures
