use Rattle.storage.proofs.LineLaws.{inputs_lent}
use Rattle.storage.proofs.lines.inputs_of.Goals as goal

pub returns : goal.returns
returns c = inputs_lent _ _ _ _ c.step_numbers.ensures.are c.from-n1.ensures
