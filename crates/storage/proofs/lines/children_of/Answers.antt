use Rattle.storage.proofs.LineLaws.{children_lent}
use Rattle.storage.proofs.lines.children_of.Goals as goal

pub returns : goal.returns
returns c = children_lent _ _ _ c.expr_numbers.ensures.are
