use Rattle.storage.proofs.ExprLaws.{is_held}
use Rattle.storage.proofs.exprs.expr_of.Goals as goal

pub returns : goal.returns
returns c = is_held _ _ c.requires.room c.requires.formed _ _ _ _ c.of_number.ensures c.pick-option.ensures c.read.ensures
