use Rattle.storage.proofs.ExprLaws.{stored_length_preserving}
use Rattle.storage.proofs.exprs.is_length_preserving.Goals as goal

pub returns : goal.returns
returns c = stored_length_preserving c.args.recs.now c.args.l
