use Rattle.storage.proofs.ExprLaws.{stored_scalar}
use Rattle.storage.proofs.exprs.is_scalar.Goals as goal

pub returns : goal.returns
returns c = stored_scalar c.args.recs.now c.args.l
