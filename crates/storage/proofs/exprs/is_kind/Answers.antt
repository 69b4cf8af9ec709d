use Rattle.std.proofs.Common.{rules}
use Rattle.storage.proofs.ExprLaws.{stored_kind}
use Rattle.storage.proofs.exprs.is_kind.Goals as goal

pub returns : goal.returns
returns c = rw (stored_kind c.args.recs.now c.args.l, ← c.of_number.ensures) (search rules)
