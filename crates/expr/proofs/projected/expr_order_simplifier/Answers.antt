use Rattle.expr.proofs.Projections.{started}
use Rattle.expr.proofs.projected.expr_order_simplifier.Goals as goal

pub returns : goal.returns
returns c = started c.new.result c.new.ensures
