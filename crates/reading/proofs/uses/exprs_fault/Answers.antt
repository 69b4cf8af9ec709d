use Rattle.reading.proofs.Names.{exprs_counted}
use Rattle.reading.proofs.uses.exprs_fault.Goals as goal

pub returns : goal.returns
returns c = exprs_counted _ _ _ _ c.args.exprs.held.few c.new-namings.ensures c.count_children.ensures c.count_expressions.ensures (c.first_expr_fault.ensures c.args.exprs.bytes.now)
