use Rattle.expr.proofs.after.After.filter.Goals as goal

pub returns : goal.returns
returns c = rw (c.twice.ensures, c.is_empty-2.ensures, c.is_empty.ensures)
