use Rattle.expr.proofs.after.After.projected.Goals as goal

pub returns : goal.returns
returns c = rw (c.twice.ensures, c.pick-observes.ensures)
