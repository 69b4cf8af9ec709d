use Rattle.expr.proofs.after.After.ternary.Goals as goal

pub returns : goal.returns
returns c = rw (c.twice.ensures, c.pick-observes.ensures, c.ternary_output-output.ensures c.args.branches)
