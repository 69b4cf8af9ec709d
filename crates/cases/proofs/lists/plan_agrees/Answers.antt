use Rattle.cases.proofs.Accepted.{read_exprs}
use Rattle.cases.proofs.lists.plan_agrees.Goals as goal

pub list_agrees-requires-clause-read : goal.list_agrees-requires-clause-read
list_agrees-requires-clause-read c =
    read_exprs c.args.sheet.now c.read_run.new.run c.in-Ok.ensures.read c.in-Ok.ensures.lines
