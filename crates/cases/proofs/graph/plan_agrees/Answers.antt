use Rattle.cases.proofs.Accepted.{plan_held}
use Rattle.cases.proofs.graph.plan_agrees.Goals as goal

pub graph_agrees-requires : goal.graph_agrees-requires
graph_agrees-requires c = plan_held c.args.sheet.now c.read_run.new.run c.in-Ok.ensures.read
