use Rattle.std.proofs.Common.{rules}
use Rattle.ir_graph.proofs.FirstMet.{by_kinds}
use Rattle.ir_graph.proofs.first_met.one_id.Goals as goal

pub returns-then-is_kind-2 : goal.returns-then-is_kind-2
returns-then-is_kind-2 c =
    rw (by_kinds c.args.steps.now.bytes c.args.steps.now.count c.args.k c.args.m c.requires.one c.requires.other) (search rules)

pub returns-else-is_kind-2 : goal.returns-else-is_kind-2
returns-else-is_kind-2 c =
    rw (by_kinds c.args.steps.now.bytes c.args.steps.now.count c.args.k c.args.m c.requires.one c.requires.other) (search rules)
