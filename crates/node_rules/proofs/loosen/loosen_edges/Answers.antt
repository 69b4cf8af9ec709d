use mathlib.Core.Path.{ap, ◌∙◌}
use mathlib.Core.List.{map}
use Rattle.plan.specs.Visit.{loosened}
use Rattle.storage.specs.Held.{edges_in}
use Rattle.node_rules.specs.Held.{outs_of}
use Rattle.node_rules.proofs.EdgeChanges.{both_loosened}
use Rattle.node_rules.proofs.loosen.loosen_edges.Goals as goal

pub returns-clause-edges_after : goal.returns-clause-edges_after
returns-clause-edges_after c =
    c.loosen_out.ensures.edges_after c.args.ends.now
    ∙ ap (map (loosened c.args.d.of (outs_of c.args.l.out))) (c.loosen.ensures.edges_after c.requires.in_run)
    ∙ both_loosened c.args.d.of c.args.l (edges_in c.args.ends.now c.args.edges.now)
