use mathlib.Core.Path.{◌∙◌}
use Rattle.node_rules.proofs.InEdges.{first_in, no_first_in}
use Rattle.node_rules.proofs.in_edges.InEdges.producer.Goals as goal

pub returns-then-self : goal.returns-then-self
returns-then-self c =
    λ ends run. c.producer_of.ensures ends ∙ first_in ends c.args.edges.now.bytes c.args.edges.now.count c.args.self run c.if-self.true

pub returns-else-self : goal.returns-else-self
returns-else-self c =
    λ ends run. no_first_in ends c.args.edges.now.bytes c.args.edges.now.count c.args.self run c.if-self.false
