use borrow.Author.Rules.{rules}
use Rattle.plan.specs.Text.{edge_line}
use Rattle.storage.specs.Edges.{stored_edge, stored_edges}
use Rattle.writing.proofs.Texts.{as_texts}
use Rattle.writing.proofs.blocks.put_edges.Goals as goal

pub returns : goal.returns
unfolding stored_edges
returns c = (
  as_texts edge_line (stored_edge c.args.ends.now c.args.edges.now.bytes) c.args.edges.now.count _ _ _ (c.put_each.ensures.all_written (λ i. edge_line (stored_edge c.args.ends.now c.args.edges.now.bytes i)) (λ i o p r h e. search rules)),
  search rules,
)
