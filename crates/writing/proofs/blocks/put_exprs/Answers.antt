use borrow.Author.Rules.{rules}
use Rattle.plan.specs.Text.{expr_line}
use Rattle.storage.specs.Stored.{stored_expr, stored_exprs}
use Rattle.writing.proofs.Texts.{as_texts}
use Rattle.writing.proofs.blocks.put_exprs.Goals as goal

pub returns : goal.returns
unfolding stored_exprs
returns c = (
  as_texts expr_line (stored_expr c.args.exprs.now) c.args.n _ _ _ (c.put_each.ensures.all_written (λ i. expr_line (stored_expr c.args.exprs.now i)) (λ i o p r h e. search rules)),
  search rules,
)
