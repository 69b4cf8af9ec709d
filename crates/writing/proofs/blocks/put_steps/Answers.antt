use borrow.Author.Rules.{rules}
use Rattle.plan.specs.Text.{step_line}
use Rattle.storage.specs.Stored.{stored_step, stored_steps}
use Rattle.writing.proofs.Texts.{as_texts}
use Rattle.writing.proofs.blocks.put_steps.Goals as goal

pub returns : goal.returns
unfolding stored_steps
returns c = (
  as_texts step_line (stored_step c.args.steps.now.bytes) c.args.steps.now.count _ _ _ (c.put_each.ensures.all_written (λ i. step_line (stored_step c.args.steps.now.bytes i)) (λ i o p r h e. search rules)),
  search rules,
)
