use borrow.Author.Rules.{rules}
use native.Mathlib.Omega.{arith}
use Rattle.storage.proofs.Laws.{stored_step_printed}
use Rattle.writing.proofs.blocks.put_step.Goals as goal

pub returns : goal.returns
returns c =
    (rw (stored_step_printed c.args.steps.now c.args.i (search rules) c.requires.step_formed, ← c.step_numbers.ensures.are) c.put_line.ensures.0, omega arith)
