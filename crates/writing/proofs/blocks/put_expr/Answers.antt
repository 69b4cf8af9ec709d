use borrow.Author.Rules.{rules}
use native.Mathlib.Omega.{arith}
use Rattle.storage.proofs.Laws.{stored_expr_printed}
use Rattle.writing.proofs.blocks.put_expr.Goals as goal

pub returns : goal.returns
returns c =
    (rw (stored_expr_printed c.args.exprs.now c.args.i (search rules) c.requires.expr_formed, ← c.expr_numbers.ensures.are) c.put_line.ensures.0, omega arith)
