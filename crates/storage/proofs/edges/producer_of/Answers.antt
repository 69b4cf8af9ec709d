use borrow.Author.Tests.{eq-eqb, ne_eqb}
use Rattle.std.specs.Prelude.{get_or}
use Rattle.storage.specs.Edges.{stored_edge}
use Rattle.storage.proofs.edges.producer_of.Goals as goal

pub returns-then-p : goal.returns-then-p
unfolding stored_edge
returns-then-p c = λ ends. rw (eq-eqb (get_or c.args.edges.now c.args.k 0) 255 c.if-p.true)

pub returns-else-p : goal.returns-else-p
unfolding stored_edge
returns-else-p c = λ ends. rw (ne_eqb (get_or c.args.edges.now c.args.k 0) 255 c.if-p.false)
