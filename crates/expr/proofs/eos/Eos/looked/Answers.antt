use borrow.Author.Rules.{rules}
use Rattle.expr.proofs.Bits.{count_fits, holds_looked}
use Rattle.expr.proofs.eos.Eos.looked.Goals as goal

pub overflow_add-result : goal.overflow_add-result
overflow_add-result c = search (rules, count_fits c.args.self c.requires)

pub returns : goal.returns
returns c = holds_looked c.args.self
