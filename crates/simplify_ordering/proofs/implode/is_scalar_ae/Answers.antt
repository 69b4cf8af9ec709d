use mathlib.Core.Path.{◌∙◌}
use Rattle.simplify_ordering.proofs.ImplodeLaws.{scalar_law}
use Rattle.simplify_ordering.proofs.implode.is_scalar_ae.Goals as goal

pub returns : goal.returns
returns c = (rw c.from.ensures at c.is_scalar.ensures) ∙ scalar_law c.args.arena.now.records.bytes c.args.arena.now.lines.holds c.args.arena.now.lines.off c.args.arena.now.records.count c.args.q c.requires
