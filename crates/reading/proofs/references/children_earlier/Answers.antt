use mathlib.Core.Path.{ap, ◌∙◌}
use lib.Dec.{ltb}
use Rattle.plan.specs.Lists.{all?}
use Rattle.plan.specs.Faults.{children_earlier}
use Rattle.reading.proofs.references.children_earlier.Goals as goal

pub returns : goal.returns
unfolding children_earlier
returns c = c.all_below.ensures ∙ ap (all? (λ q. ltb q c.args.i)) c.children_of.ensures
