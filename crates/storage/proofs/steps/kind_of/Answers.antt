use mathlib.Core.Path.{◌∙◌}
use Rattle.storage.proofs.StepLaws.{stored_kind}
use Rattle.storage.proofs.steps.kind_of.Goals as goal

pub returns : goal.returns
returns c = c.of_number.ensures ∙ stored_kind c.args.steps.now c.args.i
