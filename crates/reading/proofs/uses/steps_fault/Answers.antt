use mathlib.Core.List.{[]}
use Rattle.reading.proofs.Names.{steps_counted}
use Rattle.reading.proofs.uses.steps_fault.Goals as goal

pub returns : goal.returns
returns c = steps_counted [] _ 0 _ c.args.steps.held.few c.new-namings.ensures c.count_inputs.ensures c.first_step_fault.ensures
