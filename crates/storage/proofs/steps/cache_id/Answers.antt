use Rattle.storage.proofs.StepLaws.{stored_a}
use Rattle.storage.proofs.steps.cache_id.Goals as goal

pub returns : goal.returns
returns c = stored_a c.args.steps.now c.args.i
