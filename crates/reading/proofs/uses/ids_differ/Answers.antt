use mathlib.Core.List.{[]}
use Rattle.reading.proofs.Names.{ids_counted}
use Rattle.reading.proofs.uses.ids_differ.Goals as goal

pub returns : goal.returns
returns c = ids_counted [] c.args.steps.now 0 c.args.n c.fits-steps c.new-namings.ensures c.count_ids.ensures c.all_ids_once.ensures
