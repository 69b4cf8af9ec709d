use mathlib.Core.Path.{refl}
use Rattle.formula.specs.Parse.{run}
use Rattle.formula.specs.Items.{depth}
use Rattle.formula.specs.Seen.{seen_of, next_wanted}
use Rattle.formula.proofs.seen.Seen.new.Goals as goal

pub returns : goal.returns
unfolding run seen_of depth next_wanted
returns c = refl
