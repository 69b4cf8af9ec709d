use mathlib.Core.Path.{refl}
use Rattle.storage.proofs.RemovedLaws.{none_marked}
use Rattle.storage.proofs.removed.Removed.new.Goals as goal

pub returns : goal.returns
returns c = record { marks = λ n h. none_marked n; count = refl }
