use Rattle.storage.proofs.EdgeStores.{loosened_there}
use lib.ListN.{length-set}
use native.Mathlib.Omega.{arith}
use Rattle.storage.proofs.edges.loosen_if.Goals as goal

pub returns : goal.returns
returns c = ((λ ends. loosened_there ends _ _ _ (omega arith) (omega arith) _ c.pick.ensures), simp length-set (omega arith))
