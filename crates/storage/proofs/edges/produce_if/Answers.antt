use Rattle.storage.proofs.EdgeStores.{produced_there}
use Rattle.storage.specs.Edges.{byte_of}
use lib.ListN.{length-set}
use native.Mathlib.Omega.{arith}
use Rattle.storage.proofs.edges.produce_if.Goals as goal

pub returns : goal.returns
returns c = ((λ ends. produced_there ends _ _ _ (omega arith) (omega arith) c.args.handed_on (byte_of c.args.p) (rw (← c.unwrap_or.ensures) c.pick.ensures)), simp length-set (omega arith))
