use Rattle.storage.proofs.EdgeStores.{edge_more}
use native.Mathlib.Omega.{arith}
use Rattle.storage.proofs.edges.make_edge.Goals as goal

pub returns : goal.returns
returns c = let both = edge_more c.args.ends.now c.args.edges.now c.args.k c.args.consumer c.args.slot c.args.producer (omega arith) (omega arith) c.size.ensures c.size-2.ensures in record { k_after = both.0; ends_unchanged = both.1 }
