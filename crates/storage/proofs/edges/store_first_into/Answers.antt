use Rattle.storage.proofs.EdgeStores.{first_set}
use lib.Seq.{drop-set-add}
use Rattle.storage.proofs.edges.store_first_into.Goals as goal

pub returns : goal.returns
returns c = record { by_index = (λ edges n h. first_set c.args.ends.now edges c.args.m c.args.k n h); ends_after = drop-set-add 512 c.args.ends.now c.args.m c.args.k }
