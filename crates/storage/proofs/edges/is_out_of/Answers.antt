use Rattle.storage.proofs.EdgeStores.{out_of_stored}
use Rattle.storage.proofs.edges.is_out_of.Goals as goal

pub returns : goal.returns
returns c = λ ends. out_of_stored ends _ _ _ c.requires.1
