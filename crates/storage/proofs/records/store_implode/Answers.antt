use native.Mathlib.Omega.{arith}
use Rattle.storage.proofs.Append.{implode_stored}
use Rattle.storage.proofs.records.store_implode.Goals as goal

pub returns : goal.returns
returns c = rw c.from.ensures (implode_stored c.args.recs.now c.args.n c.args.q (omega (arith, c.requires.0, c.requires.1)))
