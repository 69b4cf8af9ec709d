use native.Mathlib.Omega.{arith}
use Rattle.storage.proofs.StepLaws.{its_aggs, list_read}
use Rattle.storage.proofs.stored.Steps.aggs.Goals as goal

pub returns : goal.returns
returns c =
    let s = c.args.self.now in
    let f = s.held.formed c.args.i c.requires in
    rw (its_aggs s.bytes s.count c.args.i s.held c.requires, c.read.ensures, c.from-n1.ensures, c.from-n2.ensures)
    (list_read s.bytes _ _ (omega (arith, s.held.few, s.held.size, c.requires, f.n1, f.n2)) f.n3)
