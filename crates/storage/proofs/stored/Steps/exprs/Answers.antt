use native.Mathlib.Omega.{arith}
use Rattle.storage.proofs.StepLaws.{its_exprs, list_read}
use Rattle.storage.proofs.stored.Steps.exprs.Goals as goal

pub returns : goal.returns
returns c =
    let s = c.args.self.now in
    let f = s.held.formed c.args.i c.requires in
    rw (its_exprs s.bytes s.count c.args.i s.held c.requires, c.read.ensures, c.from-n1.ensures)
    (list_read s.bytes _ _ (omega (arith, s.held.few, s.held.size, c.requires, f.n1)) f.n2)
