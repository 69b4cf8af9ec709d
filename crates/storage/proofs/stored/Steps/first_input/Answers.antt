use native.Mathlib.Omega.{arith}
use Rattle.storage.proofs.StepLaws.{first_input, its_n1}
use Rattle.storage.proofs.stored.Steps.first_input.Goals as goal

pub returns : goal.returns
returns c =
    let s = c.args.self.now in
    first_input s.bytes s.count c.args.i s.held c.requires.step (omega (arith, its_n1 s.bytes s.count c.args.i s.held c.requires.step, c.requires.some))
