use Rattle.storage.proofs.StepLaws.{its_kind, its_a, its_b, its_c, its_n2}
use Rattle.storage.proofs.stored.Steps.options.Goals as goal

pub returns : goal.returns
returns c =
    let s = c.args.self.now in
    rw (c.of_number.ensures, its_kind s.bytes s.count c.args.i s.held c.requires, its_a s.bytes s.count c.args.i s.held c.requires, its_b s.bytes s.count c.args.i s.held c.requires, its_c s.bytes s.count c.args.i s.held c.requires, its_n2 s.bytes s.count c.args.i s.held c.requires)
