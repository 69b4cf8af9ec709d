use Rattle.plan.proofs.KindNumbers.{ir_small}
use Rattle.storage.proofs.StoreLaws.{options_law}
use Rattle.storage.proofs.stored.Steps.store_options.Goals as goal

pub returns-clause-stored : goal.returns-clause-stored
returns-clause-stored c =
    let s = c.args.self.now in
    options_law s.bytes s.count c.args.i s.held c.requires c.args.o c.from.result c.from.ensures (rw c.from.ensures (ir_small c.args.o.kind))
