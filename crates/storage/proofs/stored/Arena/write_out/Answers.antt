use Rattle.storage.proofs.Written.{written_based}
use Rattle.storage.proofs.stored.Arena.write_out.Goals as goal

pub store_lines-requires : goal.store_lines-requires
store_lines-requires c =
    let a = c.args.self.now in
    record {
      few = a.records.based.few;
      records = a.records.sized;
      formed = a.records.based.formed;
      below = a.below;
    }

pub invariant_of-records : goal.invariant_of-records
invariant_of-records c =
    let e = c.store_lines.ensures in
    record { based = written_based c.args.self.now _ e.sized e.stored e.still_formed; sized = e.sized }
