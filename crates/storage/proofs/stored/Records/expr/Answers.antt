use native.Mathlib.Omega.{arith}
use Rattle.storage.proofs.stored.Records.expr.Goals as goal

pub expr_of-requires : goal.expr_of-requires
expr_of-requires c =
    let r = c.args.self.now in
    record {
      few = omega (arith, r.based.few, c.requires);
      room = omega (arith, r.based.few, r.sized, c.requires);
      formed = r.based.formed c.args.l c.requires;
    }
