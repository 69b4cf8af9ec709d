use native.Mathlib.Omega.{arith}
use Rattle.reading.proofs.Stores.{overwritten}
use Rattle.reading.proofs.lines.store_expr.Goals as goal

pub returns : goal.returns
returns c = (overwritten _ _ 16 _ _ _ (omega arith) c.copy_from_slice.ensures.after, omega arith)
