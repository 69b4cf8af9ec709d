use native.Mathlib.Omega.{arith}
use mathlib.Core.Path.{sym, ◌∙◌}
use Rattle.std.proofs.lemmas.List.{take_all}
use Rattle.reading.proofs.Stores.{overwritten}
use Rattle.reading.proofs.lines.store_step.Goals as goal

pub returns : goal.returns
returns c = (overwritten _ _ 32 _ _ _ (omega arith) (c.copy_from_slice.ensures.after ∙ sym (take_all 32 c.args.v (omega arith))), omega arith)
