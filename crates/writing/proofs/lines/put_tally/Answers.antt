use native.Mathlib.Omega.{arith}
use Rattle.plan.specs.Lists.{concat_map}
use Rattle.plan.specs.Text.{line}
use Rattle.writing.proofs.Over.{then}
use Rattle.writing.proofs.Tally.{tally_line}
use Rattle.writing.proofs.lines.put_tally.Goals as goal

pub returns : goal.returns
unfolding line concat_map
returns c = (
  tally_line _ _ _ _ _ _ (then _ _ _ _ _ _ _ (then _ _ _ _ _ _ _ (then _ _ _ _ _ _ _ (then _ _ _ _ _ _ _ c.put_byte-a.ensures c.put_wide_field.ensures.0) c.put_wide_field-2.ensures.0) c.put_wide_field-3.ensures.0) c.put_byte.ensures),
  omega arith,
)
