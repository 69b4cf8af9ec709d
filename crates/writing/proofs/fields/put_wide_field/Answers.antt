use mathlib.Core.List.{[], ◌∷◌}
use native.Mathlib.Omega.{arith}
use Rattle.plan.specs.Text.{decimal}
use Rattle.writing.proofs.Digits.{wide_short}
use Rattle.writing.proofs.Over.{room_rest, then}
use Rattle.writing.proofs.fields.put_wide_field.Goals as goal

pub write_number-j-requires : goal.write_number-j-requires
write_number-j-requires c =
    room_rest (44 ∷ []) (decimal c.args.n) c.args.out.now _ _
    (omega (arith, wide_short c.args.n (omega arith))) c.put_byte-k.ensures

pub returns : goal.returns
returns c = (
  then _ _ _ _ _ _ _ c.put_byte-k.ensures c.write_number-j.ensures,
  omega (arith, wide_short c.args.n (omega arith), c.put_byte-k.ensures.len, c.write_number-j.ensures.len),
)
