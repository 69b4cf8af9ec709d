use native.Mathlib.Omega.{arith}
use mathlib.Core.List.{[], ◌∷◌}
use Prim.Native.Nat.{◌+◌, ◌/◌, ◌%◌}
use lib.ListN.{length-append}
use Rattle.plan.specs.Text.{decimal}
use Rattle.writing.proofs.Over.{then, room_rest}
use Rattle.writing.proofs.Digits.{one_digit, more_digits, more_room, some_room}
use Rattle.writing.proofs.fields.+write_number.Goals as goal

pub put_byte-requires : goal.put_byte-requires
put_byte-requires t c = some_room _ _ c.requires

pub returns-then-n-lt10 : goal.returns-then-n-lt10
returns-then-n-lt10 t c = one_digit _ _ _ _ (omega arith) c.put_byte.ensures

pub write_number-k-requires : goal.write_number-k-requires
write_number-k-requires t c =
    (omega arith, omega (arith, more_room c.args.n _ (omega arith) c.requires, length-append (decimal (c.args.n / 10)) ((48 + c.args.n % 10) ∷ [])))

pub put_byte-j-requires : goal.put_byte-j-requires
put_byte-j-requires t c =
    room_rest (decimal (c.args.n / 10)) ((48 + c.args.n % 10) ∷ []) c.args.out.now _ _ (more_room _ _ (omega arith) c.requires) c.write_number-k.ensures

pub returns : goal.returns
returns t c =
    more_digits _ _ _ _ (omega arith) (then _ _ _ _ _ _ _ c.write_number-k.ensures c.put_byte-j.ensures)
