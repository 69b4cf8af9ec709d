use native.Mathlib.Omega.{arith}
use mathlib.Core.Path.{refl}
use Rattle.reading.specs.declared.number.Byte.{Byte}
use Rattle.reading.proofs.Numbers.{past_two, too_long, too_large, three_digits}
use Rattle.reading.proofs.number.read_long.Goals as goal

pub returns-in-End : goal.returns-in-End
returns-in-End c = past_two _ _ _ c.requires Byte.End _ c.in-End.ensures.value refl

pub returns-in-End-Ok : goal.returns-in-End-Ok
returns-in-End-Ok c = three_digits _ _ _ c.requires c.in-Digit.c c.in-Digit.ensures.value c.in-End-Ok.ensures.value _ (omega arith) c.in-End-Ok.value c.in-End-Ok.ensures'.0 c.in-End-Ok.ensures'.1

pub returns-in_default : goal.returns-in_default
returns-in_default c = too_large _ _ _ c.requires c.in-Digit.c c.in-Digit.ensures.value c.in_default.ensures.value _ (omega arith) c.in_default.ensures'

pub returns-in_default-2 : goal.returns-in_default-2
returns-in_default-2 c = too_long _ _ _ c.requires c.in-Digit.c c.in-Digit.ensures.value _ c.digit_at-in-Digit.ensures.value c.in_default.not-End-0

pub returns-in-Other : goal.returns-in-Other
returns-in-Other c = past_two _ _ _ c.requires Byte.Other _ c.in-Other.ensures.value refl
