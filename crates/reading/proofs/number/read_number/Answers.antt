use native.Mathlib.Omega.{arith}
use mathlib.Core.Path.{refl}
use Rattle.reading.specs.declared.number.Byte.{Byte}
use Rattle.reading.proofs.Numbers.{no_digit, told_by, leading_zero, digit_small}
use Rattle.reading.proofs.number.read_number.Goals as goal

pub returns-in_default : goal.returns-in_default
returns-in_default c = no_digit _ _ c.digit_at.ensures.value c.in_default.not-Digit

pub read_long-requires : goal.read_long-requires
read_long-requires c =
    record {
      first = c.in-Digit.ensures.value;
      second = c.in-Digit-digit_at.ensures.value;
      not_zero = omega arith;
      first_digit = digit_small _ _ _ c.in-Digit.ensures.value;
      second_digit = digit_small _ _ _ c.in-Digit-digit_at.ensures.value;
    }

pub returns-in-End : goal.returns-in-End
returns-in-End c = told_by _ (Byte.Digit c.in-Digit.a) Byte.End _ _ c.in-Digit.ensures.value c.in-End.ensures.value refl refl

pub returns-in-Digit-2 : goal.returns-in-Digit-2
returns-in-Digit-2 c = leading_zero _ _ _ c.in-Digit.ensures.value c.in-Digit-digit_at.ensures.value c.if-a-ne0.false

pub returns-in-Digit-2-2 : goal.returns-in-Digit-2-2
returns-in-Digit-2-2 c = told_by _ (Byte.Digit c.in-Digit.a) Byte.Other _ _ c.in-Digit.ensures.value c.in-Digit-2.ensures.value refl refl
