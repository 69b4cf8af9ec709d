use native.Mathlib.Omega.{arith}
use borrow.Author.Rules.{rules}
use Rattle.reading.proofs.Numbers.{byte_digit, end_byte, other_byte}
use Rattle.reading.proofs.number.digit_of.Goals as goal

pub returns-then-is_ascii_digit-clause-value : goal.returns-then-is_ascii_digit-clause-value
returns-then-is_ascii_digit-clause-value c = let h = c.if-is_ascii_digit.ensures.cases in byte_digit _ (omega arith) (omega arith)

pub returns-in-44-clause-value : goal.returns-in-44-clause-value
returns-in-44-clause-value c = end_byte _ c.in-44.is

pub returns-in_default-clause-value : goal.returns-in_default-clause-value
returns-in_default-clause-value c = let out = c.if-is_ascii_digit.ensures.cases in other_byte _ (search rules) (λ h k. grind (arith, out))
