use mathlib.Core.Path.{sym}
use borrow.Author.Tests.{ltb-true, ltb-false}
use Rattle.reading.proofs.Numbers.{digit_here, digit_past}
use Rattle.reading.proofs.number.digit_at.Goals as goal

pub returns-in-Some-clause-value : goal.returns-in-Some-clause-value
returns-in-Some-clause-value c = digit_here _ _ _ (ltb-true _ _ (sym c.in-Some.ensures.lookup.0)) c.digit_of.ensures.value c.in-Some.ensures.lookup.1

pub returns-in-None-clause-value : goal.returns-in-None-clause-value
returns-in-None-clause-value c = digit_past _ _ (ltb-false _ _ (sym c.in-None.ensures.lookup.0))
