use native.Mathlib.Omega.{arith}
use Rattle.writing.proofs.Digits.{field_one, field_two, field_three}
use Rattle.writing.proofs.fields.put_field.Goals as goal

pub returns-then-n-lt10 : goal.returns-then-n-lt10
returns-then-n-lt10 c = (field_one _ _ c.requires c.if-n-lt10.true, omega arith)

pub returns-then-n-lt100 : goal.returns-then-n-lt100
returns-then-n-lt100 c = (field_two _ _ c.requires c.if-n-lt10.false c.if-n-lt100.true, omega arith)

pub returns : goal.returns
returns c = (field_three _ _ c.requires c.if-n-lt100.false (omega arith), omega arith)
