use mathlib.Core.Path.{◌≡◌, ap, ◌∙◌}
use native.Mathlib.Omega.{arith}
use Rattle.std.specs.Prelude.{Ok}
use Rattle.marking.specs.declared.answer.Mark.{Mark}
use Rattle.marking.specs.Marking.{mark_line}
use Rattle.marking.proofs.line.put_mark.Goals as goal

pub returns-in-Ok-Right : goal.returns-in-Ok-Right
unfolding mark_line
returns-in-Ok-Right c =
    let i = c.in-Ok-Right.is in
    let j = c.in-Ok-Right.field-0-is in
    let m : c.in-Ok-Right.field-0 ≡ Mark.Right = cc in
    (rw (i ∙ ap Ok m) c.put_word.ensures, omega (arith, c.put_word.ensures.len))

pub returns-in-Ok-Wrong : goal.returns-in-Ok-Wrong
unfolding mark_line
returns-in-Ok-Wrong c =
    let i = c.in-Ok-Wrong.is in
    let j = c.in-Ok-Wrong.field-0-is in
    let m : c.in-Ok-Wrong.field-0 ≡ Mark.Wrong = cc in
    (rw (i ∙ ap Ok m) c.put_word-in-Ok-Wrong.ensures, omega (arith, c.put_word-in-Ok-Wrong.ensures.len))

pub returns-in-Err : goal.returns-in-Err
unfolding mark_line
returns-in-Err c = (rw c.in-Err.is c.put_refusal.ensures.0, c.put_refusal.ensures.1)
