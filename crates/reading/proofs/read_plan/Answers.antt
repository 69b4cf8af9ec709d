use Rattle.std.proofs.lemmas.Result.{err_from_is_err_and}
use Rattle.plan.specs.declared.refusal.Refusal.{Refusal}
use Rattle.reading.proofs.Plans.{refuses, too_long, bad_line, good_lines, same_plan}
use Rattle.reading.proofs.read_plan.Goals as goal

pub returns-then-sheet-gt16384 : goal.returns-then-sheet-gt16384
returns-then-sheet-gt16384 c = (refuses _ _ _ Refusal.LongSheet (too_long c.args.sheet.now c.if-sheet-gt16384.true), tt)

pub returns-in_err-lines : goal.returns-in_err-lines
returns-in_err-lines c =
    let p = err_from_is_err_and c.from_residual.result c.from_residual.ensures.1 in
    rw (p.1, p.2) (refuses _ _ _ _ (bad_line c.args.sheet.now c.if-sheet-gt16384.false _ c.in_err-lines.ensures), tt)

pub returns : goal.returns
returns c = (same_plan _ _ _ _ _ (good_lines c.args.sheet.now c.if-sheet-gt16384.false _ c.in_ok-lines.ensures.taken) c.check_plan.ensures.0, c.check_plan.ensures.1)
