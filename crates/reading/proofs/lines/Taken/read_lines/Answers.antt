use mathlib.Core.Path.{refl, ◌∙◌}
use Rattle.std.proofs.Common.{rules, tests}
use Rattle.std.proofs.lemmas.Result.{err_from_is_err_and}
use Rattle.reading.proofs.Whole.{begin, within, turn, refuses, all_read}
use Rattle.reading.proofs.lines.Taken.read_lines.Goals as goal

pub loop-rest-init : goal.loop-rest-init
loop-rest-init c = ((refl, refl), begin _ _ _ _)

pub returns-in_err-len-clause-lines : goal.returns-in_err-len-clause-lines
returns-in_err-len-clause-lines c =
    let p = err_from_is_err_and c.from_residual.result c.from_residual.ensures.1 in
    rw (p.1, p.2) (refuses _ _ _ _ _ _ _ c.loop-rest.invariant.1 (search (rules, tests)) c.in_err-len.ensures.line)

pub slice_bounds-rest-count : goal.slice_bounds-rest-count
slice_bounds-rest-count c = within _ _ _ _ _ _ _ _ c.in_ok-len.ensures.line

pub slice_bounds-rest-start : goal.slice_bounds-rest-start
slice_bounds-rest-start c = within _ _ _ _ _ _ _ _ c.in_ok-len.ensures.line

pub loop-rest-preserved : goal.loop-rest-preserved
loop-rest-preserved c =
    let (same, along) = c.loop-rest.invariant in
    let d = c.in_ok-len.ensures.same in
    ((d.0 ∙ same.0, d.1 ∙ same.1), turn _ _ _ _ _ _ _ _ c.in_ok-len.ensures.line _ _ along)

pub returns-clause-lines : goal.returns-clause-lines
returns-clause-lines c = all_read _ _ _ _ _ _ c.loop-rest.invariant.1 (search (rules, tests))
