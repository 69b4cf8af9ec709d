use Rattle.std.proofs.lemmas.Result.{err_from_is_err_and}
use Rattle.marking.proofs.MarkWays.{places_ordered, lines_lent, finished_mark, refused_mark}
use borrow.Author.Rules.{rules}
use Rattle.marking.proofs.mark.Goals as goal

pub returns-in_err-report : goal.returns-in_err-report
returns-in_err-report c =
    let p = err_from_is_err_and c.from_residual.result c.from_residual.ensures.1 in
    rw (p.1, p.2) (refused_mark _ _ _ _ _ c.in_err-report.ensures.out_after)

-- where the sheet is finished, its blocks stand in their order
pub slice_bounds-compare-count : goal.slice_bounds-compare-count
slice_bounds-compare-count c = let o = places_ordered _ _ _ _ c.in_ok-report.ensures.out_after in search rules

pub slice_bounds-compare-start : goal.slice_bounds-compare-start
slice_bounds-compare-start c = let o = places_ordered _ _ _ _ c.in_ok-report.ensures.out_after in search rules

pub slice_bounds-compare-end : goal.slice_bounds-compare-end
slice_bounds-compare-end c = let o = places_ordered _ _ _ _ c.in_ok-report.ensures.out_after in search rules

pub slice_bounds-compare-count-2 : goal.slice_bounds-compare-count-2
slice_bounds-compare-count-2 c = let o = places_ordered _ _ _ _ c.in_ok-report.ensures.out_after in search rules

pub slice_bounds-compare-start-2 : goal.slice_bounds-compare-start-2
slice_bounds-compare-start-2 c = let o = places_ordered _ _ _ _ c.in_ok-report.ensures.out_after in search rules

pub slice_bounds-compare-end-2 : goal.slice_bounds-compare-end-2
slice_bounds-compare-end-2 c = let o = places_ordered _ _ _ _ c.in_ok-report.ensures.out_after in search rules

pub compare-requires : goal.compare-requires
compare-requires c =
    let k = c.in_ok-report.ensures in
    (k.reports.whole.edges, lines_lent _ _ _ _ k.out_after _ k.reports)

pub returns : goal.returns
returns c =
    let k = c.in_ok-report.ensures in
    finished_mark _ _ _ _ k.out_after _ k.reports _ _ (c.compare.ensures k.reports.whole.edges (lines_lent _ _ _ _ k.out_after _ k.reports))
