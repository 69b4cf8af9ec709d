use Rattle.simplify_ordering.proofs.LookLaws.{nothing_given, first_asks, second_asks, tally_fits, lists_given}
use Rattle.simplify_ordering.proofs.looks.look_at_lists.Goals as goal

pub returns-then-exprs-aggs : goal.returns-then-exprs-aggs
returns-then-exprs-aggs c =
    nothing_given _ c.args.tally.now _ _ c.args.exprs c.args.aggs c.args.allow c.requires c.if-exprs-aggs.true

pub simplify_projected_exprs-mid-requires : goal.simplify_projected_exprs-mid-requires
simplify_projected_exprs-mid-requires c =
    first_asks _ c.args.tally.now _ _ c.args.exprs c.args.aggs c.args.allow c.requires _ c.expr_order_simplifier-new.ensures

pub simplify_projected_exprs-end-requires : goal.simplify_projected_exprs-end-requires
simplify_projected_exprs-end-requires c =
    let same = c.simplify_projected_exprs-mid.ensures.records in
    rw (same.0, same.1)
    (second_asks _ c.args.tally.now _ _ c.args.exprs c.args.aggs c.args.allow c.requires _ c.expr_order_simplifier-new.ensures _ c.simplify_projected_exprs-mid.ensures.looked)

pub count_looks-requires : goal.count_looks-requires
count_looks-requires c =
    let same = c.simplify_projected_exprs-mid.ensures.records in
    tally_fits _ c.args.tally.now _ _ c.args.exprs c.args.aggs c.args.allow c.requires _ c.expr_order_simplifier-new.ensures _ c.simplify_projected_exprs-mid.ensures.looked _ (rw (same.0, same.1) at c.simplify_projected_exprs-end.ensures.looked) _ c.looks.ensures

pub returns : goal.returns
returns c =
    let same = c.simplify_projected_exprs-mid.ensures.records in
    let still = c.simplify_projected_exprs-end.ensures.records in
    rw (still.0, still.1, same.0, same.1)
    (lists_given _ c.args.tally.now _ _ c.args.exprs c.args.aggs c.args.allow c.requires _ c.expr_order_simplifier-new.ensures _ c.simplify_projected_exprs-mid.ensures.looked _ (rw (same.0, same.1) at c.simplify_projected_exprs-end.ensures.looked) _ _ _ c.answer.ensures c.answer-2.ensures c.observed.ensures _ c.looks.ensures _ c.count_looks.ensures)
