use Rattle.expr.proofs.Asked.{asks_at_start}
use Rattle.cases.proofs.lists.list_agrees.Goals as goal

pub simplify_projected_exprs-s-requires : goal.simplify_projected_exprs-s-requires
simplify_projected_exprs-s-requires c =
    let list = c.args.asked.shaped in
    (asks_at_start _ _ c.requires.read _ _ c.requires.lines.0 c.requires.lines.1 _ c.expr_order_simplifier.ensures _ _ list.few list.room c.requires.below).0
