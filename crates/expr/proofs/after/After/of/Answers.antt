use Rattle.plan.specs.Look.{after}
use Rattle.expr.proofs.after.After.of.Goals as goal

pub returns-in-Column : goal.returns-in-Column
unfolding after
returns-in-Column c = simp (c.plain.ensures, c.in-Column.is)

pub returns-in-Literal : goal.returns-in-Literal
unfolding after
returns-in-Literal c = simp (c.plain-in-Literal.ensures, c.pick.ensures, c.in-Literal.is)

pub returns-in-Element : goal.returns-in-Element
unfolding after
returns-in-Element c = simp (c.plain-in-Element.ensures, c.in-Element.is)

pub returns-in-StructField : goal.returns-in-StructField
unfolding after
returns-in-StructField c = simp (c.plain-in-StructField.ensures, c.in-StructField.is)

pub returns-in-Len : goal.returns-in-Len
unfolding after
returns-in-Len c = simp (c.plain-in-Len.ensures, c.in-Len.is)

pub returns-in-BinaryExpr : goal.returns-in-BinaryExpr
unfolding after
returns-in-BinaryExpr c = simp (c.projected.ensures, c.in-BinaryExpr.is)

pub returns-in-Ternary : goal.returns-in-Ternary
unfolding after
returns-in-Ternary c = simp (c.ternary.ensures, c.union.ensures, c.first.ensures, c.in-Ternary.is)

pub returns-in-Cast : goal.returns-in-Cast
unfolding after
returns-in-Cast c = simp (c.plain-in-Cast.ensures, c.in-Cast.is)

pub returns-in-Explode : goal.returns-in-Explode
unfolding after
returns-in-Explode c = simp (c.plain-in-Explode.ensures, c.union-in-Explode.ensures, c.in-Explode.is)

pub returns-in-Sort : goal.returns-in-Sort
unfolding after
returns-in-Sort c = simp (c.plain-in-Sort.ensures, c.in-Sort.is)

pub returns-in-SortBy : goal.returns-in-SortBy
unfolding after
returns-in-SortBy c = simp (c.once.ensures, c.pick-in-SortBy.ensures, c.union-in-SortBy.ensures, c.in-SortBy.is, c.pick-mixed.ensures)

pub returns-in-Filter : goal.returns-in-Filter
unfolding after
returns-in-Filter c = simp (c.filter.ensures, c.in-Filter.is, c.pick-mixed.ensures)

pub returns-in-Gather : goal.returns-in-Gather
unfolding after
returns-in-Gather c = simp (c.once-in-Gather.ensures, c.pick-in-Gather.ensures, c.is_empty.ensures, c.in-Gather.is)

pub returns-in-Slice : goal.returns-in-Slice
unfolding after
returns-in-Slice c = simp (c.once-in-Slice.ensures, c.union-in-Slice.ensures, c.in-Slice.is, c.pick-mixed.ensures)

pub returns-in-Eval : goal.returns-in-Eval
unfolding after
returns-in-Eval c = simp (c.once-in-Eval.ensures, c.pick-in-Eval-2.ensures, c.union-in-Eval.ensures, c.pick-in-Eval.ensures, c.in-Eval.is)

pub returns-in-StructEval : goal.returns-in-StructEval
unfolding after
returns-in-StructEval c = simp (c.projected-in-StructEval.ensures, c.in-StructEval.is)

pub returns-in-Over : goal.returns-in-Over
unfolding after
returns-in-Over c = simp (c.once-in-Over.ensures, c.union-in-Over.ensures, c.in-Over.is)

pub returns-in-Rolling : goal.returns-in-Rolling
unfolding after
returns-in-Rolling c = simp (c.once-in-Rolling.ensures, c.union-in-Rolling.ensures, c.in-Rolling.is)

pub returns-in-MinBy : goal.returns-in-MinBy
unfolding after
returns-in-MinBy c = simp (c.once-in-MinBy.ensures, c.in-MinBy.is)

pub returns-in-Function : goal.returns-in-Function
unfolding after
returns-in-Function c = simp (c.function.ensures, c.in-Function.is)

pub returns-in-AnonymousAgg : goal.returns-in-AnonymousAgg
unfolding after
returns-in-AnonymousAgg c = simp (c.once-in-AnonymousAgg.ensures, c.union-in-AnonymousAgg.ensures, c.in-AnonymousAgg.is)

pub returns-in-First : goal.returns-in-First
unfolding after
returns-in-First c = simp (c.once-in-First.ensures, c.in-First.is)

pub returns-in-Min : goal.returns-in-Min
unfolding after
returns-in-Min c = simp (c.once-in-Min.ensures, c.in-Min.is)

pub returns-in-Implode : goal.returns-in-Implode
unfolding after
returns-in-Implode c = simp (c.once-in-Implode.ensures, c.is_empty-in-Implode.ensures, c.pick-in-Implode.ensures, c.in-Implode.is)

pub returns-in-AggGroups : goal.returns-in-AggGroups
unfolding after
returns-in-AggGroups c = simp (c.once-in-AggGroups.ensures, c.union-in-AggGroups.ensures, c.in-AggGroups.is)
