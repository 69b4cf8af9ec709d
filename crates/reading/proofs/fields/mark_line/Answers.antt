use mathlib.Core.Path.{sym, ◌∙◌}
use Rattle.reading.proofs.Marking.{marks_children, marks_none, marks_rest, rest_none, no_rest, rest_is}
use Rattle.reading.proofs.fields.mark_line.Goals as goal

pub returns-then-times-ge1 : goal.returns-then-times-ge1
returns-then-times-ge1 c = marks_children _ _ _ c.times.ensures c.children_of-children.ensures c.if-times-ge1.true c.count_all.ensures

pub returns-in_default : goal.returns-in_default
returns-in_default c =
    marks_rest _ _ _ c.times.ensures c.if-times-ge1.false (sym c.is_kind.ensures ∙ c.if-is_kind.true)
    (no_rest _ _ c.children_of-children.ensures c.in_default.len_below) (rest_none _)

pub returns-in-len1-up : goal.returns-in-len1-up
returns-in-len1-up c =
    marks_rest _ _ _ c.times.ensures c.if-times-ge1.false (sym c.is_kind.ensures ∙ c.if-is_kind.true)
    (rest_is _ _ c.children_of-children.ensures) c.count_all-in-len1-up.ensures

pub returns-else-is_kind : goal.returns-else-is_kind
returns-else-is_kind c = marks_none _ _ _ c.times.ensures c.if-times-ge1.false (sym c.is_kind.ensures ∙ c.if-is_kind.false)
