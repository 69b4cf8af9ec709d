use Rattle.expr.proofs.Leaves.{leaf_column, leaf_literal, leaf_element, leaf_struct_field, leaf_len}
use Rattle.expr.proofs.after.leaf.Goals as goal

pub returns-in-Column : goal.returns-in-Column
returns-in-Column c = rw c.in-Column.is (leaf_column c.args.scalar c.args.field)

pub returns-in-Literal : goal.returns-in-Literal
returns-in-Literal c = rw (c.in-Literal.is, c.pick.ensures) (leaf_literal c.args.scalar c.args.field)

pub returns-in-Element : goal.returns-in-Element
returns-in-Element c = rw c.in-Element.is (leaf_element c.args.scalar c.args.field)

pub returns-in-StructField : goal.returns-in-StructField
returns-in-StructField c = rw c.in-StructField.is (leaf_struct_field c.args.scalar c.args.field)

pub returns-in-Len : goal.returns-in-Len
returns-in-Len c = rw c.in-Len.is (leaf_len c.args.scalar c.args.field)
