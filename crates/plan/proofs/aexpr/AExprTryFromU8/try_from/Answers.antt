use Rattle.plan.specs.declared.aexpr.AExpr.{AExpr}
use Rattle.plan.specs.Kinds.{aexprs}
use Rattle.plan.proofs.Tables.{listed_in_table}
use Rattle.plan.proofs.aexpr.AExprTryFromU8.try_from.Goals as goal

pub returns : goal.returns
returns c = rw c.kind_at.ensures (listed_in_table aexprs AExpr.Column c.args.k)
