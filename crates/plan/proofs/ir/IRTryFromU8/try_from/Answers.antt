use Rattle.plan.specs.declared.ir.IR.{IR}
use Rattle.plan.specs.Kinds.{irs}
use Rattle.plan.proofs.Tables.{listed_in_table}
use Rattle.plan.proofs.ir.IRTryFromU8.try_from.Goals as goal

pub returns : goal.returns
returns c = rw c.kind_at.ensures (listed_in_table irs IR.Scan c.args.k)
