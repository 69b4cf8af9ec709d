-- What lent lines hold, as the definition's lists.
use Rattle.std.specs.Prelude.{List}
use Rattle.plan.specs.Sheet.{Expr, Step, Sheet}
use Rattle.storage.specs.Stored.{stored_exprs, stored_steps}
use Rattle.reading.specs.Held.{sheet}
use Rattle.reading.specs.declared.held.ExprLines.{ExprLines}
use Rattle.reading.specs.declared.held.StepLines.{StepLines}

abbrev pub exprs_in : ExprLines → List Expr
exprs_in es = stored_exprs es.bytes.now es.count

abbrev pub steps_in : StepLines → List Step
steps_in ps = stored_steps ps.bytes.now ps.count

abbrev pub sheet_in : ExprLines → StepLines → Sheet
sheet_in es ps = sheet es.bytes.now es.count ps.bytes.now ps.count
