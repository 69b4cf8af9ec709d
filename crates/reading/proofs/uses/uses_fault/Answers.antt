use mathlib.Core.Path.{refl}
use Rattle.std.proofs.lemmas.Result.{err_from_is_err_and}
use Rattle.reading.proofs.Names.{exprs_decide, steps_decide, some_number}
use Rattle.reading.proofs.uses.uses_fault.Goals as goal

pub returns-in_err-exprs_fault : goal.returns-in_err-exprs_fault
returns-in_err-exprs_fault c =
    let p = err_from_is_err_and c.from_residual.result c.from_residual.ensures.1 in
    rw (p.1, p.2) (exprs_decide _ _ _ _ c.in_err-exprs_fault.ensures (some_number _))

pub returns : goal.returns
returns c = steps_decide _ _ _ _ c.in_ok-exprs_fault.ensures refl c.steps_fault.ensures
