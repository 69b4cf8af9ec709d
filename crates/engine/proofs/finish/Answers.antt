use Rattle.std.proofs.lemmas.Result.{err_from_is_err_and}
use Rattle.engine.proofs.CallLaws.{promised}
use Rattle.engine.proofs.finish.Goals as goal

pub returns-in_err-finish_and_report : goal.returns-in_err-finish_and_report
returns-in_err-finish_and_report c =
    let e = err_from_is_err_and c.from_residual.result c.from_residual.ensures.1 in
    let p = promised _ _ _ _ c.in_err-finish_and_report.ensures.out_after in
    rw (e.1, e.2) (record { out_after = p.0; demand_3_kept = p.1.0; result_in_bounds = p.1.1.0; demand_1 = p.1.1.1 })

pub returns : goal.returns
returns c =
    let p = promised _ _ _ _ c.in_ok-finish_and_report.ensures.out_after in
    record { out_after = p.0; demand_3_kept = p.1.0; result_in_bounds = p.1.1.0; demand_1 = p.1.1.1 }
