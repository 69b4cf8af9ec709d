use Rattle.std.proofs.lemmas.Result.{err_from_is_err_and}
use Rattle.reading.proofs.Accepted.{read_plan}
use Rattle.engine.proofs.RunLaws.{no_records, no_steps, plan_based, plan_read, plan_refused}
use Rattle.engine.proofs.read.read_run.Goals as goal

pub invariant_of-records : goal.invariant_of-records
invariant_of-records c = record { based = no_records _ _ c.requires.no_records; sized = c.size.ensures }

pub invariant_of-steps : goal.invariant_of-steps
invariant_of-steps c = record { held = no_steps _ _ c.size-2.ensures c.requires.no_steps }

pub invariant_of-records-2 : goal.invariant_of-records-2
invariant_of-records-2 c =
    let k = c.in_ok-counts.ensures in
    record { based = plan_based _ _ _ _ (read_plan c.args.sheet.now _ _ _ k.0 k.1) c.size.ensures; sized = c.size.ensures }

pub returns-in_err-counts-clause-read : goal.returns-in_err-counts-clause-read
returns-in_err-counts-clause-read c =
    let p = err_from_is_err_and c.from_residual.result c.from_residual.ensures.1 in
    rw (p.1, p.2) (plan_refused _ _ _ _ c.in_err-counts.ensures.0)

pub returns-clause-read : goal.returns-clause-read
returns-clause-read c =
    let k = c.in_ok-counts.ensures in
    plan_read _ _ _ _ (read_plan c.args.sheet.now _ _ _ k.0 k.1) _ _ c.requires.own c.requires.on
