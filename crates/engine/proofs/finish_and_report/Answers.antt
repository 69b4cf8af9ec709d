use mathlib.Core.Path.{subst}
use Rattle.std.proofs.lemmas.Result.{err_from_is_err_and}
use Rattle.plan.specs.Refusals.{outcome_of}
use Rattle.plan.specs.Sheet.{Outcome}
use Rattle.plan.specs.Visit.{Run}
use Rattle.simplify_ordering.specs.Walks.{sheet_of}
use Rattle.engine.specs.Call.{finished_of, Reports}
use Rattle.engine.proofs.CallLaws.{short_call, turned_back, taken_call, taken_run, accepted_formed}
use Rattle.engine.proofs.finish_and_report.Goals as goal

pub returns-then-out-lt16384 : goal.returns-then-out-lt16384
returns-then-out-lt16384 c = record { out_after = short_call _ _ c.if-out-lt16384.true; reports = tt }

pub returns-in_err-read_run : goal.returns-in_err-read_run
returns-in_err-read_run c =
    let e = err_from_is_err_and c.from_residual.result c.from_residual.ensures.1 in
    rw (e.1, e.2)
    (record { out_after = turned_back c.args.sheet.now c.args.out.now c.if-out-lt16384.false _ c.in_err-read_run.ensures.read; reports = tt })

pub finish_run-requires : goal.finish_run-requires
finish_run-requires c =
    record { in_bounds = c.if-out-lt16384.false; formed = accepted_formed c.args.sheet.now (sheet_of c.read_run.new.run) c.in_ok-read_run.ensures.read }

pub returns : goal.returns
returns c =
    let sheet = sheet_of c.read_run.new.run in
    let read = c.in_ok-read_run.ensures.read in
    record {
      out_after = taken_call c.args.sheet.now c.args.out.now c.if-out-lt16384.false sheet read (finished_of (outcome_of c.finish_run.result)) c.finish_run.new.out c.finish_run.ensures.out_after;
      reports = subst (λ (o : Outcome Run). Reports o c.finish_run.result) (taken_run c.args.sheet.now sheet read) c.finish_run.ensures.reports;
    }
