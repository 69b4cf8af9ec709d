-- The steps of a sheet that was read are a plan, and its records those of a well-formed sheet.
use Rattle.std.proofs.Common.{◌≡◌, ℕ, List, sym}
use Rattle.plan.specs.Sheet.{done}
use Rattle.claims.specs.Plan.{Plan}
use Rattle.claims.proofs.Plans.{plan_of}
use Rattle.engine.proofs.CallLaws.{accepted_formed}
use Rattle.expr.proofs.Starts.{arena_at_start}
use Rattle.expr.specs.Read.{ReadExprs}
use Rattle.reading.specs.Plan as reading
use Rattle.simplify_ordering.specs.Walks.{sheet_of}
use Rattle.simplify_ordering.specs.declared.run.StoredRun.{StoredRun}
use Rattle.storage.specs.Held.{steps_in}
use Rattle.storage.specs.Start.{OwnLines, NoneOff}

module _ (s : List ℕ) (run : StoredRun) (read : reading.plan_of s ≡ done (sheet_of run)) where
  pub plan_held : Plan (steps_in run.steps)
  plan_held = plan_of (sheet_of run) (accepted_formed s (sheet_of run) read)

  pub read_exprs : OwnLines run.arena.lines.holds × NoneOff run.arena.lines.off → ReadExprs run.arena.records.bytes run.arena.records.count
  read_exprs lines =
      let records = run.arena.records in
      record {
        few = records.based.few;
        each = records.based.formed;
        sheet = sheet_of run;
        well_formed = accepted_formed s (sheet_of run) read;
        same = sym (arena_at_start records.bytes records.count records.based.few run.arena.lines.holds run.arena.lines.off lines.0 lines.1);
      }
