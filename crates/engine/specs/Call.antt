-- What the stages of the call hand on, and what a call leaves.
use Rattle.std.specs.Prelude.{◌≡◌, ℕ, List, ◌++◌, length, drop, Result, Ok, Err, ⊤}
use Rattle.plan.specs.declared.answer.Finished.{Finished}
use Rattle.plan.specs.declared.refusal.Refusal.{Refusal}
use Rattle.plan.specs.Refusals.{refusal_number}
use Rattle.plan.specs.Finished.{Called, finished_answer}
use Rattle.plan.specs.Sheet.{Sheet, Outcome, refused, done}
use Rattle.plan.specs.Text.{printed}
use Rattle.plan.specs.Visit.{Run}
use Rattle.storage.specs.declared.removed.Removed.{Removed}
use Rattle.storage.specs.Removed.{RemovedAre}
use Rattle.storage.specs.Start.{OwnLines, NoneOff}
use Rattle.simplify_ordering.specs.declared.run.StoredRun.{StoredRun}
use Rattle.engine.specs.declared.report.Report.{Report}

-- the answer, and the bytes of the output at exit
abbrev pub call : Outcome Finished → List ℕ → Called
call r output = record { answer = r; output = output }

-- Beside the answer: the call of an addition --------------------------------------------------------------------------------------

-- its answer without what is reported beside it
abbrev pub finished_of : Outcome Report → Outcome Finished
finished_of (done r) = done r.finished
finished_of (refused n) = refused n

-- m says which sorts were removed, by either walk, in the run that was made
pub record RemovedIn (o : Outcome Run) (m : Removed) : Type 0 where
  pub whole : Run
  pub runs : o ≡ done whole
  pub are : RemovedAre whole.removed m

-- what is reported of that run, where the call is not refused
abbrev pub Reports : Outcome Run → Result Report Refusal → Type 0
Reports o (Ok r) = RemovedIn o r.removed
Reports o (Err e) = Unit

-- The stages -------------------------------------------------------------------------------------------------------------------------

-- a run of no lines: each is to hold its own record
pub record Fresh (r : StoredRun) : Type 0 where
  pub own : OwnLines r.arena.lines.holds
  pub on : NoneOff r.arena.lines.off
  pub no_records : r.arena.records.count ≡ 0
  pub no_steps : r.steps.count ≡ 0

-- a sheet was read, and is sh, or it was refused
abbrev pub read_as : Result ⊤ Refusal → Sheet → Outcome Sheet
read_as (Ok x) sh = done sh
read_as (Err e) sh = refused (refusal_number e)

-- The run was written over the front of a buffer, and f says where its blocks end and what its figures are. `run` gives it from the
-- places gone back along and the sorts removed: of these only the number of the sorts is written
pub record RunWrote (run : List ℕ → List ℕ → Run) (removed : ℕ) (entry exit : List ℕ) (f : Finished) : Type 0 where
  pub answer : (back gone : List ℕ) → removed ≡ length gone → f ≡ finished_answer (run back gone)
  pub bytes : (back gone : List ℕ) → removed ≡ length gone → exit ≡ printed (run back gone) ++ drop (length (printed (run back gone))) entry
