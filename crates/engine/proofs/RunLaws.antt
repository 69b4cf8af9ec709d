-- Laws of the stages: what is written of what the walks leave, and what their outcome makes of the call.
use mathlib.Core.Path.{◌≡◌, refl, sym, ap, ap₂, ◌∙◌}
use Prim.Native.Nat.{ℕ}
use native.Mathlib.Omega.{arith}
use mathlib.Core.Bool.{Bool}
use mathlib.Core.List.{List, [], ◌∷◌, ◌++◌}
use lib.ListN.{length, drop}
use Rattle.std.specs.Prelude.{Err}
use Rattle.plan.specs.declared.answer.Finished.{Finished}
use Rattle.plan.specs.declared.refusal.Refusal.{Refusal}
use Rattle.plan.specs.Refusals.{refusal_number}
use Rattle.plan.specs.Lists.{concat_map}
use Rattle.plan.specs.Finished.{called, finished_answer}
use Rattle.plan.specs.Sheet.{Expr, Step, Sheet, Outcome, refused, done}
use Rattle.plan.specs.Text.{expr_line, step_line, edge_line, tally_line, exprs_block, steps_block, edges_block, printed, blocks, joined, end_of}
use Rattle.plan.specs.Text as text
use Rattle.plan.specs.Visit.{Run}
use Rattle.plan.specs.Walks.{simplify_and_fetch_orderings}
use Rattle.storage.specs.Stored.{arena_of, stored_steps, StepsHeld}
use Rattle.storage.specs.declared.removed.Removed.{Removed}
use Rattle.storage.specs.Removed.{RemovedAre}
use Rattle.storage.specs.Start.{OwnLines, NoneOff}
use Rattle.expr.proofs.Asked.{based_of_sheet}
use Rattle.expr.proofs.Starts.{arena_at_start}
use Rattle.claims.proofs.Taken.{well_formed}
use Rattle.reading.specs.Plan.{plan_of, PlanIs}
use Rattle.reading.specs.declared.Counts.{Counts}
use Rattle.reading.proofs.Accepted.{ReadPlan}
use Rattle.storage.specs.Based.{Based}
use Rattle.simplify_ordering.specs.declared.run.StoredRun.{StoredRun}
use Rattle.storage.specs.Held.{arena_in, steps_in, edges_in}
use Rattle.simplify_ordering.specs.Held.{run_of}
use Rattle.writing.specs.Blocks.{SheetWrote, FiguresTold}
use Rattle.engine.specs.Call.{call, RunWrote}

-- A plan as it is read -----------------------------------------------------------------------------------------------------------

pub no_records : (recs : List ℕ) (n : ℕ) → n ≡ 0 → Based recs n
no_records recs n none =
    record { few = omega arith; room = omega arith; formed = λ l h. absurd (omega arith); falls = λ l h. absurd (omega arith); sorted = λ l h. absurd (omega arith) }

pub no_steps : (bytes : List ℕ) (n : ℕ) → length bytes ≡ 1024 → n ≡ 0 → StepsHeld bytes n
no_steps bytes n size none = record { few = omega arith; size = size; formed = λ i h. absurd (omega arith) }

-- a sheet that was refused
pub plan_refused : (o : Outcome Sheet) (es ps : List ℕ) (e : Refusal) → PlanIs o es ps (Err e) → o ≡ refused (refusal_number e)
plan_refused (refused k) es ps e l = let n : k ≡ refusal_number e = cc in ap refused n
plan_refused (done sh) es ps e l = let q = l.answer in absurd (cc)

-- the records of a sheet that was read
pub plan_based : (s es ps : List ℕ) (c : Counts) → ReadPlan s es ps c → length es ≡ 2048 → Based es c.exprs
plan_based s es ps c k size =
    based_of_sheet es c.exprs k.exprs_held.few (omega (arith, k.exprs_held.few, size)) k.exprs_held.formed k.sheet (well_formed s k.sheet k.accepted) k.exprs

-- and that sheet, seen through lines that hold their own records
pub plan_read : (s es ps : List ℕ) (c : Counts) → ReadPlan s es ps c → (line : List ℕ) (off : List Bool) → OwnLines line → NoneOff off
    → plan_of s ≡ done (record { exprs = arena_of es line off c.exprs; steps = stored_steps ps c.steps })
unfolding plan_of
plan_read s es ps c k line off own on =
    k.accepted ∙ ap₂ (λ (x : List Expr) (y : List Step). done (record { exprs = x; steps = y })) (sym (arena_at_start es c.exprs k.exprs_held.few line off own on ∙ k.exprs)) (sym k.steps)

-- What is written ----------------------------------------------------------------------------------------------------------------

finished_is : (r : Finished) {a b c d e v l : ℕ} → r.exprs ≡ a → r.steps ≡ b → r.edges ≡ c → r.length ≡ d → r.removed ≡ e → r.visits ≡ v
    → r.looks ≡ l → r ≡ record { exprs = a; steps = b; edges = c; length = d; removed = e; visits = v; looks = l }
finished_is r i j k l m n o = rw (← i, ← j, ← k, ← l, ← m, ← n, ← o)

-- the blocks e, p, g, t are those of the run
module _ (run : Run) (e p g t entry exit : List ℕ) (f : Finished) (w : SheetWrote e p g t entry exit f) (is_e : e ≡ exprs_block run)
    (is_p : p ≡ steps_block run) (is_g : g ≡ edges_block run) (is_t : t ≡ tally_line run) where
  wrote : SheetWrote (exprs_block run) (steps_block run) (edges_block run) (tally_line run) entry exit f
  wrote = rw (← is_e, ← is_p, ← is_g, ← is_t) w

  bytes_are : exit ≡ printed run ++ drop (length (printed run)) entry
  unfolding blocks joined printed
  bytes_are = wrote.bytes

  answer_is : f.removed ≡ length run.removed → f.visits ≡ run.tally.visits → f.looks ≡ run.tally.looks → f ≡ finished_answer run
  unfolding finished_answer end_of blocks joined printed
  answer_is x y z = finished_is f wrote.exprs wrote.steps wrote.edges wrote.all x y z

module _ (r : StoredRun) (ends : List ℕ) (removed : ℕ) (es : List Expr) (entry exit : List ℕ) (f : Finished) where
  pub run_wrote : es ≡ arena_in r.arena
      → SheetWrote (concat_map expr_line es) (concat_map step_line (steps_in r.steps)) (concat_map edge_line (edges_in ends r.edges)) (text.line 84 (removed ∷ r.tally.visits ∷ r.tally.looks ∷ [])) entry exit f
      → FiguresTold (record { removed = removed; tally = r.tally }) f
      → RunWrote (run_of r ends) removed entry exit f
  unfolding exprs_block steps_block edges_block tally_line
  run_wrote e w told =
      record {
        answer =
            λ back gone same.
            answer_is (run_of r ends back gone) _ _ _ _ entry exit f w (ap (concat_map expr_line) e) refl refl (ap (λ (k : ℕ). text.line 84 (k ∷ r.tally.visits ∷ r.tally.looks ∷ [])) same)
            (told.removed ∙ same) told.visits told.looks;
        bytes =
            λ back gone same.
            bytes_are (run_of r ends back gone) _ _ _ _ entry exit f w (ap (concat_map expr_line) e) refl refl (ap (λ (k : ℕ). text.line 84 (k ∷ r.tally.visits ∷ r.tally.looks ∷ [])) same);
      }

-- What the walks' outcome makes of the call --------------------------------------------------------------------------------------

pub refused_call : (sh : Sheet) (entry : List ℕ) (k : ℕ) → simplify_and_fetch_orderings sh ≡ refused k
    → call (refused k) entry ≡ called entry (simplify_and_fetch_orderings sh)
unfolding called
refused_call sh entry k e = sym (ap (called entry) e)

-- the run that the walks end with, what is written of it and what is reported
pub finished_call : (sh : Sheet) (entry exit : List ℕ) (run : List ℕ → List ℕ → Run) (m : Removed) (f : Finished) (back gone : List ℕ)
    → simplify_and_fetch_orderings sh ≡ done (run back gone) → RemovedAre gone m → RunWrote run m.count entry exit f
    → call (done f) exit ≡ called entry (simplify_and_fetch_orderings sh)
unfolding called
finished_call sh entry exit run m f back gone ends k w =
    ap₂ (λ (x : Finished) (y : List ℕ). call (done x) y) (w.answer back gone k.count) (w.bytes back gone k.count) ∙ sym (ap (called entry) ends)
