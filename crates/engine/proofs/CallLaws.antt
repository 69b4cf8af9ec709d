-- Laws of the call: each way through it, and what follows of its answer and of the bytes at exit.
use mathlib.Core.Path.{◌≡◌, sym, ap, ◌∙◌, subst}
use mathlib.Core.Logic.{◌⊎◌, inl, inr}
use Prim.Native.Nat.{ℕ, ◌≤◌, ◌<◌}
use native.Mathlib.Omega.{arith}
use mathlib.Core.List.{List, [], ◌∷◌, ◌++◌}
use lib.ListN.{length, take, drop, length-append}
use lib.Seq.{take-append_seam, take-append-le, drop-append_seam}
use borrow.Author.Tests.{lt-ltb, le-ltb}
use Rattle.plan.specs.declared.answer.Finished.{Finished}
use Rattle.plan.specs.Finished.{Called, called, run, finish, finished_answer, answer_length}
use Rattle.plan.specs.Lists.{concat_map}
use Rattle.plan.specs.Sheet.{Sheet, Outcome, refused, done, ◌then◌, refuse◌when◌else◌}
use Rattle.plan.specs.Text.{line, edge_line, exprs_block, steps_block, edges_block, tally_line, printed, blocks, joined, end_of}
use Rattle.plan.specs.Visit.{Run}
use Rattle.plan.specs.Walks.{down, up, simplify_and_fetch_orderings}
use Rattle.claims.specs.WellFormed.{Accepted, WellFormed}
use Rattle.claims.specs.Demand1.{Demand1, FinishedCall, RefusedCall}
use Rattle.claims.specs.Demand3.{FinishedRun}
use Rattle.claims.proofs.Demand1.{demand_1, run_printed}
use Rattle.claims.proofs.Demand3.{demand_3}
use Rattle.claims.proofs.Ends.{walks_alone}
use Rattle.plan.proofs.Outcomes.{same_value}
use Rattle.claims.proofs.Taken.{well_formed}
use Rattle.reading.specs.Plan.{plan_of}
use Rattle.engine.specs.Call.{call}
use Rattle.engine.specs.Demand3.{Stands, Demand3Kept}

-- Each way through the call ------------------------------------------------------------------------------------------------------

pub short_call : (s output : List ℕ) → length output < 16384 → call (refused 1) output ≡ finish s output
unfolding finish called refuse◌when◌else◌
short_call s output h = rw (lt-ltb (length output) 16384 h)

module _ (s output : List ℕ) (room : 16384 ≤ length output) where
  long_call : (o : Outcome Sheet) → plan_of s ≡ o → finish s output ≡ called output (o then simplify_and_fetch_orderings)
  unfolding finish run plan_of refuse◌when◌else◌
  long_call o e = rw (le-ltb (length output) 16384 room, e)

  -- a sheet that reading turns back, and one that is read
  pub turned_back : (k : ℕ) → plan_of s ≡ refused k → call (refused k) output ≡ finish s output
  unfolding called ◌then◌
  turned_back k e = sym (long_call (refused k) e)

  pub taken_call : (sh : Sheet) → plan_of s ≡ done sh → (r : Outcome Finished) (exit : List ℕ)
      → call r exit ≡ called output (simplify_and_fetch_orderings sh) → call r exit ≡ finish s output
  unfolding ◌then◌
  taken_call sh p r exit e = e ∙ sym (long_call (done sh) p)

-- What reading hands on ----------------------------------------------------------------------------------------------------------

pub taken_run : (s : List ℕ) (sh : Sheet) → plan_of s ≡ done sh → simplify_and_fetch_orderings sh ≡ run s
unfolding run plan_of ◌then◌
taken_run s sh p = sym (ap (λ (o : Outcome Sheet). o then simplify_and_fetch_orderings) p)

pub accepted_formed : (s : List ℕ) (sh : Sheet) → plan_of s ≡ done sh → WellFormed sh
unfolding plan_of
accepted_formed s sh p = well_formed s sh p

-- What follows of the answer -----------------------------------------------------------------------------------------------------

run_ends : (s : List ℕ) (sh : Sheet) (half whole : Run) → Accepted s sh → down sh ≡ done half → up half ≡ done whole → run s ≡ done whole
unfolding run ◌then◌
run_ends s sh half whole a d u = rw (a, walks_alone sh (well_formed s sh a), d) u

-- the G lines stand behind the E and P lines, the T line behind them
edge_lines : (r : Run) (behind : List ℕ)
    → drop (length (exprs_block r ++ steps_block r)) (take (length (exprs_block r ++ steps_block r ++ edges_block r)) (printed r ++ behind)) ≡ concat_map edge_line r.edges
unfolding blocks joined printed edges_block
edge_lines r behind =
    let before : List ℕ = exprs_block r ++ steps_block r ++ edges_block r in
    ap (drop (length (exprs_block r ++ steps_block r)))
    (take-append-le (length before) (before ++ tally_line r) behind (omega (arith, length-append before (tally_line r)))
    ∙ take-append_seam before (tally_line r))
    ∙ drop-append_seam (exprs_block r ++ steps_block r) (edges_block r)

last_line : (r : Run) → drop (length (exprs_block r ++ steps_block r ++ edges_block r)) (printed r) ≡ line 84 (length r.removed ∷ r.tally.visits ∷ r.tally.looks ∷ [])
unfolding blocks joined printed tally_line
last_line r = drop-append_seam (exprs_block r ++ steps_block r ++ edges_block r) (tally_line r)

module _ (s entry : List ℕ) (r : Run) (runs : run s ≡ done r) where
  abbrev behind : List ℕ
  behind = drop (length (printed r)) entry

  front : take (length (printed r)) (printed r ++ behind) ≡ printed r
  front = take-append_seam (printed r) behind

  of_sheet : FinishedRun s (printed r)
  of_sheet = (demand_3 s).finishes (printed r) (run_printed s r runs)

  same_run : of_sheet.whole ≡ r
  same_run =
      let k = of_sheet in
      same_value (sym (run_ends s k.sheet k.half k.whole k.accepted k.down_ends k.up_ends) ∙ runs)

  stands : Stands s (printed r ++ behind) (finished_answer r)
  unfolding finished_answer end_of blocks joined
  stands =
      let k = of_sheet in
      record {
        run =
            record {
              sheet = k.sheet;
              half = k.half;
              whole = k.whole;
              accepted = k.accepted;
              down_ends = k.down_ends;
              up_ends = k.up_ends;
              prints = front ∙ k.prints;
              took = k.took;
              visits = k.visits;
              sorts = k.sorts;
            };
        g_lines = edge_lines r behind ∙ sym (ap (λ (x : Run). concat_map edge_line x.edges) same_run);
        t_line =
            ap (drop (length (exprs_block r ++ steps_block r ++ edges_block r))) front ∙ last_line r
            ∙ sym (ap (λ (x : Run). line 84 (length x.removed ∷ x.tally.visits ∷ x.tally.looks ∷ [])) same_run);
      }

module _ (s entry exit : List ℕ) (r : Outcome Finished) (e : call r exit ≡ finish s entry) where
  kept : Demand3Kept s exit r × (answer_length r ≤ length entry)
  unfolding finished_answer end_of blocks joined
  kept = by (demand_1 s entry).either
    where
      d : Demand1 s entry
      d = demand_1 s entry

      answer : r ≡ (finish s entry).answer
      answer = ap (λ (x : Called). x.answer) e

      by : FinishedCall s entry ⊎ RefusedCall s entry → Demand3Kept s exit r × (answer_length r ≤ length entry)
      by (inl k) =
          let is : exit ≡ printed k.whole ++ behind s entry k.whole k.runs = ap (λ (x : Called). x.output) e ∙ k.bytes in
          let few : length (printed k.whole) ≤ length entry =
          omega (arith, ap length k.bytes, d.size, length-append (printed k.whole) (drop (length (printed k.whole)) entry)) in
          subst (λ (x : Outcome Finished). Demand3Kept s exit x × (answer_length x ≤ length entry)) (sym (answer ∙ k.answer)) (
            record {
              stands = subst (λ (l : List ℕ). Stands s l (finished_answer k.whole)) (sym is) (stands s entry k.whole k.runs);
              looks_down = (demand_3 s).looks_down;
              looks_up = (demand_3 s).looks_up;
            },
            few,
          )
      by (inr k) =
          subst (λ (x : Outcome Finished). Demand3Kept s exit x × (answer_length x ≤ length entry)) (sym (answer ∙ k.answer))
          (record { stands = tt; looks_down = (demand_3 s).looks_down; looks_up = (demand_3 s).looks_up }, omega arith)

  -- all that the call promises
  pub promised :
      (call r exit ≡ finish s entry) × (Demand3Kept s exit r × ((answer_length r ≤ length entry) × Demand1 s entry))
  promised = (e, (kept.0, (kept.1, demand_1 s entry)))
