-- Demand 1: a finished sheet, or a number of the list under its condition, for every sequence of bytes and every output lent.
use Rattle.std.specs.Prelude.{if◌then◌else◌}
use mathlib.Core.Path.{◌≡◌, refl, ap, sym, ◌∙◌}
use mathlib.Core.Logic.{◌⊎◌, inl, inr}
use Prim.Native.Nat.{ℕ, ◌≤◌, ◌<◌, ◌+◌}
use native.Mathlib.Omega.{arith}
use native.Mathlib.Nat.{not-suc-le-zero}
use mathlib.Core.Bool.{Bool, true, false, ◌&&◌, not}
use mathlib.Core.List.{List, [], ◌∷◌, Memᴰ}
use lib.Dec.{T, eqb, leb, leb→le, nltb→le}
use lib.ListN.{length, length-append, length-drop}
use Rattle.plan.specs.declared.ir.IR.{IR}
use Rattle.plan.specs.Kinds.{same_ir}
use Rattle.plan.specs.Lists.{all?, sum, times, empty?}
use Rattle.plan.specs.declared.answer.Finished.{Finished}
use Rattle.plan.specs.Sheet.{Step, no_step, step_at, in_step_table, Sheet, Outcome, refused, done, ◌then◌, refuse◌when◌else◌, read}
use Rattle.plan.specs.Faults.{named, checked}
use Rattle.plan.specs.Graph.{graph, sinks, is_cache}
use Rattle.plan.specs.Visit.{Run}
use Rattle.plan.specs.Walks.{begin, down, up, updated, simplify_and_fetch_orderings}
use Rattle.plan.specs.Text.{printed}
use Rattle.plan.specs.Finished.{run, finished, Called, finish, called, too_short, answer_number}
use Rattle.plan.specs.Conditions.{refusal_numbers, TurnedBack}
use Rattle.plan.proofs.ListLaws.{and_left, and_right, of_all}
use Rattle.plan.proofs.Outcomes.{both_done}
use Rattle.plan.proofs.Booleans.{all_at}
use Rattle.plan.proofs.KindNumbers.{same_kind}
use Rattle.plan.proofs.TurnedBack.{outcome, run_back, comes_back, listed}
use Rattle.claims.specs.WellFormed.{WellFormed}
use Rattle.claims.specs.Demand1.{FinishedCall, RefusedCall, Demand1}
use Rattle.claims.proofs.Taken.{well_formed}
use Rattle.claims.proofs.Visits.{walked, places_counted}
use Rattle.plan.proofs.Counts.{false_of}
use Rattle.claims.proofs.StepTable.{sink_has_one_input, cache_has_one_input}
use Rattle.claims.proofs.Plans.{sinks_count, input_right}
use Rattle.claims.proofs.Keys.{key_other}
use Rattle.claims.proofs.Merged.{merged, sinks_merged}
use Rattle.claims.proofs.MergedPlan.{keyed_of}
use Rattle.claims.proofs.Ends.{ends}
use Rattle.claims.proofs.Sizes.{length_places}
use Rattle.claims.proofs.WithinLimits.{within_limits}

-- Every finished sheet has a G line: the first step is no Sink, since a Sink has an earlier input; so it is named ---------------------------

some_naming : (sh : Sheet) → WellFormed sh → 1 ≤ length (named (merged sh.steps))
unfolding sum
some_naming sh w =
    let no_sink = not_one (same_ir (step_at ps 0).kind IR.Sink) (λ e. sink_has_one_input (step_at ps 0) (same_kind (step_at ps 0).kind IR.Sink e) row) in
    let no_cache = not_one (is_cache ps 0) (λ e. cache_has_one_input (step_at ps 0) (same_kind (step_at ps 0).kind IR.Cache e) row) in
    let none : times 0 (sinks ps) ≡ 0 = sinks_count ps 0 ∙ ap (λ (b : Bool). if b then 1 else 0) (false_of (same_ir (step_at ps 0).kind IR.Sink) no_sink) in
    let own = key_other ps 0 (false_of (is_cache ps 0) no_cache) in
    omega (arith, (keyed_of sh w).rooted 0 first own, ap (times 0) (sinks_merged ps), none, few (named (merged ps)))
  where
    ps : List Step
    ps = sh.steps

    first : 0 < length ps
    first = there ps w.has_plan
      where
        there : (l : List Step) → T (not (empty? l)) → 0 < length l
        there [] t = absurd t
        there (x ∷ l) t = omega arith

    row : T (in_step_table (step_at ps 0))
    row = all_at in_step_table ps no_step w.steps_in_table 0 first

    no_input : (l : List ℕ) → length l ≡ 1 → ((m : ℕ) → Memᴰ m l → m < 0) → ⊥
    no_input [] e f = omega (arith, e)
    no_input (m ∷ l) e f = not-suc-le-zero (f m (Memᴰ.head refl))

    not_one : (b : Bool) → (T b → length (step_at ps 0).inputs ≡ 1) → ¬ T b
    not_one b f t = no_input (step_at ps 0).inputs (f t) (λ m i. (input_right sh w 0 m i).1)

    few : (l : List ℕ) → times 0 l ≤ length l
    few [] = omega arith
    few (x ∷ l) = by (eqb 0 x) (few l)
      where
        by : (b : Bool) → times 0 l ≤ length l → (if b then 1 else 0) + times 0 l ≤ length (x ∷ l)
        by true h = omega arith
        by false h = omega arith

pub some_edge : (s : List ℕ) (r : Run) → run s ≡ done r → 1 ≤ length r.edges
unfolding run down up begin updated
some_edge s r e =
    let (sh, accepted, walks) = both_done (read s then checked) simplify_and_fetch_orderings e in
    let x = ends sh r walks in
    let w = well_formed s sh accepted in
    omega (
      ap (λ (q : Run). length q.edges) x.updates,
      arith,
      some_naming sh w,
      length_places sh w,
      places_counted sh.steps,
      (walked (graph sh.steps).0 (begin sh) x.down_ends).edges,
      (walked x.half.back x.half x.up_ends).edges,
    )

opened : (s : List ℕ) {r : Run} → run s ≡ done r → (read s then checked then simplify_and_fetch_orderings) ≡ done r
unfolding run
opened s e = e

pub run_printed : (s : List ℕ) (r : Run) → run s ≡ done r → finished s ≡ done (printed r)
unfolding finished ◌then◌
run_printed s r e = ap (λ (o : Outcome Run). o then λ x. done (printed x)) e

-- Demand 1 --------------------------------------------------------------------------------------------------------------------------------

-- the list, as far as sums and tests want it
pub number_range : (n : ℕ) → Memᴰ n refusal_numbers → (1 ≤ n) × (n ≤ 13)
unfolding all?
number_range n m =
    let t = of_all (λ k. leb 1 k && leb k 13) refusal_numbers tt n m in
    (leb→le 1 n (and_left (leb 1 n) (leb n 13) t), leb→le n 13 (and_right (leb 1 n) (leb n 13) t))

module _ (s output : List ℕ) where
  comes_to : (o : Outcome Run) → outcome s output ≡ o → finish s output ≡ called output o
  unfolding finish
  comes_to o e = ap (called output) e

  -- the answer to a sheet whose condition holds
  alone : (n : ℕ) → TurnedBack s output n → (finish s output).answer ≡ refused n
  unfolding called
  alone n c = ap (λ (x : Called). x.answer) (comes_to (refused n) (comes_back s output n c))

  exclude : (m n : ℕ) → TurnedBack s output m → TurnedBack s output n → m ≡ n
  exclude m n c d = ap answer_number (sym (alone m c) ∙ alone n d)

  is_refusal : Outcome Finished → ℕ
  is_refusal (done f) = 0
  is_refusal (refused n) = 1

  finished_none : FinishedCall s output → (n : ℕ) → ¬ TurnedBack s output n
  unfolding is_refusal
  finished_none k n c = let z : ◌≡◌ {A = ℕ} 0 1 = ap is_refusal (sym k.answer ∙ alone n c) in omega arith

  demanded : FinishedCall s output ⊎ RefusedCall s output → length (finish s output).output ≡ length output → Demand1 s output
  demanded k size = record { either = k; alone = alone; exclude = exclude; finished_none = finished_none; size = size }

  turned_back : (n : ℕ) → outcome s output ≡ refused n → TurnedBack s output n → Demand1 s output
  unfolding called
  turned_back n e c =
      let same = comes_to (refused n) e in
      demanded
      (inr (record { number = n; listed = listed s output n c; condition = c; answer = ap (λ (x : Called). x.answer) same; bytes = ap (λ (x : Called). x.output) same }))
      (ap (λ (x : Called). length x.output) same)

  finishes : (r : Run) → outcome s output ≡ done r → T (not (too_short output)) → run s ≡ done r → Demand1 s output
  unfolding called
  finishes r e room i =
      let same = comes_to (done r) e in
      let (sh, accepted, walks) = both_done (read s then checked) simplify_and_fetch_orderings (from_run i) in
      let short = (within_limits s sh accepted).text (printed r) (finished_is i) in
      demanded
      (inl (record {
        whole = r;
        runs = i;
        answer = ap (λ (x : Called). x.answer) same;
        bytes = ap (λ (x : Called). x.output) same;
        has_edge = some_edge s r i;
      }))
      (ap (λ (x : Called). length x.output) same ∙ simp (length-append, length-drop) (omega (arith, nltb→le (length output) 16384 room)))
    where
      from_run : run s ≡ done r → (read s then checked then simplify_and_fetch_orderings) ≡ done r
      from_run i = opened s i

      finished_is : run s ≡ done r → finished s ≡ done (printed r)
      finished_is i = run_printed s r i

  pub demand_1 : Demand1 s output
  unfolding refuse◌when◌else◌
  demand_1 = by (too_short output) refl (λ t. t) (λ t. t)
    where
      on : (o : Outcome Run) → run s ≡ o → outcome s output ≡ o → T (not (too_short output)) → Demand1 s output
      on (refused n) i e room = turned_back n e (run_back s output room n i)
      on (done r) i e room = finishes r e room i

      by : (b : Bool) → too_short output ≡ b → (T b → T (too_short output)) → (T (not b) → T (not (too_short output))) → Demand1 s output
      by true e f g = turned_back 1 (ap (λ (x : Bool). refuse 1 when x else run s) e) (TurnedBack.short_output (f tt))
      by false e f g = on (run s) refl (ap (λ (x : Bool). refuse 1 when x else run s) e) (g tt)
