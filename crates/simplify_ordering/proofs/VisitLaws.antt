-- A visit as the definition has it, from what the code of its stages gives.
use mathlib.Core.Path.{◌≡◌, ap, ◌∙◌}
use mathlib.Core.Logic.{◌≢◌}
use Prim.Native.Nat.{ℕ, ◌+◌, ◌<◌, ◌^◌}
use native.Mathlib.Omega.{arith}
use native.Mathlib.Nat.{le_trans}
use mathlib.Core.Bool.{Bool, true, false, ◌&&◌, not}
use mathlib.Core.List.{List, [], ◌∷◌, map}
use lib.Dec.{T}
use lib.ListN.{length, set}
use lib.Seq.{set-set, get_or-set_same}
use borrow.Author.Tests.{eq-eqb, ne_eqb}
use Rattle.plan.specs.declared.ir.IR.{IR}
use Rattle.plan.specs.declared.refusal.Refusal.{Refusal}
use Rattle.plan.specs.Refusals as refusals
use Rattle.plan.specs.Kinds.{same_ir}
use Rattle.plan.specs.FunctionIR.{rust_functions}
use Rattle.plan.specs.Lists.{yes?}
use Rattle.plan.specs.Sheet.{Expr, Step, no_step, refused, done, step_at}
use Rattle.plan.specs.Graph.{Edge}
use Rattle.plan.specs.Visit.{Run, Looked, around, options_of, with_options, looks_of, looked_in, rule, settle, goes, unlink_node, simplify_ir_node_orders, no_edge, refusal_number, ruling_of, settled_by}
use Rattle.plan.proofs.Settling.{refusal_in}
use Rattle.plan.specs.Visit as Visit
use Rattle.storage.proofs.Laws.{length_steps}
use Rattle.plan.specs.declared.tally.Tally.{Tally}
use Rattle.plan.specs.Tally.{visit_more}
use Rattle.plan.specs.declared.rules.Options.{Options}
use Rattle.plan.specs.declared.rules.Around.{Around}
use Rattle.plan.specs.declared.rules.Observable.{Observable}
use Rattle.node_rules.specs.Held.{Unlinked, Unlinkable, EdgesHeld}
use Rattle.simplify_ordering.specs.declared.visit.Found.{Found}
use Rattle.simplify_ordering.specs.Looks.{Listed}
use Rattle.simplify_ordering.specs.declared.run.StoredRun.{StoredRun}
use Rattle.storage.specs.Held.{steps_in, edges_in}
use Rattle.simplify_ordering.specs.Held.{run_of}
use Rattle.simplify_ordering.specs.Run.{RuledBy, stopped_at, SettleAsks}
use Rattle.claims.proofs.Stays.{goes_sort}
use Rattle.plan.proofs.Counts.{true_of}
use Rattle.claims.proofs.VisitsKept.{looks_visits}
use Rattle.simplify_ordering.proofs.ImplodesLaws.{longer_start}
use Rattle.claims.specs.Visitable.{Visitable}

-- a refusal has a number
pub not_zero : (e : Refusal) → refusals.refusal_number e ≢ 0
not_zero Refusal.ShortOutput z = absurd (omega (arith, z))
not_zero Refusal.LongSheet z = absurd (omega (arith, z))
not_zero Refusal.Form z = absurd (omega (arith, z))
not_zero Refusal.Table z = absurd (omega (arith, z))
not_zero Refusal.Limits z = absurd (omega (arith, z))
not_zero Refusal.NoPlan z = absurd (omega (arith, z))
not_zero Refusal.Reference z = absurd (omega (arith, z))
not_zero Refusal.Unused z = absurd (omega (arith, z))
not_zero Refusal.StructField z = absurd (omega (arith, z))
not_zero Refusal.JoinKeys z = absurd (omega (arith, z))
not_zero Refusal.SinkKeys z = absurd (omega (arith, z))
not_zero Refusal.UsedTwice z = absurd (omega (arith, z))
not_zero Refusal.CacheId z = absurd (omega (arith, z))

-- the state of a run
abbrev pub state : List Expr → List Step → List Edge → List ℕ → List ℕ → Tally → Run
state es ps ds back removed tally =
    record { arena = es; steps = ps; edges = ds; back = back; removed = removed; tally = tally }

-- A visit that removes nothing ---------------------------------------------------------------------------------------------------------

-- v is the step as the visit finds it
module _ (es : List Expr) (ps : List Step) (ds : List Edge) (v : Found) (tally : Tally) (here : v.ins.of < length ps)
    (options_are : v.options ≡ options_of (step_at ps v.ins.of)) (around_is : v.around ≡ around v.ins.of ds) where
  abbrev n : ℕ
  n = v.ins.of

  abbrev l : Looked
  l = looks_of (step_at ps n) (around n ds) es tally

  its_edges : v.around ≡ l.around
  unfolding looks_of
  its_edges = around_is

  -- the looks leave the options
  its_options : v.options ≡ options_of l.step
  unfolding looks_of
  its_options = options_are

  -- ps₁ are the steps after the looks
  module _ (ps₁ : List Step) (steps_are : ps₁ ≡ set ps n l.step) where
    step_now : step_at ps₁ n ≡ l.step
    step_now = ap (λ (x : List Step). step_at x n) steps_are ∙ get_or-set_same ps n l.step no_step here

    -- what the looks leave
    pub stops : (es₂ : List Expr) (tally₂ : Tally) → es₂ ≡ l.end.expr_arena → tally₂ ≡ l.end.tally → (back removed : List ℕ)
        → stopped_at n (state es ps ds back removed tally) ≡ state es₂ ps₁ ds back removed tally₂
    unfolding looked_in
    stops es₂ tally₂ arena_is tally_is back removed = rw (steps_are, arena_is, tally_is)

    -- o is what was observed, k the number that the code gave
    module _ (o : Observable) (seen : o ≡ l.observable) (k : ℕ) (number : k ≡ refusal_number v.options o) (back removed : List ℕ) where
      number_is : k ≡ refusal_in n (state es ps ds back removed tally)
      unfolding looked_in
      number_is = number ∙ rw (its_options, seen)

      pub settle_refused : k ≢ 0 → settle n (state es ps ds back removed tally) ≡ refused k
      unfolding settle
      settle_refused h = rw (← number_is, ne_eqb k 0 h)

      pub settle_done : k ≡ 0 → (ps₂ : List Step) (ds₂ : List Edge) (es₂ : List Expr) (tally₂ : Tally) → es₂ ≡ l.end.expr_arena → tally₂ ≡ visit_more l.end.tally
          → RuledBy v o ps₁ ds ps₂ ds₂
          → settle n (state es ps ds back removed tally) ≡ done (state es₂ ps₂ ds₂ (n ∷ back) removed tally₂)
      unfolding settle settled_by ruling_of looked_in
      settle_done h ps₂ ds₂ es₂ tally₂ arena_is tally_is ruled =
          let then : Step → Step = with_options (rule rust_functions v.options v.around o).options in
          let steps_then : ps₂ ≡ set ps n (with_options (rule rust_functions (options_of l.step) l.around l.observable).options l.step) =
          ruled.steps ∙ ap (λ (x : List Step). set x n (then (step_at ps₁ n))) steps_are
          ∙ set-set ps n l.step (then (step_at ps₁ n)) ∙ rw (step_now, seen, its_options, its_edges) in
          let edges_then : ds₂ ≡ map (Visit.loosened n (rule rust_functions (options_of l.step) l.around l.observable).loosened) ds =
          ruled.edges ∙ rw (seen, its_options, its_edges) in
          rw (← number_is, eq-eqb k 0 h, steps_then, edges_then, arena_is, tally_is)

-- what the code's test reads, of its own records
pub tests_read : (ps : List Step) (ds : List Edge) (n : ℕ) (s : Options) (e : Around) → s ≡ options_of (step_at ps n) → e ≡ around n ds
    → (g : Bool) → g ≡ (same_ir s.kind IR.Sort && e.out && not (yes? s.b))
    → g ≡ (same_ir (step_at ps n).kind IR.Sort && (around n ds).out && not (yes? (step_at ps n).b))
tests_read ps ds n s e p q g t =
    t ∙ ap (λ (x : Options). same_ir x.kind IR.Sort && e.out && not (yes? x.b)) p
    ∙ ap (λ (x : Around). same_ir (step_at ps n).kind IR.Sort && x.out && not (yes? (step_at ps n).b)) q

-- A visit that removes, and the choice between the two -----------------------------------------------------------------------------------

module _ (es : List Expr) (ps : List Step) (ds : List Edge) (n : ℕ) (tally : Tally) where
  -- g is what the code's test gives
  module _ (g : Bool) (tests : g ≡ (same_ir (step_at ps n).kind IR.Sort && (around n ds).out && not (yes? (step_at ps n).b))) (back removed : List ℕ) where
    pub goes_is : g ≡ goes n (state es ps ds back removed tally)
    unfolding goes around
    goes_is = tests

    pub goes_on : g ≡ false → simplify_ir_node_orders n (state es ps ds back removed tally) ≡ settle n (state es ps ds back removed tally)
    unfolding simplify_ir_node_orders
    goes_on h = rw (← goes_is, h)

    pub goes_away : g ≡ true → (ps₂ : List Step) (ds₂ : List Edge) (tally₂ : Tally) → tally₂ ≡ visit_more tally → Unlinked n ps ds ps₂ ds₂
        → simplify_ir_node_orders n (state es ps ds back removed tally) ≡ done (state es ps₂ ds₂ back (n ∷ removed) tally₂)
    unfolding simplify_ir_node_orders unlink_node
    goes_away h ps₂ ds₂ tally₂ one u = rw (← goes_is, h, u.steps, u.edges, one)

-- What the stages ask for, out of what a visit may lean on -------------------------------------------------------------------------------

pub listed_of : (n : ℕ) (r : Run) (e : Around) → e ≡ around n r.edges → Listed (looked_in n r)
    → Listed (looks_of (step_at r.steps n) e r.arena r.tally)
unfolding looked_in
listed_of n r e i l = rw i l

-- the looks add no visit
pub visit_fits : (s : Step) (e : Around) (es : List Expr) (t t' : Tally) → t' ≡ (looks_of s e es t).end.tally → t.visits + 1 < 2 ^ 64
    → t'.visits + 1 < 2 ^ 64
visit_fits s e es t t' i h = omega (arith, h, ap (λ (x : Tally). x.visits) i, looks_visits s e es t)

pub settle_asked : (n : ℕ) (r : Run) → Visitable n r → SettleAsks n r
unfolding looked_in looks_of
settle_asked n r v =
    record {
      aggs = v.aggs;
      listed =
          record {
            exprs = λ q m. le_trans (v.exprs q m) (longer_start (step_at r.steps n) r.arena);
            aggs = v.imploded;
            room = v.room;
            between = v.between;
            end = v.looks;
          };
      visits = v.visits;
    }

module _ (r : StoredRun) (ends : List ℕ) (i : ℕ) (v : Visitable i (run_of r ends [] [])) where
  pub here_is : i < r.steps.count
  here_is = omega (arith, v.step, length_steps r.steps.bytes r.steps.count)

  pub edges_held : EdgesHeld (steps_in r.steps) (edges_in ends r.edges)
  edges_held = record { there = v.consumers; slots = v.slots }

  pub unlinkable : T (goes i (run_of r ends [] [])) → Unlinkable (steps_in r.steps) i (edges_in ends r.edges)
  unlinkable t =
      record {
        step = v.step;
        reads = v.input t;
        unordered = true_of (Visit.out_edge i (edges_in ends r.edges)).unordered (goes_sort i (run_of r ends [] []) t).1;
      }
