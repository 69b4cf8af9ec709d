-- What a visit asks and gives.
use Rattle.std.specs.Prelude.{◌≡◌, ℕ, ◌+◌, ◌<◌, ◌^◌, length, set, Result, Ok, Err}
use mathlib.Core.List.{List, ◌∷◌, map, Memᴰ}
use Rattle.plan.specs.declared.refusal.Refusal.{Refusal}
use Rattle.plan.specs.Refusals as refusals
use Rattle.plan.specs.declared.rules.Observable.{Observable}
use Rattle.plan.specs.FunctionIR.{rust_functions}
use Rattle.plan.specs.Sheet.{Step, Outcome, refused, done, step_at}
use Rattle.plan.specs.Graph.{Edge}
use Rattle.plan.specs.Visit.{Run, around, options_of, with_options, rule, loosened, looked_in}
use Rattle.node_rules.specs.Held.{InRun}
use Rattle.simplify_ordering.specs.declared.run.StoredRun.{StoredRun}
use Rattle.simplify_ordering.specs.declared.visit.Found.{Found}
use Rattle.simplify_ordering.specs.declared.visit.Visited.{Visited}
use Rattle.storage.specs.Held.{steps_in, edges_in}
use Rattle.simplify_ordering.specs.Looks.{Listed}

-- a run has as many steps and edges as before
abbrev pub SameSize : StoredRun → StoredRun → Type 0
SameSize r r' = (r'.steps.count ≡ r.steps.count) × (r'.edges.count ≡ r.edges.count)

-- A step as a visit finds it ---------------------------------------------------------------------------------------------------------

pub record Finds (ends : List ℕ) (r : StoredRun) (v : Found) : Type 0 where
  pub there : v.ins.of < r.steps.count
  pub options_are : v.options ≡ options_of (step_at (steps_in r.steps) v.ins.of)
  pub run : InRun ends r.edges.count v.ins
  pub around_is : v.around ≡ around v.ins.of (edges_in ends r.edges)

-- A step settled by its rule, its looks made ---------------------------------------------------------------------------------------

-- ps and ds are the steps and the edges before, ps' and ds' those after
pub record RuledBy (v : Found) (o : Observable) (ps : List Step) (ds : List Edge) (ps' : List Step) (ds' : List Edge) : Type 0 where
  pub steps : ps' ≡ set ps v.ins.of (with_options (rule rust_functions v.options v.around o).options (step_at ps v.ins.of))
  pub edges : ds' ≡ map (loosened v.ins.of (rule rust_functions v.options v.around o).loosened) ds

-- The answer of a visit ---------------------------------------------------------------------------------------------------------------

-- what comes of the visit to n: the state after it, from the two lists
abbrev pub visited_of : Result Visited Refusal → ℕ → (List ℕ → List ℕ → Run) → List ℕ → List ℕ → Outcome Run
visited_of (Ok Visited.Settled) n after back removed = done (after (n ∷ back) removed)
visited_of (Ok Visited.Removed) n after back removed = done (after back (n ∷ removed))
visited_of (Err e) n after back removed = refused (refusals.refusal_number e)

-- what a visit to n that is refused leaves: its looks are made, and no visit is counted
abbrev pub stopped_at : ℕ → Run → Run
stopped_at n r =
    let l = looked_in n r in
    record {
      arena = l.end.expr_arena;
      steps = set r.steps n l.step;
      edges = r.edges;
      back = r.back;
      removed = r.removed;
      tally = l.end.tally;
    }

abbrev pub StopsAt : {A : Type 0} → Result A Refusal → Run → Run → Type 0
StopsAt (Ok x) stop after = Unit
StopsAt (Err e) stop after = stop ≡ after

-- a visit to n, or the settling of n, against the definition's. `before` and `after` give the run from the two lists that the code does
-- not hold
pub record Comes (visit : ℕ → Run → Outcome Run) (n : ℕ) (before after : List ℕ → List ℕ → Run) (v : Result Visited Refusal) : Type 0 where
  pub outcome : (back removed : List ℕ) → visit n (before back removed) ≡ visited_of v n after back removed
  pub stop : (back removed : List ℕ) → StopsAt v (stopped_at n (before back removed)) (after back removed)

-- What the settling of step n leans on
pub record SettleAsks (n : ℕ) (r : Run) : Type 0 where
  pub aggs : (q : ℕ) → Memᴰ q (step_at r.steps n).aggs → q < length r.arena
  pub listed : Listed (looked_in n r)
  pub visits : r.tally.visits + 1 < 2 ^ 64
