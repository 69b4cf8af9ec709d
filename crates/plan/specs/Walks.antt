-- simplify_and_fetch_orderings of mod.rs: the downward and the upward walk, then update_cache_nodes.
use Rattle.std.specs.Prelude.{ℕ, List, [], ◌∷◌}
use Rattle.plan.specs.Sheet.{Sheet, Outcome, refused, done, ◌then◌}
use Rattle.plan.specs.Graph.{key, graph, update_cache_nodes}
use Rattle.plan.specs.Visit.{Run, simplify_ir_node_orders}

-- what follows where there is something to go on with; nothing after a refusal
abbrev pub then_all : {A B : Type 0} → Outcome A → (A → List B) → List B
then_all (refused k) f = []
then_all (done x) f = f x

-- A walk along places, whatever a visit does
module _ (visit : ℕ → Run → Outcome Run) where
  unfoldable pub walk_by : List ℕ → Run → Outcome Run
  walk_by [] r = done r
  walk_by (n ∷ ns) r = visit n r then λ r'. walk_by ns r'

  -- its visits, one that is refused included: the step, and the state in which it is visited
  unfoldable pub trace_by : List ℕ → Run → List (ℕ × Run)
  trace_by [] r = []
  trace_by (n ∷ ns) r = (n, r) ∷ then_all (visit n r) (λ r'. trace_by ns r')

-- A visit is simplify_ir_node_orders
abbrev pub walk : List ℕ → Run → Outcome Run
walk = walk_by simplify_ir_node_orders

abbrev pub trace : List ℕ → Run → List (ℕ × Run)
trace = trace_by simplify_ir_node_orders

unfoldable pub begin : Sheet → Run
begin sh =
    record {
      arena = sh.exprs;
      steps = sh.steps;
      edges = (graph sh.steps).1;
      back = [];
      removed = [];
      tally = record { visits = 0; looks = 0 };
    }

-- along the visiting list
unfoldable pub down : Sheet → Outcome Run
down sh = walk (graph sh.steps).0 (begin sh)

-- back over it, but for the sorts removed on the way down
unfoldable pub up : Run → Outcome Run
up r = walk r.back r

-- cache_updater.update_cache_nodes
unfoldable pub updated : Sheet → Run → Run
updated sh r =
    record {
      arena = r.arena;
      steps = update_cache_nodes (key sh.steps) r.steps;
      edges = r.edges;
      back = r.back;
      removed = r.removed;
      tally = r.tally;
    }

unfoldable pub simplify_and_fetch_orderings : Sheet → Outcome Run
simplify_and_fetch_orderings sh = down sh then up then λ r. done (updated sh r)
