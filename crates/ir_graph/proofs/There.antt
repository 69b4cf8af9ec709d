-- The places, and the ends of the edges, are lines of the sheet.
use Rattle.std.specs.Prelude.{if◌then◌else◌}
use mathlib.Core.Path.{◌≡◌, sym, ap, ◌∙◌, subst}
use Prim.Native.Nat.{ℕ, zero, suc, ◌+◌, ◌≤◌, ◌<◌}
use native.Mathlib.Omega.{arith}
use mathlib.Core.Bool.{Bool, true, false}
use mathlib.Core.List.{List, Memᴰ}
use mathlib.Core.Option.{Option, none, some}
use lib.Dec.{eqb}
use lib.ListN.{length, get_or}
use Rattle.plan.specs.Lists.{times}
use Rattle.plan.specs.Sheet.{Step, no_step, step_at}
use Rattle.plan.specs.Faults.{named}
use Rattle.plan.specs.Graph.{graph, sinks}
use Rattle.plan.specs.Visit.{no_edge}
use Rattle.storage.proofs.Laws.{table_at}
use Rattle.plan.proofs.Counts.{mem_at, mem_concat, times_of, stands_in, only}
use Rattle.claims.proofs.Edges.{same_some}
use Rattle.claims.proofs.StepTable.{has_inputs}
use Rattle.claims.specs.Plan.{Plan}
use Rattle.claims.proofs.Plans.{root_there, input_there}
use Rattle.claims.proofs.MergedPlan.{ordered_own}
use Rattle.storage.specs.Edges.{producer_of, stored_edge, stored_edges}
use Rattle.ir_graph.proofs.Linking.{length_edges}

pub edge_there : (ends edges : List ℕ) (n k : ℕ) → k < n → get_or (stored_edges ends edges n) k no_edge ≡ stored_edge ends edges k
unfolding stored_edges
edge_there ends edges n k h = table_at (stored_edge ends edges) n k no_edge h

produced : (x y : ℕ) → producer_of x ≡ some y → x ≡ y
produced x y = by (eqb x 255)
  where
    by : (b : Bool) → ◌≡◌ {A = Option ℕ} (if b then none else some x) (some y) → x ≡ y
    by true e = let z : ◌≡◌ {A = ℕ} 0 1 = cc in absurd (omega arith)
    by false e = same_some e

module _ (ps : List Step) (ends edges : List ℕ) (n : ℕ) (same : stored_edges ends edges n ≡ (graph ps).1) where
  pub length_graph : length (graph ps).1 ≡ n
  length_graph = ap length (sym same) ∙ length_edges ends edges n

  pub edge_at : (k : ℕ) → k < n → get_or (graph ps).1 k no_edge ≡ stored_edge ends edges k
  edge_at k h = rw (← same) (edge_there ends edges n k h)

  module _ (plan : Plan ps) (k : ℕ) (h : k < n) where
    abbrev inputs : List ℕ
    inputs = (step_at ps (get_or ends k 0)).inputs

    -- an edge comes from the input that its slot names
    from_input : (get_or ends (256 + k) 0 < length inputs) × (producer_of (get_or edges k 0) ≡ some (get_or inputs (get_or ends (256 + k) 0) 0))
    unfolding stored_edge
    from_input = rw (edge_at k h) at ((ordered_own ps plan).made (get_or (graph ps).1 k no_edge) (mem_at (graph ps).1 k no_edge (omega (arith, length_graph))))

    pub slot_there : get_or ends (256 + k) 0 < length inputs
    slot_there = from_input.0

    pub consumer_there : get_or ends k 0 < length ps
    consumer_there = has_inputs ps (get_or ends k 0) (omega (arith, slot_there))

    pub producer_there : get_or edges k 0 < length ps
    producer_there =
        let m = get_or inputs (get_or ends (256 + k) 0) 0 in
        rw (produced (get_or edges k 0) m from_input.1) (input_there ps plan (get_or ends k 0) m (mem_at inputs (get_or ends (256 + k) 0) 0 slot_there))

module _ (ps : List Step) (plan : Plan ps) where
  -- a root or an input
  line_there : (m : ℕ) → 1 ≤ times m (sinks ps) + times m (named ps) → m < length ps
  unfolding named
  line_there m h = by (times m (sinks ps)) (λ l. root_there ps plan m (stands_in m (sinks ps) l)) h
    where
      by : (x : ℕ) → (1 ≤ x → m < length ps) → 1 ≤ x + times m (named ps) → m < length ps
      by zero f h =
          let (i, l, j) = mem_concat (λ (s : Step). s.inputs) ps no_step m (stands_in m (named ps) (omega arith)) in
          input_there ps plan i m j
      by (suc x) f h = f (omega arith)

  pub place_there : (places : List ℕ) → places ≡ (graph ps).0 → (k : ℕ) → k < length places → get_or places k 0 < length ps
  place_there places e k h =
      let m = get_or places k 0 in
      line_there m (omega (arith, times_of m (graph ps).0 (subst (Memᴰ m) e (mem_at places k 0 h)), (ordered_own ps plan).placed_all (only m)))
