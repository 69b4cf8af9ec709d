-- The consumers of a run's edges: each edge keeps its consumer and its slot, and some edge is into a Sink, which no run removes.
use Rattle.std.specs.Prelude.{if◌then◌else◌}
use mathlib.Core.Path.{◌≡◌, refl, ap, sym, ◌∙◌, subst}
use Prim.Native.Nat.{ℕ, zero, suc, ◌≤◌, ◌<◌}
use native.Mathlib.Omega.{arith}
use mathlib.Core.Bool.{Bool, true, false, not}
use mathlib.Core.List.{List, [], ◌∷◌, Memᴰ}
use lib.Dec.{T, eqb→eq}
use lib.ListN.{length, get_or}
use Rattle.plan.specs.declared.ir.IR.{IR}
use Rattle.plan.specs.Kinds.{same_ir}
use Rattle.plan.specs.Lists.{times}
use Rattle.plan.specs.Sheet.{Step, Sheet, no_step, done, step_at, in_step_table, ◌then◌}
use Rattle.plan.specs.Graph.{Edge, build_ir_traversal_graph, graph, grow, is_cache, most_places, key, popped, sinks}
use Rattle.plan.specs.Visit.{Run, no_edge, simplify_ir_node_orders, is_into}
use Rattle.plan.specs.Walks.{begin, down, up, updated}
use Rattle.plan.specs.Finished.{run}
use Rattle.plan.proofs.Booleans.{all_at}
use Rattle.plan.proofs.Counts.{T_of, mem_at, some_counted, times_of, only}
use Rattle.plan.proofs.KindNumbers.{same_kind}
use Rattle.claims.specs.WellFormed.{Accepted}
use Rattle.claims.specs.Demand3.{IsSort}
use Rattle.claims.proofs.Demand1.{some_edge}
use Rattle.claims.proofs.Edges.{edge_at, three_ways, visit_edge}
use Rattle.claims.proofs.Ends.{ends_on}
use Rattle.claims.proofs.Every.{place_of}
use Rattle.claims.proofs.MergedPlan.{keyed_of, ordered_own}
use Rattle.claims.proofs.Plans.{plan_of, root_there, sinks_count}
use Rattle.claims.proofs.Removals.{removed_sort}
use Rattle.claims.proofs.Sizes.{edges_kept}
use Rattle.claims.proofs.StepTable.{sink_has_one_input}
use Rattle.claims.proofs.Taken.{well_formed}
use Rattle.claims.proofs.Walks.{walk_keeps}

-- Consumer and slot ---------------------------------------------------------------------------------------------------------------

pub record SamePlace (d d' : Edge) : Type 0 where
  pub consumer : d'.consumer ≡ d.consumer
  pub slot : d'.slot ≡ d.slot

-- the edges of a run are those that were made, es, each at its place
record Placed (es : List Edge) (r : Run) : Type 0 where
  long : length r.edges ≡ length es
  same : (k : ℕ) → k < length es → SamePlace (get_or es k no_edge) (edge_at k r)

placed_visit : (es : List Edge) (n : ℕ) (ns : List ℕ) (r r' : Run) → Placed es r → simplify_ir_node_orders n r ≡ done r' → Placed es r'
placed_visit es n ns r r' p e =
    record {
      long = edges_kept n r e ∙ p.long;
      same =
          λ k h.
          let At : Edge → Type 0 = SamePlace (get_or es k no_edge) in
          let same = p.same k h in
          visit_edge At n r e k (omega (arith, p.long, h))
          (λ from.
          three_ways n from At (edge_at k r) (λ t. record { consumer = same.consumer; slot = same.slot })
          (λ i t. record { consumer = same.consumer; slot = same.slot }) (λ i j. same))
          (λ l. record { consumer = same.consumer; slot = same.slot });
    }

module _ (s : List ℕ) (whole : Run) (runs : run s ≡ done whole) (sh : Sheet) (accepted : Accepted s sh) where
  abbrev made : List Edge
  made = (graph sh.steps).1

  placed : Placed made whole
  unfolding down up begin updated
  placed =
      let x = ends_on s sh whole accepted runs in
      let half = walk_keeps (λ _ q. Placed made q) (placed_visit made) (graph sh.steps).0 (begin sh)
      (record { long = refl; same = λ k h. record { consumer = refl; slot = refl } }) x.down_ends in
      let end = walk_keeps (λ _ q. Placed made q) (placed_visit made) x.half.back x.half half x.up_ends in
      let same : x.whole.edges ≡ whole.edges = sym (ap (λ (q : Run). q.edges) x.updates) in
      record {
        long = ap length (sym same) ∙ end.long;
        same = λ k h. subst (λ (l : List Edge). SamePlace (get_or made k no_edge) (get_or l k no_edge)) same (end.same k h);
      }

  pub edge_stays : (d : Edge) → Memᴰ d made → (d' : Edge) × Memᴰ d' whole.edges × SamePlace d d'
  edge_stays d m =
      let (k, h, e) = place_of made no_edge d m in (
        edge_at k whole,
        mem_at whole.edges k no_edge (omega (arith, placed.long, h)),
        subst (λ (x : Edge). SamePlace x (edge_at k whole)) e (placed.same k h),
      )

  -- Sorts that were removed -----------------------------------------------------------------------------------------------------------

  pub removed_are_sorts : (n : ℕ) → Memᴰ n whole.removed → IsSort sh n
  unfolding updated
  removed_are_sorts n m =
      let w = well_formed s sh accepted in
      let x = ends_on s sh whole accepted runs in
      removed_sort sh (keyed_of sh w) x.half x.down_ends x.whole x.up_ends n (subst (λ (q : Run). Memᴰ n q.removed) x.updates m)

-- A Sink's edge ----------------------------------------------------------------------------------------------------------------------

-- where no place waits, no edge is made
none_grown : (key : ℕ → ℕ) (f : ℕ) (ps : List Step) (met past : List ℕ) (es : List Edge) → (grow key f ps met past [] es).1 ≡ es
unfolding grow
none_grown key zero ps met past es = refl
none_grown key (suc f) ps met past es = refl

sink_there : (ps : List Step) → 1 ≤ length (graph ps).1 → (n : ℕ) × Memᴰ n (sinks ps)
unfolding graph build_ir_traversal_graph
sink_there ps h = by (sinks ps) refl
  where
    by : (l : List ℕ) → sinks ps ≡ l → (n : ℕ) × Memᴰ n (sinks ps)
    by [] e =
        let none : (graph ps).1 ≡ [] = ap (λ (l : List ℕ). (grow (key ps) (most_places ps) ps (popped ps) [] l []).1) e ∙ none_grown (key ps) (most_places ps) ps (popped ps) [] [] in
        absurd (omega (arith, h, ap length none))
    by (n ∷ l) e = (n, subst (λ (x : List ℕ). Memᴰ n x) (sym e) (Memᴰ.head refl))

-- An edge into a Sink is kept ------------------------------------------------------------------------------------------------------------

module _ (s : List ℕ) (whole : Run) (runs : run s ≡ done whole) (sh : Sheet) (accepted : Accepted s sh) where
  abbrev ps : List Step
  ps = sh.steps

  sink_kind : (n : ℕ) → Memᴰ n (sinks ps) → (step_at ps n).kind ≡ IR.Sink
  sink_kind n m = by (same_ir (step_at ps n).kind IR.Sink) refl (sinks_count ps n)
    where
      by : (b : Bool) → same_ir (step_at ps n).kind IR.Sink ≡ b → times n (sinks ps) ≡ (if b then 1 else 0) → (step_at ps n).kind ≡ IR.Sink
      by true e h = same_kind (step_at ps n).kind IR.Sink (T_of (same_ir (step_at ps n).kind IR.Sink) e)
      by false e h = absurd (omega (arith, h, times_of n (sinks ps) m))

  edge_into : (n : ℕ) → Memᴰ n (sinks ps) → (d : Edge) × Memᴰ d (graph ps).1 × T (is_into n d)
  edge_into n m =
      let w = well_formed s sh accepted in
      let plan = plan_of sh w in
      let g = ordered_own ps plan in
      let kind = sink_kind n m in
      let one = sink_has_one_input (step_at ps n) kind (all_at in_step_table ps no_step w.steps_in_table n (root_there ps plan n m)) in
      let no_cache : T (not (is_cache ps n)) = subst (λ (k : IR). T (not (same_ir k IR.Cache))) (sym kind) tt in
      some_counted (is_into n) (graph ps).1 (omega (arith, g.entering n no_cache one, g.placed_all (only n), times_of n (sinks ps) m))

  not_both_kinds : {k : IR} → k ≡ IR.Sink → k ≡ IR.Sort → ⊥
  not_both_kinds e f = cc

  pub some_consumer_stays : (d : Edge) × Memᴰ d whole.edges × (¬ Memᴰ d.consumer whole.removed)
  some_consumer_stays =
      let (n, m) = sink_there ps (omega (arith, (placed s whole runs sh accepted).long, some_edge s whole runs)) in
      let (d, i, t) = edge_into n m in
      let (d', j, same) = edge_stays s whole runs sh accepted d i in
      let is : d'.consumer ≡ n = same.consumer ∙ eqb→eq d.consumer n t in (
        d',
        j,
        λ r.
            let sort = removed_are_sorts s whole runs sh accepted d'.consumer r in
            not_both_kinds (sink_kind n m) (ap (λ (x : ℕ). (step_at ps x).kind) (sym is) ∙ sort),
      )
