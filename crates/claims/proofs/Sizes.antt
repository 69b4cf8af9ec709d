-- The sizes of the graph and of a run, and its count of visits.
use mathlib.Core.Path.{◌≡◌, ap, ◌∙◌}
use mathlib.Core.Logic.{inl, inr}
use Prim.Native.Nat.{ℕ, ◌+◌, ◌*◌, ◌≤◌}
use native.Mathlib.Omega.{arith}
use mathlib.Core.Bool.{Bool, true, false, ◌||◌, not}
use mathlib.Core.List.{List, [], ◌∷◌}
use lib.Dec.{T, ltb, nltb→le}
use lib.ListN.{length, length-append, length-map, length-set}
use Rattle.plan.specs.declared.ir.IR.{IR}
use Rattle.plan.specs.Kinds.{same_ir}
use Rattle.plan.specs.Lists.{all?, numbered, concat_map}
use Rattle.plan.specs.Sheet.{Step, Sheet, done, in_step_table, over_limits, expr_count}
use Rattle.plan.specs.Faults.{named}
use Rattle.plan.specs.Graph.{graph, sinks}
use Rattle.plan.specs.Visit.{Run, simplify_ir_node_orders, unlink_node, settled_by}
use Rattle.plan.proofs.ListLaws.{and_left, and_right}
use Rattle.claims.specs.WellFormed.{WellFormed}
use Rattle.claims.proofs.Walks.{two_ways}
use Rattle.claims.proofs.Visits.{visited, length_numbered, places_counted}
use Rattle.plan.proofs.Counts.{sum_ones, select_le}
use Rattle.claims.proofs.StepTable.{few_inputs}
use Rattle.claims.proofs.Merged.{merged, sinks_merged, fewer_named, ordered_graph}
use Rattle.claims.proofs.MergedPlan.{keyed_of}

-- The graph ---------------------------------------------------------------------------------------------------------------------------

pub few_sinks : (ps : List Step) → length (sinks ps) ≤ length ps
unfolding sinks
few_sinks ps = simp length-map (omega (arith, select_le (λ (n, s). same_ir s.kind IR.Sink) (numbered 0 ps), length_numbered 0 ps))

few_named : (ps : List Step) → T (all? in_step_table ps) → length (named ps) ≤ 8 * length ps
unfolding named concat_map all?
few_named [] t = omega arith
few_named (x ∷ ps) t =
    let first = few_inputs x (and_left (in_step_table x) (all? in_step_table ps) t) in
    simp length-append (omega (arith, few_named ps (and_right (in_step_table x) (all? in_step_table ps) t)))

module _ (sh : Sheet) (w : WellFormed sh) where
  abbrev ps : List Step
  ps = sh.steps

  pub few_steps : length ps ≤ 32
  unfolding over_limits
  few_steps = nltb→le 32 (length ps) (by (ltb 32 (length ps)) (ltb 128 (expr_count sh)) w.within_limits)
    where
      by : (a b : Bool) → T (not (a || b)) → T (not a)
      by true b t = t
      by false b t = tt

  -- a place for each root and each naming
  pub length_places : length (graph ps).0 ≡ length (sinks ps) + length (named (merged ps))
  length_places =
      let qs = merged ps in
      let e = (ordered_graph ps (keyed_of sh w).plan).placed_all (λ _. 1) in
      omega (arith, sum_ones (graph ps).0, sum_ones (sinks qs), sum_ones (named qs), ap length (sinks_merged ps), e)

  pub few_places : length (graph ps).0 ≤ 288
  few_places = omega (arith, length_places, few_steps, fewer_named ps, few_sinks ps, few_named ps w.steps_in_table)

  pub few_edges : length (graph ps).1 ≤ 256
  few_edges = omega (arith, length_places, fewer_named ps, places_counted ps, few_steps, few_named ps w.steps_in_table)

-- The runs ------------------------------------------------------------------------------------------------------------------------------

pub steps_kept : (n : ℕ) (r : Run) {r' : Run} → simplify_ir_node_orders n r ≡ done r' → length r'.steps ≡ length r.steps
unfolding unlink_node settled_by
steps_kept n r e =
    elim (two_ways n r e) [
      | inl w ↦ ap (λ (q : Run). length q.steps) w.1 ∙ simp length-set
      | inr w ↦ ap (λ (q : Run). length q.steps) w.1 ∙ simp length-set
    ]

pub edges_kept : (n : ℕ) (r : Run) {r' : Run} → simplify_ir_node_orders n r ≡ done r' → length r'.edges ≡ length r.edges
edges_kept n r e = (visited n r e).edges
