-- The limits of a run, at every visit: arena, steps, edges, visits and looks.
use Rattle.std.specs.Prelude.{if◌then◌else◌}
use mathlib.Core.Path.{◌≡◌, refl, subst, sym}
use mathlib.Core.Logic.{inl, inr}
use Prim.Native.Nat.{ℕ, zero, suc, ◌+◌, ◌*◌, ◌≤◌, ◌^◌}
use native.Mathlib.Omega.{arith}
use native.Mathlib.Nat.{le_refl, mul-le-mul, add-le-add}
use mathlib.Core.Bool.{Bool, true, false, ◌||◌, not}
use mathlib.Core.List.{List, ◌∷◌}
use lib.Dec.{T, ltb, nltb→le}
use lib.ListN.{length, get_or, length-set, length-map}
use Rattle.plan.specs.declared.ir.IR.{IR}
use Rattle.plan.specs.Kinds.{same_ir}
use Rattle.plan.specs.Lists.{sum}
use Rattle.plan.specs.Sheet.{Expr, Step, Sheet, done, no_step, expr_at, step_at, expr_count, over_limits}
use Rattle.plan.specs.Graph.{graph}
use Rattle.plan.specs.Visit.{Run, simplify_ir_node_orders, unlink_node, looked_in, looks_of, out_edge, with_input, ruling_of, settled_by}
use Rattle.plan.proofs.Settling.{settled}
use Rattle.plan.specs.Walks.{begin, down, up}
use Rattle.claims.specs.WellFormed.{WellFormed}
use Rattle.plan.specs.Conditions.{Down, Up}
use Rattle.claims.specs.Demand3.{records}
use Rattle.claims.specs.Limits.{VisitLimits}
use Rattle.claims.proofs.Walks.{two_ways, walk_keeps, trace_keeps}
use Rattle.claims.proofs.Visits.{walked}
use Rattle.claims.proofs.Sizes.{few_steps, few_places, few_edges}
use Rattle.plan.proofs.Counts.{sum_le, sum_ones}
use Rattle.claims.proofs.Sums.{sum_set, sum_below}
use Rattle.claims.proofs.Loads.{size_records}
use Rattle.claims.proofs.Changes.{earlier_of, changed_length}
use Rattle.claims.proofs.Implodes.{not_scalar, still_to_append}
use Rattle.claims.proofs.VisitsKept.{visit_visits}
use Rattle.claims.proofs.LooksBounded.{sound_begin, sound_settled, sound_unlinked}
use Rattle.claims.proofs.VisitLooks.{Sound, exprs_spent, looks_change, once_exprs, once_aggs, looks_bounded_in}
use Rattle.claims.proofs.ArenaLimit.{room_settled}

-- Looks of a visit -------------------------------------------------------------------------------------------------------------

pub below_ones : (n : ℕ) → sum_below (λ _. 1) n ≡ n
unfolding sum_below
below_ones zero = refl
below_ones (suc n) = omega (arith, below_ones n)

-- 128 × (128 + 5) ÷ 2 of a list
few_of_128 : (n before after : ℕ) → n ≤ 128 → 2 * after ≤ 2 * before + n * (n + 5) → after ≤ before + 8512
few_of_128 n before after h k = omega (arith, mul-le-mul h (add-le-add h (le_refl 5)))

module _ (r : Run) (sound : Sound r) (n : ℕ) where
  pub end_length : length (looked_in n r).end.expr_arena ≡ length (looked_in n r).start.expr_arena
  end_length = changed_length (looks_change r sound n)

  looks_of_visit : length (looked_in n r).end.expr_arena ≤ 128 → (looked_in n r).end.tally.looks ≤ r.tally.looks + 17024
  unfolding looked_in looks_of
  looks_of_visit h =
      let l = looked_in n r in
      let bounded = looks_bounded_in r sound n in
      let n₁ = length (records l.start.expr_arena l.step.exprs) in
      let n₂ = length (records l.between.expr_arena l.step.aggs) in
      let k₁ : n₁ ≤ 128 =
      omega (
        arith,
        size_records l.start.expr_arena l.step.exprs,
        once_exprs r sound n (λ _. 1),
        below_ones (length l.start.expr_arena),
        end_length,
      ) in
      let k₂ : n₂ ≤ 128 =
      omega (
        arith,
        size_records l.between.expr_arena l.step.aggs,
        once_aggs r sound n (λ _. 1),
        below_ones (length l.between.expr_arena),
        changed_length (exprs_spent r sound n).goes.changes,
        end_length,
      ) in
      omega (
        arith,
        few_of_128 n₁ l.start.tally.looks l.between.tally.looks k₁ bounded.exprs.few,
        few_of_128 n₂ l.between.tally.looks l.end.tally.looks k₂ bounded.aggs.few,
      )

-- The run ----------------------------------------------------------------------------------------------------------------------

-- with `left` visits still to come, of at most `most`
pub record Within (most left : ℕ) (r : Run) : Type 0 where
  pub sound : Sound r
  pub room : length r.arena + sum (still_to_append r.arena) r.steps ≤ 128
  pub steps : length r.steps ≤ 32
  pub edges : length r.edges ≤ 256
  pub visits : r.tally.visits + left ≤ most
  pub looks : r.tally.looks ≤ 17024 * r.tally.visits

module _ {most left : ℕ} (r : Run) (k : Within most (suc left) r) (n : ℕ) where
  within_unlinked : Within most left (unlink_node n r)
  unfolding unlink_node
  within_unlinked =
      let c = (out_edge n r.edges).consumer in
      record {
        sound = sound_unlinked r k.sound n;
        room = omega (arith, k.room, sum_set (still_to_append r.arena) r.steps no_step c (with_input (out_edge n r.edges).slot (get_or (step_at r.steps n).inputs 0 0) (step_at r.steps c)));
        steps = simp length-set k.steps;
        edges = simp length-map k.edges;
        visits = omega (arith, k.visits);
        looks = omega (arith, k.looks);
      }

  pub end_within : length (looked_in n r).end.expr_arena ≤ 128
  end_within = omega (arith, room_settled r k.sound n, k.room)

  within_settled : Within most left (settled n r)
  unfolding settled_by looked_in ruling_of
  within_settled =
      record {
        sound = sound_settled r k.sound n;
        room = omega (arith, room_settled r k.sound n, k.room);
        steps = simp length-set k.steps;
        edges = simp length-map k.edges;
        visits = omega (arith, k.visits, visit_visits n r);
        looks = omega (arith, k.looks, visit_visits n r, looks_of_visit r k.sound n end_within);
      }

  pub visit_limits : most ≤ 2 ^ 32 → VisitLimits n r
  unfolding settled_by looked_in
  visit_limits h =
      record {
        before =
            record {
              exprs = omega (arith, k.room);
              earlier = earlier_of r.arena k.sound.formed;
              steps = k.steps;
              edges = k.edges;
              visits = omega (arith, k.visits);
              looks = omega (arith, k.looks, k.visits);
            };
        exprs = end_within;
        earlier = earlier_of (looked_in n r).end.expr_arena (sound_settled r k.sound n).formed;
        looks = omega (arith, k.looks, k.visits, looks_of_visit r k.sound n end_within);
      }

pub within_visit : (most n : ℕ) (ns : List ℕ) (r r' : Run) → Within most (length (n ∷ ns)) r → simplify_ir_node_orders n r ≡ done r' → Within most (length ns) r'
within_visit most n ns r r' k e =
    elim (two_ways n r e) [
      | inl (_, i) ↦ subst (Within most (length ns)) (sym i) (within_unlinked r k n)
      | inr (_, i) ↦ subst (Within most (length ns)) (sym i) (within_settled r k n)
    ]

-- Every accepted sheet -------------------------------------------------------------------------------------------------------

-- the Implodes that may be appended are no more than the agg entries
few_implodes : (es : List Expr) (s : Step) → still_to_append es s ≤ (if same_ir s.kind IR.GroupBy then length s.aggs else 0)
few_implodes es s = by (same_ir s.kind IR.GroupBy)
  where
    at_most_one : (b : Bool) → (if b then 0 else 1) ≤ 1
    at_most_one true = omega arith
    at_most_one false = omega arith

    by : (b : Bool) → (if b then sum (not_scalar es) s.aggs else 0) ≤ (if b then length s.aggs else 0)
    by true = omega (arith, sum_le (not_scalar es) (λ _. 1) s.aggs (λ q _. at_most_one (expr_at es q).scalar), sum_ones s.aggs)
    by false = omega arith

neither : (a b : Bool) → T (not (a || b)) → T (not a) × T (not b)
neither true b t = absurd t
neither false b t = (tt, t)

few_exprs : (sh : Sheet) → WellFormed sh → expr_count sh ≤ 128
unfolding over_limits
few_exprs sh wf = nltb→le 128 (expr_count sh) (neither (ltb 32 (length sh.steps)) (ltb 128 (expr_count sh)) wf.within_limits).1

module _ (sh : Sheet) (wf : WellFormed sh) where
  pub within_begin : Within 288 (length (graph sh.steps).0) (begin sh)
  unfolding begin expr_count
  within_begin =
      record {
        sound = sound_begin sh wf;
        room = omega (arith, few_exprs sh wf, sum_le (still_to_append sh.exprs) _ sh.steps (λ s _. few_implodes sh.exprs s));
        steps = few_steps sh wf;
        edges = few_edges sh wf;
        visits = omega (arith, few_places sh wf);
        looks = omega arith;
      }

  pub within_half : (half : Run) → down sh ≡ done half → Within 576 (length half.back) half
  unfolding down begin
  within_half half e =
      let k = walk_keeps (λ ns r. Within 288 (length ns) r) (within_visit 288) (graph sh.steps).0 (begin sh) within_begin e in
      let t = walked (graph sh.steps).0 (begin sh) e in
      record {
        sound = k.sound;
        room = k.room;
        steps = k.steps;
        edges = k.edges;
        visits = omega (arith, k.visits, t.back, few_places sh wf);
        looks = k.looks;
      }

  pub limits_down : (n : ℕ) (r : Run) → Down sh n r → VisitLimits n r
  limits_down n r m =
      let (_, k) = trace_keeps (λ ns r. Within 288 (length ns) r) (within_visit 288) (graph sh.steps).0 (begin sh) within_begin n r m in
      visit_limits r k n (omega arith)

  pub limits_up : (half : Run) → down sh ≡ done half → (n : ℕ) (r : Run) → Up half n r → VisitLimits n r
  limits_up half e n r m =
      let (_, k) = trace_keeps (λ ns r. Within 576 (length ns) r) (within_visit 576) half.back half (within_half half e) n r m in
      visit_limits r k n (omega arith)

  -- when the walks have ended
  pub within_whole : (half whole : Run) → down sh ≡ done half → up half ≡ done whole → Within 576 0 whole
  unfolding up
  within_whole half whole e₁ e₂ = walk_keeps (λ ns r. Within 576 (length ns) r) (within_visit 576) half.back half (within_half half e₁) e₂
