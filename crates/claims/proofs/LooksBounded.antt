-- Demand 3, looks: at every visit of both walks.
use mathlib.Core.Path.{◌≡◌, refl, ap, sym, subst}
use mathlib.Core.Logic.{inl, inr}
use Prim.Native.Nat.{ℕ}
use native.Mathlib.Omega.{arith}
use native.Mathlib.Nat.{le_refl}
use mathlib.Core.List.{List}
use lib.ListN.{length, set}
use Rattle.plan.specs.Lists.{sum}
use Rattle.plan.specs.Sheet.{Step, Sheet, done, no_step, step_at}
use Rattle.plan.specs.Graph.{graph}
use Rattle.plan.specs.Visit.{Run, simplify_ir_node_orders, unlink_node, looked_in, out_edge, ruling_of, settled_by}
use Rattle.plan.proofs.Settling.{settled, ruled_step}
use Rattle.plan.specs.Walks.{begin, down}
use Rattle.claims.specs.WellFormed.{Accepted, WellFormed}
use Rattle.plan.specs.Conditions.{Down, Up}
use Rattle.claims.specs.Demand3.{LooksBounded}
use Rattle.claims.proofs.Taken.{well_formed}
use Rattle.claims.proofs.Walks.{two_ways, walk_keeps, trace_keeps}
use Rattle.plan.proofs.Counts.{sum_eq, sum_le}
use Rattle.claims.proofs.Sums.{sum_set, sum_set_le, sum_below}
use Rattle.claims.proofs.Loads.{load}
use Rattle.claims.proofs.Changes.{changed_formed, changed_length, changed_loads}
use Rattle.claims.proofs.Implodes.{Inside, old_loads}
use Rattle.claims.proofs.Once.{entries, step_load, Once, formed_at_start, once_at_start}
use Rattle.claims.proofs.VisitLooks.{Sound, no_load, inside_of_step, inside_of_member, imploded_start, loads_start, looks_change, looks_bounded_in}

module _ (r : Run) (sound : Sound r) where
  -- another step at n, with no more entries than the one there
  unlinked_once : (n : ℕ) (s : Step) → entries s ≡ entries (step_at r.steps n) → Once r.arena (set r.steps n s)
  unlinked_once n s i w =
      let f = step_load w r.arena in
      omega (arith, sound.once w, sum_set f r.steps no_step n s, no_load w r.arena, ap (sum (load w r.arena)) i)

  pub sound_unlinked : (n : ℕ) → Sound (unlink_node n r)
  unfolding unlink_node
  sound_unlinked n = record { formed = sound.formed; once = unlinked_once (out_edge n r.edges).consumer _ refl }

  -- as the looks of a visit begin
  pub once_started : (n : ℕ) → let l = looked_in n r in Once l.start.expr_arena (set r.steps n l.step)
  once_started n w =
      let s = step_at r.steps n in
      let es = r.arena in
      let l = looked_in n r in
      let es' = l.start.expr_arena in
      let i = imploded_start r sound n in
      let same : (x : Step) → Inside (entries x) es → step_load w es' x ≡ step_load w es x =
      λ x inside. old_loads (length es) es es' sound.formed i.formed i.old w (entries x) inside in
      omega (
        arith,
        sum_set (step_load w es') r.steps no_step n l.step,
        no_load w es',
        sum_eq (step_load w es') (step_load w es) r.steps (λ x m. same x (inside_of_member r sound x m)),
        same s (inside_of_step r sound n),
        loads_start r sound n w,
        sound.once w,
      )

  once_settled : (n : ℕ) → Once (looked_in n r).end.expr_arena (set r.steps n (ruled_step n r))
  unfolding ruling_of
  once_settled n w =
      let l = looked_in n r in
      let es' = l.start.expr_arena in
      let s' = ruled_step n r in
      let c = looks_change r sound n in
      omega (
        arith,
        sum_le (step_load w l.end.expr_arena) (step_load w es') (set r.steps n s')
            (λ x _. changed_loads c (imploded_start r sound n).formed w (entries x)),
        sum_set_le (step_load w es') r.steps n s' l.step
            (le_refl _),
        once_started n w,
        ap (sum_below w) (changed_length c),
      )

  pub sound_settled : (n : ℕ) → Sound (settled n r)
  unfolding settled_by looked_in ruling_of
  sound_settled n = record { formed = changed_formed (looks_change r sound n) (imploded_start r sound n).formed; once = once_settled n }

pub sound_visit : (n : ℕ) (ns : List ℕ) (r r' : Run) → Sound r → simplify_ir_node_orders n r ≡ done r' → Sound r'
sound_visit n ns r r' sound e =
    elim (two_ways n r e) [
      | inl (_, i) ↦ subst Sound (sym i) (sound_unlinked r sound n)
      | inr (_, i) ↦ subst Sound (sym i) (sound_settled r sound n)
    ]

-- Every accepted sheet -------------------------------------------------------------------------------------------------------

module _ (sh : Sheet) (wf : WellFormed sh) where
  pub sound_begin : Sound (begin sh)
  unfolding begin
  sound_begin = record { formed = formed_at_start sh wf; once = once_at_start sh wf }

  pub sound_down : (n : ℕ) (r : Run) → Down sh n r → Sound r
  sound_down n r m = (trace_keeps (λ _ r. Sound r) sound_visit (graph sh.steps).0 (begin sh) sound_begin n r m).1

  pub sound_half : (half : Run) → down sh ≡ done half → Sound half
  unfolding down
  sound_half half e = walk_keeps (λ _ r. Sound r) sound_visit (graph sh.steps).0 (begin sh) sound_begin e

  pub sound_up : (half : Run) → down sh ≡ done half → (n : ℕ) (r : Run) → Up half n r → Sound r
  sound_up half e n r m = (trace_keeps (λ _ r. Sound r) sound_visit half.back half (sound_half half e) n r m).1

pub looks_down : (s : List ℕ) (sh : Sheet) → Accepted s sh → (n : ℕ) (r : Run) → Down sh n r → LooksBounded n r
looks_down s sh a n r m = looks_bounded_in r (sound_down sh (well_formed s sh a) n r m) n

pub looks_up : (s : List ℕ) (sh : Sheet) → Accepted s sh → (half : Run) → down sh ≡ done half → (n : ℕ) (r : Run) → Up half n r
    → LooksBounded n r
looks_up s sh a half e n r m = looks_bounded_in r (sound_up sh (well_formed s sh a) half e n r m) n
