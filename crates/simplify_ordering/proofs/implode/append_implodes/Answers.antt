use mathlib.Core.Path.{refl, ap, ◌∙◌}
use Prim.Native.Nat.{ℕ, ◌<◌}
use native.Mathlib.Omega.{arith}
use mathlib.Core.List.{List}
use lib.ListN.{length, get_or}
use Rattle.plan.specs.Sheet.{Expr, Step, step_at}
use Rattle.plan.specs.Visit.{implode}
use Rattle.storage.proofs.Laws.{length_steps, length_arena}
use Rattle.storage.specs.Steps.{with_agg}
use Rattle.storage.specs.Held.{arena_in, steps_in}
use Rattle.simplify_ordering.proofs.ImplodesLaws.{imploding_none, imploding_more, all_done, same_length, entry_is, room_for_one}
use Rattle.plan.proofs.Counts.{mem_at}
use Rattle.simplify_ordering.proofs.implode.append_implodes.Goals as goal

pub loop-k-init : goal.loop-k-init
loop-k-init c =
    let s = c.args.steps.now in
    (refl, imploding_none c.args.i _ _ _ refl (omega (arith, c.requires.step, length_steps s.bytes s.count)))

pub implode_agg-requires : goal.implode_agg-requires
implode_agg-requires c =
    let s = c.args.steps.now in
    let a = c.args.arena.now in
    let a' = c.loop-k.arena in
    let qs : List ℕ = (step_at (steps_in s) c.args.i).aggs in
    let items = c.as_slice-q-items.ensures ∙ c.aggs-aggs.ensures.is in
    let here : c.args.i < length (steps_in s) = omega (arith, c.requires.step, length_steps s.bytes s.count) in
    let more : c.loop-k.k < length qs = omega (arith, ap length items) in
    let at = ap (λ (l : List ℕ). get_or l c.loop-k.k 0) items in
    let so_far = c.loop-k.invariant.1 in
    record {
      step = omega (arith, c.loop-k.invariant.0, c.requires.step);
      entry = omega (arith, same_length c.args.i qs (arena_in a) _ refl here c.loop-k.k _ _ so_far, more);
      is_entry = at ∙ entry_is c.args.i qs (arena_in a) _ refl here c.loop-k.k _ _ so_far more;
      earlier = omega (arith, at, c.requires.earlier _ (mem_at qs c.loop-k.k 0 more), so_far.longer, length_arena a.records.bytes a.lines.holds a.lines.off a.records.count, length_arena a'.records.bytes a'.lines.holds a'.lines.off a'.records.count);
      room = rw at (room_for_one c.args.i qs (arena_in a) _ refl here c.loop-k.k _ _ so_far more c.requires.room);
    }

pub loop-k-preserved : goal.loop-k-preserved
loop-k-preserved c =
    let s = c.args.steps.now in
    let qs : List ℕ = (step_at (steps_in s) c.args.i).aggs in
    let items = c.as_slice-q-items.ensures ∙ c.aggs-aggs.ensures.is in
    let here : c.args.i < length (steps_in s) = omega (arith, c.requires.step, length_steps s.bytes s.count) in
    let more : c.loop-k.k < length qs = omega (arith, ap length items) in
    let at = ap (λ (l : List ℕ). get_or l c.loop-k.k 0) items in
    let es' : List Expr = arena_in c.loop-k.arena in
    let ps' : List Step = steps_in c.loop-k.steps in (
      c.implode_agg.ensures.count ∙ c.loop-k.invariant.0,
      imploding_more c.args.i qs _ _ refl here c.loop-k.k es' ps' c.loop-k.invariant.1 more _ _
          (c.implode_agg.ensures.arena ∙ ap (λ (q : ℕ). (implode q es').1) at)
          (c.implode_agg.ensures.steps ∙ ap (λ (q : ℕ). with_agg c.args.i c.loop-k.k (implode q es').0 ps') at),
    )

pub returns : goal.returns
returns c =
    let s = c.args.steps.now in
    let qs : List ℕ = (step_at (steps_in s) c.args.i).aggs in
    let items = c.as_slice-q-items.ensures ∙ c.aggs-aggs.ensures.is in
    let here : c.args.i < length (steps_in s) = omega (arith, c.requires.step, length_steps s.bytes s.count) in
    let both = all_done c.args.i qs _ _ refl here c.loop-k.k _ _ c.loop-k.invariant.1 (omega (arith, ap length items)) in
    record { arena = both.0; count = c.loop-k.invariant.0; steps = both.1 }
