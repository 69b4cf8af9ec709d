-- The cycle `look`, `look_again`, `look_along`: each way through it is a law of Ways or Children.
use native.Mathlib.Omega.{arith}
use native.Mathlib.Nat.{le_trans}
use borrow.Author.Rules.{rules}
use mathlib.Core.Path.{refl, ap, ◌∙◌}
use Rattle.expr.specs.Eos.{Own}
use Rattle.expr.proofs.States.{holds}
use Rattle.expr.proofs.Ways.{count_fits, e_reach, e_readable, gives_hit, child_128, copy_kept, copy_falls, copy_asks, gives_copy, along_asks, again_falls, again_asks, gives_whole, gives_twice, gives_once}
use Rattle.expr.proofs.Leaves.{gives_leaf}
use Rattle.expr.proofs.Children.{reached_none, along_gives, child_falls, child_asks, reached_more}
use Rattle.expr.proofs.look.+look_look_again_look_along.Goals as goal

pub look-looked-t-requires : goal.look-looked-t-requires
look-looked-t-requires t c = search (rules, count_fits _ _ _ _ _ (holds c.args.arena.now c.requires.cached) c.requires)

pub look-returns-in-Some-clause-looked : goal.look-returns-in-Some-clause-looked
look-returns-in-Some-clause-looked t c =
    let field = c.field-field.ensures ∙ ap (λ (w : Own). w.field) c.looked-t.ensures in
    let answer = rw (field, c.of_number.ensures) at c.in-Some.ensures in
    rw (c.with_answer.ensures, c.looked-t.ensures) (gives_leaf _ _ _ _ _ (holds c.args.arena.now c.requires.cached) c.requires c.if-base-at-eq0.true _ answer)

pub look-returns-in-Some-hit-clause-looked : goal.look-returns-in-Some-hit-clause-looked
look-returns-in-Some-hit-clause-looked t c =
    rw (c.with_answer-in-Some-hit.ensures, c.looked-t.ensures) (gives_hit _ _ _ _ _ (holds c.args.arena.now c.requires.cached) c.requires _ c.expr-e.ensures _ c.before_of-b.ensures _ c.pick-hit.ensures _ c.in-Some-hit.is)

pub look-is_replaced-requires : goal.look-is_replaced-requires
look-is_replaced-requires t c = (c.expr-e.ensures.shaped, e_readable _ _ _ _ _ (holds c.args.arena.now c.requires.cached) c.requires _ c.expr-e.ensures)

pub look-bounds-found-c : goal.look-bounds-found-c
look-bounds-found-c t c =
    child_128 _ _ _ _ _ (holds c.args.arena.now c.requires.cached) c.requires _ c.expr-e.ensures _ c.before_of-b.ensures _ c.pick-hit.ensures c.in_default-hit.is _ c.is_replaced.ensures c.if-is_replaced.true _ c.first-c.ensures

pub look-bounds-found-c-then-is_replaced : goal.look-bounds-found-c-then-is_replaced
look-bounds-found-c-then-is_replaced t c =
    child_128 _ _ _ _ _ (holds c.args.arena.now c.requires.cached) c.requires _ c.expr-e.ensures _ c.before_of-b.ensures _ c.pick-hit.ensures c.in_default-hit.is _ c.is_replaced.ensures c.if-is_replaced.true _ c.first-c.ensures

pub look-invariant_of-arena : goal.look-invariant_of-arena
look-invariant_of-arena t c =
    let kept = copy_kept _ _ _ _ _ (holds c.args.arena.now c.requires.cached) c.requires _ c.expr-e.ensures _ c.before_of-b.ensures _ c.pick-hit.ensures c.in_default-hit.is _ c.is_replaced.ensures c.if-is_replaced.true _ c.first-c.ensures in
    record { below = λ q h. le_trans (kept.lower q) (c.args.arena.now.below q h) }

pub look-invariant_of-arena-2 : goal.look-invariant_of-arena-2
look-invariant_of-arena-2 t c =
    record { below = λ q h. le_trans (c.look_ended.ensures.kept.lower q) (c.look_again-u.new.arena.below q h) }

pub look-look-requires : goal.look-look-requires
look-look-requires t c =
    let falls = c.decreases in (
      omega (arith, falls, copy_falls _ _ _ _ _ (holds c.args.arena.now c.requires.cached) c.requires _ c.expr-e.ensures _ c.before_of-b.ensures _ c.pick-hit.ensures c.in_default-hit.is _ c.is_replaced.ensures c.if-is_replaced.true _ c.first-c.ensures),
      rw c.looked-t.ensures (copy_asks _ _ _ _ _ (holds c.args.arena.now c.requires.cached) c.requires _ c.expr-e.ensures _ c.before_of-b.ensures _ c.pick-hit.ensures c.in_default-hit.is _ c.is_replaced.ensures c.if-is_replaced.true _ c.first-c.ensures),
    )

pub look-returns-then-is_replaced-clause-looked : goal.look-returns-then-is_replaced-clause-looked
look-returns-then-is_replaced-clause-looked t c =
    gives_copy _ _ _ _ _ (holds c.args.arena.now c.requires.cached) c.requires _ c.expr-e.ensures _ c.before_of-b.ensures _ c.pick-hit.ensures c.in_default-hit.is _ c.is_replaced.ensures c.if-is_replaced.true _ c.first-c.ensures _ (rw c.looked-t.ensures at c.look.ensures.looked)

pub look-look_along-w-requires : goal.look-look_along-w-requires
look-look_along-w-requires t c =
    let falls = c.decreases in (
      omega (arith, falls, e_reach _ _ _ _ _ (holds c.args.arena.now c.requires.cached) c.requires _ c.expr-e.ensures),
      rw c.looked-t.ensures (along_asks _ _ _ _ _ (holds c.args.arena.now c.requires.cached) c.requires _ c.expr-e.ensures _ c.before_of-b.ensures _ c.pick-hit.ensures c.in_default-hit.is _ c.is_replaced.ensures c.if-is_replaced.false),
    )

pub look-look_again-u-requires : goal.look-look_again-u-requires
look-look_again-u-requires t c =
    let falls = c.decreases in
    let walk = rw c.looked-t.ensures at c.look_along-w.ensures.looked in
    let field = c.field-field.ensures ∙ ap (λ (w : Own). w.field) c.looked-t.ensures in
    let v = rw field at c.of-v.ensures in
    let same = c.look_along-w.ensures.records in (
      omega (arith, falls, again_falls _ _ _ _ _ (holds c.args.arena.now c.requires.cached) c.requires _ c.expr-e.ensures _ c.before_of-b.ensures _ c.pick-hit.ensures c.in_default-hit.is _ c.is_replaced.ensures c.if-is_replaced.false _ walk c.of-v.result v),
      rw (same.0, same.1)
          (again_asks _ _ _ _ _ (holds c.args.arena.now c.requires.cached) c.requires _ c.expr-e.ensures _ c.before_of-b.ensures _ c.pick-hit.ensures c.in_default-hit.is _ c.is_replaced.ensures c.if-is_replaced.false _ walk c.of-v.result v),
    )

pub look-returns-clause-looked : goal.look-returns-clause-looked
look-returns-clause-looked t c =
    let walk = rw c.looked-t.ensures at c.look_along-w.ensures.looked in
    let field = c.field-field.ensures ∙ ap (λ (w : Own). w.field) c.looked-t.ensures in
    let v = rw field at c.of-v.ensures in
    let same = c.look_along-w.ensures.records in
    gives_whole _ _ _ _ _ (holds c.args.arena.now c.requires.cached) c.requires _ c.expr-e.ensures _ c.before_of-b.ensures _ c.pick-hit.ensures c.in_default-hit.is _ c.is_replaced.ensures c.if-is_replaced.false _ walk c.of-v.result v _ (rw (same.0, same.1) at c.look_again-u.ensures.looked) _ field _ c.look_ended.ensures

pub look_again-returns-then-v-clause-looked : goal.look_again-returns-then-v-clause-looked
look_again-returns-then-v-clause-looked t c =
    rw c.with_answer.ensures (gives_twice _ _ _ c.args.v _ c.if-v.true _ c.look-again.ensures.looked _ (rw c.answer.ensures at c.of.ensures))

pub look_again-returns-clause-looked : goal.look_again-returns-clause-looked
look_again-returns-clause-looked t c = rw c.with_answer-2.ensures (gives_once _ _ _ _ _ c.if-v.false)

pub look_along-loop-i-init : goal.look_along-loop-i-init
look_along-loop-i-init t c = rw c.new-seen.ensures ((refl, refl), reached_none _ _ _ _ _)

pub look_along-look-u-requires : goal.look_along-look-u-requires
look_along-look-u-requires t c =
    let falls = c.decreases in
    let same = c.loop-i.invariant.0 in (
      omega (arith, falls, child_falls _ _ _ _ _ (holds c.args.arena.now c.requires.cached) c.requires _ _ _ c.loop-i.invariant.1 c.loop-i-test.true _ _ c.child_of-c.ensures c.mode.ensures),
      rw (same.0, same.1)
          (child_asks _ _ _ _ _ (holds c.args.arena.now c.requires.cached) c.requires _ _ _ c.loop-i.invariant.1 c.loop-i-test.true _ _ c.child_of-c.ensures c.mode.ensures),
    )

pub look_along-loop-i-preserved : goal.look_along-loop-i-preserved
look_along-loop-i-preserved t c =
    let same = c.loop-i.invariant.0 in
    let still = c.look-u.ensures.records in (
      (still.0 ∙ same.0, still.1 ∙ same.1),
      reached_more _ _ _ _ _ (holds c.args.arena.now c.requires.cached) c.requires _ _ _ c.loop-i.invariant.1 c.loop-i-test.true _ _ c.child_of-c.ensures c.mode.ensures _ (rw (same.0, same.1) at c.look-u.ensures.looked) _ c.answer.ensures _ c.add-seen.ensures _ c.enter_struct-t.ensures,
    )

pub look_along-returns-clause-looked : goal.look_along-returns-clause-looked
look_along-returns-clause-looked t c = along_gives _ _ _ _ _ (holds c.args.arena.now c.requires.cached) c.requires _ _ _ c.loop-i.invariant.1 c.loop-i-test.false
