use mathlib.Core.Path.{refl, ap, ◌∙◌}
use native.Mathlib.Omega.{arith}
use lib.ListN.{length}
use Rattle.expr.proofs.States.{holds}
use Rattle.expr.proofs.Projections.{list_none, entry_asks, few_entries, list_more, top_asks, gives_top, gives_all}
use Rattle.expr.proofs.projected.simplify_projected_exprs.Goals as goal

pub loop-i-init : goal.loop-i-init
loop-i-init c = rw c.new-seen.ensures ((refl, refl), list_none _ _ _ _ c.args.allow_deordering_top)

pub look-t-requires : goal.look-t-requires
look-t-requires c =
    let same = c.loop-i.invariant.0 in
    let items = c.as_slice-node-items.ensures in
    rw (c.from.ensures, items, same.0, same.1) (entry_asks _ _ _ _ _ (holds c.args.arena.now c.requires.cached) c.requires _ _ _ c.loop-i.invariant.1 (rw items at c.loop-i-test.true))

pub add-seen-requires : goal.add-seen-requires
add-seen-requires c =
    let items = c.as_slice-node-items.ensures in
    few_entries _ _ _ _ _ (holds c.args.arena.now c.requires.cached) c.requires _ _ _ c.loop-i.invariant.1 (rw items at c.loop-i-test.true)

pub loop-i-preserved : goal.loop-i-preserved
loop-i-preserved c =
    let same = c.loop-i.invariant.0 in
    let still = c.look-t.ensures.records in
    let items = c.as_slice-node-items.ensures in (
      (still.0 ∙ same.0, still.1 ∙ same.1),
      list_more _ _ _ _ _ (holds c.args.arena.now c.requires.cached) c.requires _ _ _ c.loop-i.invariant.1 (rw items at c.loop-i-test.true) _
          (rw (c.from.ensures, items, same.0, same.1) at c.look-t.ensures.looked) _ c.answer.ensures _ (rw items at c.add-seen.ensures),
    )

pub look-requires : goal.look-requires
look-requires c =
    let same = c.loop-i.invariant.0 in
    rw (same.0, same.1) (top_asks _ _ _ _ _ (holds c.args.arena.now c.requires.cached) c.requires _ _ _ c.loop-i.invariant.1 (omega (arith, ap length c.as_slice-node-items.ensures)) _ _ _ _ c.observed-so_far.ensures c.pick-mixed.ensures c.union.ensures c.with_observed-observing.ensures c.if-acc-allow_deordering_top.true)

pub returns-then-acc-allow_deordering_top-clause-looked : goal.returns-then-acc-allow_deordering_top-clause-looked
returns-then-acc-allow_deordering_top-clause-looked c =
    let same = c.loop-i.invariant.0 in
    gives_top _ _ _ _ _ (holds c.args.arena.now c.requires.cached) c.requires _ _ _ c.loop-i.invariant.1 (omega (arith, ap length c.as_slice-node-items.ensures)) _ _ _ _ c.observed-so_far.ensures c.pick-mixed.ensures c.union.ensures c.with_observed-observing.ensures c.if-acc-allow_deordering_top.true _ (rw (same.0, same.1) at c.look.ensures.looked)

pub returns-clause-looked : goal.returns-clause-looked
returns-clause-looked c =
    rw c.with_answer.ensures (gives_all _ _ _ _ _ (holds c.args.arena.now c.requires.cached) c.requires _ _ _ c.loop-i.invariant.1 (omega (arith, ap length c.as_slice-node-items.ensures)) _ _ _ _ c.observed-so_far.ensures c.pick-mixed.ensures c.union.ensures c.with_observed-observing.ensures c.if-acc-allow_deordering_top.false)
