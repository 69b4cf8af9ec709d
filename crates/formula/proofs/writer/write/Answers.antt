use mathlib.Core.Path.{refl, ◌∙◌}
use Prim.Native.Nat.{◌+◌}
use native.Mathlib.Omega.{arith}
use Rattle.formula.specs.declared.items.Kind.{Kind}
use Rattle.formula.specs.Items.{item}
use Rattle.formula.specs.Progress.{all_taken}
use Rattle.formula.proofs.Taking.{next_held, all_held}
use Rattle.formula.proofs.Waits.{operators_first, operators_next}
use Rattle.formula.proofs.writer.write.Goals as goal

pub loop-item-init : goal.loop-item-init
unfolding all_taken
loop-item-init c = (
  c.new-writer.ensures.held _ _,
  omega (arith, c.new-writer.ensures.count, c.new-writer.ensures.lines),
  omega (arith, c.new-writer.ensures.count),
  refl,
  refl,
)

pub take-requires-clause-few : goal.take-requires-clause-few
take-requires-clause-few c =
    omega (
      arith,
      c.loop-item.invariant.2,
      c.loop-item.invariant.3,
      operators_next c.args.items.now c.loop-item.item-index (item 0 Kind.Letter) c.loop-item-test.true,
      operators_first c.args.items.now (c.loop-item.item-index + 1),
      c.requires.few,
    )

pub take-requires-clause-room : goal.take-requires-clause-room
take-requires-clause-room c = omega (arith, c.loop-item.invariant.1, c.loop-item-test.true, c.requires.short)

pub loop-item-preserved : goal.loop-item-preserved
loop-item-preserved c =
    let h = c.loop-item.invariant in
    let t = c.take.ensures in (
      next_held _ _ _ _ c.args.items.now c.loop-item.item-index (item 0 Kind.Letter) c.loop-item-test.true (t.holds _ _ h.0),
      omega (arith, t.load, h.1),
      omega (arith, t.more, h.2, operators_next c.args.items.now c.loop-item.item-index (item 0 Kind.Letter) c.loop-item-test.true),
      t.places ∙ h.3,
      t.size ∙ h.4,
    )

pub settle-requires-clause-few : goal.settle-requires-clause-few
settle-requires-clause-few c =
    let h = c.loop-item.invariant in omega (arith, h.2, h.3, operators_first c.args.items.now c.loop-item.item-index, c.requires.few)

pub settle-requires-clause-room : goal.settle-requires-clause-room
settle-requires-clause-room c = let h = c.loop-item.invariant in omega (arith, h.1, c.loop-item-test.false, c.requires.short)

pub returns : goal.returns
returns c =
    let h = c.loop-item.invariant in
    (c.settle.ensures.holds _ _ (all_held _ _ _ _ _ _ c.loop-item-test.false h.0)).stand.wrote
