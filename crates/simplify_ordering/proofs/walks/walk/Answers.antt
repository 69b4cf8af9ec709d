use mathlib.Core.Path.{refl, ap, ◌∙◌}
use native.Mathlib.Omega.{arith}
use lib.ListN.{drop_of_length-le}
use Rattle.std.proofs.lemmas.Result.{err_from_is_err_and}
use Rattle.simplify_ordering.specs.Held.{run_of}
use Rattle.storage.specs.declared.removed.Removed.{Removed}
use Rattle.simplify_ordering.proofs.WalkLaws.{walking_none, walking_ends, walking_stops, walking_more, at_place, visitable_here, step_small, noted_fits}
use Rattle.simplify_ordering.proofs.walks.walk.Goals as goal

pub loop-n-init : goal.loop-n-init
loop-n-init c =
    record {
      same_size = (refl, refl);
      walking = walking_none _ c.args.removed (run_of c.args.run.now c.args.ends.now) c.requires.asks c.new-back.result c.new-back.ensures.none c.new-back.ensures.removed;
      stored = omega (arith, c.new-back.ensures.none);
      counted = omega (arith, ap (λ (x : Removed). x.count) c.new-back.ensures.removed);
    }

pub simplify_ir_node_orders-requires-clause-visitable : goal.simplify_ir_node_orders-requires-clause-visitable
simplify_ir_node_orders-requires-clause-visitable c =
    visitable_here _ _ _ c.loop-n.run c.args.ends.now _ _ c.loop-n-test.true c.loop-n.invariant.walking

pub note-requires-clause-step : goal.note-requires-clause-step
note-requires-clause-step c = step_small _ _ _ c.loop-n.run c.args.ends.now _ _ c.loop-n-test.true c.loop-n.invariant.walking

pub returns-in_err-visited : goal.returns-in_err-visited
returns-in_err-visited c =
    let before = run_of c.args.run.now c.args.ends.now in
    let after = run_of c.loop-n.run c.args.ends.now in
    let g = at_place c.args.list.now c.args.removed before after c.loop-n.back c.loop-n.n-index c.loop-n-test.true c.loop-n.invariant.walking in
    let k = c.in_err-visited.ensures in
    let p = err_from_is_err_and c.from_residual.result c.from_residual.ensures.1 in
    rw (p.1, p.2)
    (record {
      gives = walking_stops c.args.list.now c.args.removed before after c.loop-n.back _ _ g (run_of c.simplify_ir_node_orders.new.run c.args.ends.now) _ k.comes;
      same_size = (k.same_size.0 ∙ c.loop-n.invariant.same_size.0, k.same_size.1 ∙ c.loop-n.invariant.same_size.1);
    })

pub loop-n-preserved : goal.loop-n-preserved
loop-n-preserved c =
    let before = run_of c.args.run.now c.args.ends.now in
    let after = run_of c.loop-n.run c.args.ends.now in
    let g = at_place c.args.list.now c.args.removed before after c.loop-n.back c.loop-n.n-index c.loop-n-test.true c.loop-n.invariant.walking in
    let k = c.in_ok-visited.ensures in
    let small = step_small _ _ _ c.loop-n.run c.args.ends.now _ _ c.loop-n-test.true c.loop-n.invariant.walking in
    let fits = noted_fits _ c.in_ok-visited.visited c.loop-n.back c.note.new.self c.args.removed c.loop-n.n-index c.note.ensures c.loop-n.invariant.stored c.loop-n.invariant.counted in
    record {
      same_size = (k.same_size.0 ∙ c.loop-n.invariant.same_size.0, k.same_size.1 ∙ c.loop-n.invariant.same_size.1);
      walking = walking_more c.args.list.now c.args.removed before after c.loop-n.back _ _ g (run_of c.simplify_ir_node_orders.new.run c.args.ends.now) small c.in_ok-visited.visited c.note.new.self c.note.ensures k.comes;
      stored = fits.0;
      counted = fits.1;
    }

pub returns-clause-gives : goal.returns-clause-gives
returns-clause-gives c =
    let none = drop_of_length-le c.args.list.now {i = c.loop-n.n-index} (omega (arith, c.loop-n-test.false)) in
    walking_ends c.args.list.now c.args.removed _ (run_of c.loop-n.run c.args.ends.now) c.loop-n.back (rw none at c.loop-n.invariant.walking) (omega (arith, c.loop-n.invariant.counted))
