use Rattle.std.proofs.Common.{rules, arith}
use Rattle.plan.proofs.ListLaws.{part_from}
use Rattle.ir_graph.proofs.Graphs.{placing, turn_at, places_left, few_pushed, pushed_there, placing_next, built}
use Rattle.ir_graph.proofs.ir_graph.grow.Goals as goal

pub loop-i-init : goal.loop-i-init
loop-i-init c = placing c.args.steps.now c.requires.plan (search rules) c.requires.ends_empty c.requires.hits_counted c.push_roots.ensures

pub overflow_cast-edges : goal.overflow_cast-edges
overflow_cast-edges c = let t = turn_at c.args.steps.now c.requires.plan c.loop-i.invariant (omega arith) in omega (arith, t.edges)

pub store_first_into-requires : goal.store_first_into-requires
store_first_into-requires c = let t = turn_at c.args.steps.now c.requires.plan c.loop-i.invariant (omega arith) in rw c.as_slice-list.ensures.value t.line

pub follow-requires : goal.follow-requires
follow-requires c =
    let t = turn_at c.args.steps.now c.requires.plan c.loop-i.invariant (omega arith) in
    rw (c.from.ensures, c.as_slice-list.ensures.value) (record { i_bound = t.line; step_formed = t.formed; hit_left = t.hit; room = omega (arith, t.room) })

pub link-requires : goal.link-requires
link-requires c =
    let t = turn_at c.args.steps.now c.requires.plan c.loop-i.invariant (omega arith) in
    let q = rw (c.from.ensures, c.as_slice-list.ensures.value) at c.follow.ensures.followed in
    let u = rw (c.from.ensures, c.as_slice-list.ensures.value) at c.follow.ensures.hit_used in
    rw (part_from, c.as_slice.ensures.value, c.as_slice-list.ensures.value)
    (record {
      few_inputs = omega (arith, few_pushed c.args.steps.now c.requires.plan c.loop-i.invariant (omega arith) q u, t.few);
      room = omega (arith, few_pushed c.args.steps.now c.requires.plan c.loop-i.invariant (omega arith) q u, t.edges);
      inputs_there = pushed_there c.args.steps.now c.requires.plan c.loop-i.invariant (omega arith) q u;
    })

pub loop-i-smaller : goal.loop-i-smaller
loop-i-smaller c = omega (arith, places_left c.args.steps.now c.requires.plan c.loop-i.invariant (omega arith))

pub loop-i-preserved : goal.loop-i-preserved
loop-i-preserved c =
    placing_next c.args.steps.now c.requires.plan c.loop-i.invariant (omega arith)
    (rw (c.from.ensures, c.as_slice-list.ensures.value) at c.follow.ensures.followed)
    (rw (c.from.ensures, c.as_slice-list.ensures.value) at c.follow.ensures.hit_used)
    c.store_first_into.ensures.by_index
    (rw c.as_slice-list.ensures.value at c.store_first_into.ensures.ends_after)
    (rw (part_from, c.as_slice.ensures.value, c.as_slice-list.ensures.value) at c.link.ensures)

pub returns : goal.returns
returns c = built c.args.steps.now c.requires.plan c.loop-i.invariant (omega arith)
