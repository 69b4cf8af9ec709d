use Rattle.std.proofs.Common.{rules, arith, [], ◌∷◌, length-append}
use Rattle.ir_graph.proofs.FirstPass.{begins, none_left, hits_ended, noted_ended, turn, popping_next}
use Rattle.ir_graph.proofs.hits.count_hits.Goals as goal

pub loop-top-init : goal.loop-top-init
loop-top-init c = rw c.clear.ensures (begins c.args.steps.now c.requires.plan (search rules) c.requires.no_hits c.push_roots.ensures)

pub push-requires : goal.push-requires
push-requires c = let t = turn c.args.steps.now c.requires.plan c.pop.new.self.items c.in-Some.top c.loop-top.invariant c.in-Some.ensures.items in omega (arith, t.few)

pub meet-requires : goal.meet-requires
meet-requires c =
    let t = turn c.args.steps.now c.requires.plan c.pop.new.self.items c.in-Some.top c.loop-top.invariant c.in-Some.ensures.items in
    rw c.from.ensures (record { i_bound = t.line; step_formed = t.formed; hit_fits = t.hit; room = t.room })

pub loop-top-smaller : goal.loop-top-smaller
loop-top-smaller c =
    let t = turn c.args.steps.now c.requires.plan c.pop.new.self.items c.in-Some.top c.loop-top.invariant c.in-Some.ensures.items in
    rw c.push.ensures.items (omega (arith, t.left, length-append c.loop-top.met.items (c.in-Some.top ∷ [])))

pub loop-top-preserved : goal.loop-top-preserved
loop-top-preserved c =
    rw c.push.ensures.items
    (popping_next c.args.steps.now c.requires.plan c.pop.new.self.items c.in-Some.top c.loop-top.invariant c.in-Some.ensures.items
    (rw c.from.ensures at c.meet.ensures.pushed) (rw c.from.ensures at c.meet.ensures.hit_counted))

pub returns : goal.returns
returns c =
    let empty = none_left _ c.in_default.ensures.variant.1 in
    record { hits_counted = hits_ended c.args.steps.now c.requires.plan c.loop-top.invariant empty; met_noted = noted_ended c.args.steps.now c.requires.plan c.loop-top.invariant empty }
