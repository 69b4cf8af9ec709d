use Rattle.std.proofs.Common.{sym, ◌∙◌}
use Rattle.ir_graph.proofs.Bounds.{cache_there}
use Rattle.ir_graph.proofs.UpdateCaches.{not_updated, line_there, have_inputs, input_updated}
use Rattle.ir_graph.proofs.update_cache_nodes.update_cache_node.Goals as goal

-- both lines are there, and have an input
pub first_input-input-requires : goal.first_input-input-requires
first_input-input-requires c =
    let e = sym c.is_kind-cached.ensures ∙ c.if-cached.true in
    let there = line_there c.args.steps.now _ c.args.m c.requires.here c.requires.updatable e in
    let have = have_inputs c.args.steps.now _ c.args.m c.requires.here c.requires.updatable e in
    rw c.from-line.ensures (record { step = there; some = have.1 })

pub store_input-requires-clause-slot : goal.store_input-requires-clause-slot
store_input-requires-clause-slot c =
    (have_inputs c.args.steps.now _ c.args.m c.requires.here c.requires.updatable (sym c.is_kind-cached.ensures ∙ c.if-cached.true)).0

pub returns-then-cached-clause-updated : goal.returns-then-cached-clause-updated
returns-then-cached-clause-updated c =
    input_updated c.args.steps.now _ c.args.m c.requires.here c.requires.updatable (sym c.is_kind-cached.ensures ∙ c.if-cached.true)
    (rw c.from-line.ensures at c.first_input-input.ensures) c.store_input.ensures.stored

pub returns-else-cached-clause-updated : goal.returns-else-cached-clause-updated
returns-else-cached-clause-updated c =
    let s = c.args.steps.now in
    not_updated _ _ c.args.m (cache_there s.bytes s.count c.args.m c.requires.here ∙ sym c.is_kind-cached.ensures ∙ c.if-cached.false)
