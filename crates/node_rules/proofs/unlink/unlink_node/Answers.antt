use mathlib.Core.Path.{sym, ap, ◌∙◌}
use mathlib.Core.List.{map}
use Prim.Native.Nat.{ℕ}
use native.Mathlib.Omega.{arith}
use lib.ListN.{get_or}
use Rattle.plan.specs.Sheet.{step_at}
use Rattle.plan.specs.Graph.{Edge}
use Rattle.storage.specs.Edges.{byte_of, producer_of}
use Rattle.storage.specs.Held.{steps_in, edges_in}
use Rattle.storage.proofs.Laws.{length_steps}
use Rattle.node_rules.specs.Held.{cut_off}
use Rattle.node_rules.proofs.EdgeChanges.{both_relinked}
use Rattle.node_rules.proofs.UnlinkLaws.{edge_there, edge_is, entry_is, entry_there, told_again, found_below}
use Rattle.node_rules.proofs.unlink.unlink_node.Goals as goal

-- by `edge_there`, there is an edge leaving n
pub unwrap-leaving-requires : goal.unwrap-leaving-requires
unwrap-leaving-requires c =
    let e = c.args.edges.now in
    found_below c.leaving_edge.result e.count (edge_there c.args.ends.now e.bytes e.count c.args.d.of _ (c.leaving_edge.ensures.number c.args.ends.now) c.requires.unlinkable.unordered)

pub consumer_of-requires : goal.consumer_of-requires
consumer_of-requires c =
    let e = c.args.edges.now in
    omega (arith, edge_there c.args.ends.now e.bytes e.count c.args.d.of c.unwrap-leaving.result (rw c.unwrap-leaving.ensures at (c.leaving_edge.ensures.number c.args.ends.now)) c.requires.unlinkable.unordered, e.few)

pub slot_of-requires : goal.slot_of-requires
slot_of-requires c =
    let e = c.args.edges.now in
    omega (arith, edge_there c.args.ends.now e.bytes e.count c.args.d.of c.unwrap-leaving.result (rw c.unwrap-leaving.ensures at (c.leaving_edge.ensures.number c.args.ends.now)) c.requires.unlinkable.unordered, e.few)

pub first_input-input-requires-clause-step : goal.first_input-input-requires-clause-step
first_input-input-requires-clause-step c = let s = c.args.steps.now in rw c.from.ensures (omega (arith, c.requires.unlinkable.step, length_steps s.bytes s.count))

pub store_input-requires : goal.store_input-requires
store_input-requires c =
    let s = c.args.steps.now in
    let e = c.args.edges.now in
    let k = c.unwrap-leaving.result in
    let leaves = rw c.unwrap-leaving.ensures at (c.leaving_edge.ensures.number c.args.ends.now) in
    let entry = sym (entry_is c.args.ends.now e.bytes e.count c.args.d.of k leaves c.requires.unlinkable.unordered) in
    let there = entry_there c.args.ends.now e.bytes e.count c.args.d.of k leaves c.requires.unlinkable.unordered in
    let consumer = c.from-consumer.ensures ∙ c.consumer_of.ensures e.bytes ∙ ap (λ (d : Edge). d.consumer) entry in
    let slot = c.from-slot.ensures ∙ c.slot_of.ensures e.bytes ∙ ap (λ (d : Edge). d.slot) entry in
    record {
      step = rw consumer (omega (arith, c.requires.edges_held.0.there k there, length_steps s.bytes s.count));
      slot = rw (consumer, slot) (c.requires.edges_held.0.slots k there);
    }

pub returns-clause-unlinked : goal.returns-clause-unlinked
returns-clause-unlinked c =
    let e = c.args.edges.now in
    let edge = edge_is c.args.ends.now e.bytes e.count c.args.d.of c.unwrap-leaving.result (rw c.unwrap-leaving.ensures at (c.leaving_edge.ensures.number c.args.ends.now)) c.requires.unlinkable.unordered in
    let consumer = ap (λ (d : Edge). d.consumer) edge ∙ sym (c.from-consumer.ensures ∙ c.consumer_of.ensures e.bytes) in
    let slot = ap (λ (d : Edge). d.slot) edge ∙ sym (c.from-slot.ensures ∙ c.slot_of.ensures e.bytes) in
    let input = sym (c.first_input-input.ensures ∙ ap (λ (i : ℕ). get_or (step_at (steps_in c.args.steps.now) i).inputs 0 0) c.from.ensures) in
    let from = c.producer-from.ensures c.args.ends.now c.requires.edges_held.1 in
    let handed = c.hand_on.ensures.edges_after c.args.ends.now in
    let cut = c.cut_off.ensures.edges_after c.args.ends.now (rw c.hand_on.ensures.count c.requires.edges_held.1) in
    record {
      steps = rw (consumer, slot, input) c.store_input.ensures.stored;
      edges =
          rw (← from, ← (told_again c.args.ends.now e.bytes e.count c.args.d c.requires.edges_held.1 c.producer-from.result from))
          (cut ∙ ap (map (cut_off c.args.d.of)) handed ∙ both_relinked c.args.d.of (producer_of (byte_of c.producer-from.result)) (edges_in c.args.ends.now e));
    }
