use mathlib.Core.Path.{refl, sym, ◌∙◌, ap}
use native.Mathlib.Omega.{arith}
use Rattle.storage.specs.Steps.{with_agg}
use Rattle.storage.proofs.Laws.{length_arena}
use Rattle.storage.specs.Held.{arena_in, steps_in}
use Rattle.simplify_ordering.proofs.ImplodeLaws.{stays, appended, has_room}
use Rattle.simplify_ordering.proofs.implode.implode_agg.Goals as goal

pub returns-then-is_scalar_ae : goal.returns-then-is_scalar_ae
returns-then-is_scalar_ae c =
    let both = stays c.args.q (arena_in c.args.arena.now) _ c.is_scalar_ae.ensures c.args.i c.args.k (steps_in c.args.steps.now) c.if-is_scalar_ae.true c.requires.is_entry in
    record { arena = both.0; count = refl; steps = both.1 }

pub append_implode-requires-clause-room : goal.append_implode-requires-clause-room
append_implode-requires-clause-room c =
    let a = c.args.arena.now in
    omega (arith, has_room c.args.q (arena_in a) _ c.is_scalar_ae.ensures c.args.i c.args.k (steps_in c.args.steps.now) c.if-is_scalar_ae.false c.requires.room, length_arena a.records.bytes a.lines.holds a.lines.off a.records.count)

pub returns : goal.returns
returns c =
    let a = c.args.arena.now in
    let both = appended c.args.q (arena_in a) _ c.is_scalar_ae.ensures c.args.i c.args.k (steps_in c.args.steps.now) c.if-is_scalar_ae.false c.append_implode.ensures.appended (c.store_agg.ensures.stored ∙ ap (λ m. with_agg c.args.i c.args.k m (steps_in c.args.steps.now)) (sym (length_arena a.records.bytes a.lines.holds a.lines.off a.records.count))) in
    record { arena = both.0; count = c.store_agg.ensures.count; steps = both.1 }
