use mathlib.Core.Path.{ap, ◌∙◌}
use Rattle.expr.specs.Eos as own
use Rattle.expr.specs.State.{state}
use Rattle.expr.proofs.States.{ended}
use Rattle.expr.proofs.look.look_ended.Goals as goal

pub returns : goal.returns
returns c =
    let owned = c.with_field.ensures ∙ ap (own.with_field c.args.field) c.with_observed-t.ensures in
    let lines = c.args.lines.now in
    ended (state lines.holds lines.off c.args.cache.now c.args.s) c.args.p c.args.e c.args.v c.args.field c.args.first c.requires.within lines.off_sized c.requires.cached _ _ _ _ _ _ c.loses_order.ensures c.observed-before.ensures c.union-observed.ensures c.answer.ensures c.pick.ensures owned
