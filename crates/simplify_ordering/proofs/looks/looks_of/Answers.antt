use mathlib.Core.Path.{◌≡◌, sym, ◌∙◌, ap}
use Rattle.std.proofs.Common.{rules}
use Rattle.plan.specs.declared.ir.IR.{IR}
use Rattle.plan.specs.declared.rules.Options.{Options}
use Rattle.plan.specs.Kinds.{same_ir}
use Rattle.plan.specs.Sheet.{step_at}
use Rattle.plan.specs.Visit.{allow_deordering_top}
use Rattle.storage.specs.Held.{arena_in, steps_in}
use Rattle.simplify_ordering.proofs.LookLaws.{grouped, Imploded, when_grouped, when_not, start_room, lists_asked, looks_given}
use Rattle.simplify_ordering.proofs.looks.looks_of.Goals as goal
use Rattle.simplify_ordering.proofs.looks.looks_of.Goals.{then-eq, else-eq, Joined-eq}

pub append_implodes-requires : goal.append_implodes-requires
append_implodes-requires c =
    let is : c.eq.result ≡ same_ir c.args.s.kind IR.GroupBy = search rules in
    let p = step_at (steps_in c.args.steps.now) c.args.i in
    let g = grouped p (arena_in c.args.arena.now) (ap (λ (o : Options). same_ir o.kind IR.GroupBy) (sym c.requires.its_options) ∙ sym is ∙ c.if-eq.true) in
    record {
      step = c.requires.step;
      earlier = c.requires.earlier;
      room = rw g at (start_room p c.args.e (arena_in c.args.arena.now) c.args.tally.now c.requires.listed);
    }

-- whether they were appended or there were none to append
implodes_made : (c : Joined-eq) → Imploded c.args.i c.args.steps.now c.if-eq.steps c.args.arena.now c.if-eq.arena
implodes_made c =
    let is : c.eq.result ≡ same_ir c.args.s.kind IR.GroupBy = search rules in
    let kind = ap (λ (o : Options). same_ir o.kind IR.GroupBy) (sym c.requires.its_options) ∙ sym is in
    elim c.if-eq.branch [
      | then-eq w ↦ let k = w.append_implodes.ensures in when_grouped _ _ _ _ _ (kind ∙ w.if-eq.true) (rw w.arena-is k.arena) (rw w.steps-is k.steps) (rw w.steps-is k.count)
      | else-eq w ↦ when_not _ _ _ _ _ (kind ∙ w.if-eq.false) w.arena-is w.steps-is
    ]

pub look_at_lists-requires : goal.look_at_lists-requires
look_at_lists-requires c =
    let done = implodes_made c.before.before.before.before.before in
    lists_asked c.args.i c.args.e (arena_in c.args.arena.now) c.args.tally.now c.args.steps.now c.if-eq.steps c.if-eq.arena c.requires.step c.requires.listed done.arena done.steps _ _ c.exprs-exprs.ensures c.aggs-aggs.ensures _ (c.allow_deordering_top.ensures ∙ ap (λ (o : Options). allow_deordering_top o c.args.e) c.requires.its_options)

pub returns : goal.returns
returns c =
    let done = implodes_made c.before.before.before.before.before.before in
    record {
      looked = looks_given c.args.i c.args.e (arena_in c.args.arena.now) c.args.tally.now c.args.steps.now c.if-eq.steps c.if-eq.arena c.requires.step c.requires.listed done.arena done.steps _ _ c.exprs-exprs.ensures c.aggs-aggs.ensures _ (c.allow_deordering_top.ensures ∙ ap (λ (o : Options). allow_deordering_top o c.args.e) c.requires.its_options) _ _ _ c.look_at_lists.ensures;
      count = done.count;
    }
