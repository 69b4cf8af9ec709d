use mathlib.Core.Path.{refl, ap, ◌∙◌}
use native.Mathlib.Omega.{arith}
use Rattle.std.proofs.lemmas.Result.{err_from_is_err_and}
use lib.ListN.{length}
use Rattle.formula.specs.Items.{Notes}
use Rattle.formula.proofs.Deciding.{at_first, one_further, seen_whole, noted_whole, formula_noted, few_noted}
use Rattle.formula.proofs.Noting.{with_begun_long}
use Rattle.formula.proofs.Verdicts.{broken_at, kept_on, turned_back}
use Rattle.formula.proofs.decide.decide.Goals as goal

pub loop-b-init : goal.loop-b-init
loop-b-init c = (at_first _ _ _ c.new-seen.ensures, refl)

pub after-requires : goal.after-requires
after-requires c = omega (arith, c.loop-b.invariant.0.flat, c.loop-b-test.true, c.requires.short)

pub loop-b-preserved : goal.loop-b-preserved
loop-b-preserved c = (
  one_further _ _ _ _ _ _ _ c.loop-b-test.true c.after.ensures.seen c.after.ensures.noted (kept_on _ _ _ c.ok_or.ensures.value _ c.in_ok-seen.was) c.loop-b.invariant.0,
  ap (λ (m : Notes). length m.places) c.after.ensures.noted ∙ with_begun_long _ _ _ ∙ c.loop-b.invariant.1,
)

pub returns-in_err-seen-clause-number : goal.returns-in_err-seen-clause-number
returns-in_err-seen-clause-number c =
    let p = err_from_is_err_and c.from_residual.result c.from_residual.ensures.1 in
    let t = turned_back _ _ _ c.ok_or.ensures.value _ c.in_err-seen.was in
    rw (p.1, p.2, t.1)
    (broken_at c.args.formula.now c.loop-b.b-index c.loop-b-test.true (c.after.ensures.seen.seen _ refl c.loop-b.invariant.0.seen ∙ t.0))

pub returns-in_err-seen-clause-noted : goal.returns-in_err-seen-clause-noted
returns-in_err-seen-clause-noted c = rw (err_from_is_err_and c.from_residual.result c.from_residual.ensures.1).1 tt

pub returns-in_err-seen-clause-few : goal.returns-in_err-seen-clause-few
returns-in_err-seen-clause-few c = rw (err_from_is_err_and c.from_residual.result c.from_residual.ensures.1).1 tt

pub returns-in_err-seen-clause-size : goal.returns-in_err-seen-clause-size
returns-in_err-seen-clause-size c = ap (λ (m : Notes). length m.places) c.after.ensures.noted ∙ with_begun_long _ _ _ ∙ c.loop-b.invariant.1

pub returns-clause-number : goal.returns-clause-number
returns-clause-number c =
    let f = c.loop-b.invariant in
    c.end.ensures.number _ _ (f.1 ∙ c.requires.places) (noted_whole _ _ _ _ _ c.loop-b-test.false f.0) (seen_whole _ _ _ _ _ c.loop-b-test.false f.0)

pub returns-clause-noted : goal.returns-clause-noted
returns-clause-noted c =
    let f = c.loop-b.invariant in
    formula_noted _ _ _ _ _ c.loop-b-test.false f.0 (f.1 ∙ c.requires.places) _ c.end.ensures.count

pub returns-clause-few : goal.returns-clause-few
returns-clause-few c = few_noted _ _ c.end.ensures.count

pub returns-clause-size : goal.returns-clause-size
returns-clause-size c = c.loop-b.invariant.1
