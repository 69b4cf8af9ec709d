use native.Mathlib.Omega.{arith}
use mathlib.Core.Path.{refl, sym, ap, ◌∙◌}
use Rattle.std.specs.Prelude.{Ok}
use Rattle.std.proofs.lemmas.Result.{err_from_is_err_and}
use Rattle.reading.proofs.LineFields.{stood, begin, turn, ends, breaks, length_from}
use Rattle.reading.proofs.line.Numbers.read.Goals as goal

pub loop-number-init : goal.loop-number-init
loop-number-init c = begin _ _ c.args.self.now.sized

pub returns-in_err-number : goal.returns-in_err-number
returns-in_err-number c =
    let p = err_from_is_err_and c.from_residual.result c.from_residual.ensures.1 in
    rw (p.1, p.2) (breaks _ _ _ _ _ c.loop-number.invariant _ (sym c.in_err-number.ensures))

pub overflow_add-len : goal.overflow_add-len
overflow_add-len c =
    let t = stood c.loop-number.rest.now _ (sym c.in_ok-number.ensures ∙ ap Ok c.in-Some.is) in
    omega (arith, c.loop-number.invariant.fits, t.fits)

pub slice_bounds-rest-count : goal.slice_bounds-rest-count
slice_bounds-rest-count c = (stood _ _ (sym c.in_ok-number.ensures ∙ ap Ok c.in-Some.is)).fits

pub slice_bounds-rest-start : goal.slice_bounds-rest-start
slice_bounds-rest-start c = (stood _ _ (sym c.in_ok-number.ensures ∙ ap Ok c.in-Some.is)).fits

pub loop-number-smaller : goal.loop-number-smaller
loop-number-smaller c =
    let t = stood c.loop-number.rest.now _ (sym c.in_ok-number.ensures ∙ ap Ok c.in-Some.is) in
    omega (arith, length_from c.loop-number.rest.now c.in-Some.number.width, t.fits, t.some_bytes)

pub loop-number-preserved : goal.loop-number-preserved
loop-number-preserved c =
    turn _ _ _ _ _ c.loop-number.invariant _ _ _ (sym c.in_ok-number.ensures ∙ ap Ok c.in-Some.is) c.push.ensures

pub returns : goal.returns
returns c = ends _ _ _ _ _ c.loop-number.invariant _ refl refl (sym c.in_ok-number.ensures ∙ ap Ok c.in_default.is)
