use native.Mathlib.Omega.{arith}
use Rattle.std.proofs.lemmas.Result.{err_from_is_err_and}
use Rattle.reading.proofs.Checks.{not_numbers, E_few, E_late, E_not, E_full, E_taken, E_sound, line_length}
use Rattle.reading.proofs.lines.Taken.read_expr.Goals as goal
use Rattle.reading.proofs.lines.Taken.read_expr.Goals.{then-numbers-lt4-via-then-numbers-lt4, then-numbers-lt4-via-else-numbers-lt4+then-self-ne0}

pub returns-in_err-len-clause-line : goal.returns-in_err-len-clause-line
returns-in_err-len-clause-line c =
    let p = err_from_is_err_and c.from_residual.result c.from_residual.ensures.1 in
    rw (p.1, p.2, c.in_err-len.ensures.answer) (not_numbers _ _ _ c.in_err-len.ensures.are)

pub returns-then-numbers-lt4-clause-line : goal.returns-then-numbers-lt4-clause-line
returns-then-numbers-lt4-clause-line c =
    elim c.then-numbers-lt4.branch [
      | then-numbers-lt4-via-then-numbers-lt4 w ↦ E_few _ _ _ c.in_ok-len.ensures w.if-numbers-lt4.true _
      | then-numbers-lt4-via-else-numbers-lt4+then-self-ne0 w ↦ E_late _ _ _ c.in_ok-len.ensures w.if-numbers-lt4.false _ _ _ c.args.self.now.sound w.if-self-ne0.true
    ]

pub returns-then-not-expr_fits-clause-line : goal.returns-then-not-expr_fits-clause-line
returns-then-not-expr_fits-clause-line c = E_not _ _ _ c.in_ok-len.ensures (omega arith) _ _ _ c.args.self.now.sound (omega arith) _ c.expr_fits.ensures.0 c.if-not-expr_fits.true

pub returns-then-self-ge128-clause-line : goal.returns-then-self-ge128-clause-line
returns-then-self-ge128-clause-line c = E_full _ _ _ c.in_ok-len.ensures (omega arith) _ _ _ c.args.self.now.sound (omega arith) _ c.expr_fits.ensures.0 c.if-not-expr_fits.false (omega arith)

pub invariant_of-self : goal.invariant_of-self
invariant_of-self c =
    record {
      sound = E_sound _ _ _ c.in_ok-len.ensures (omega arith) _ _ _ c.args.self.now.sound (omega arith) _ c.expr_fits.ensures.0 c.if-not-expr_fits.false _ (omega arith)
          (c.expr_fits.ensures.1 c.if-not-expr_fits.false) c.store_expr.ensures.1 c.store_expr.ensures.0;
    }

pub overflow_add-result : goal.overflow_add-result
overflow_add-result c = omega (arith, c.in_ok-len.ensures.len_is, line_length c.args.s.now, c.well_formed)

pub returns-clause-line : goal.returns-clause-line
returns-clause-line c =
    E_taken _ _ _ c.in_ok-len.ensures (omega arith) _ _ _ c.args.self.now.sound (omega arith) _ c.expr_fits.ensures.0 c.if-not-expr_fits.false _ (omega arith)
    (c.expr_fits.ensures.1 c.if-not-expr_fits.false) c.store_expr.ensures.1 c.store_expr.ensures.0
