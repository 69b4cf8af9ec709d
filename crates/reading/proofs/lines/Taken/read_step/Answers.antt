use native.Mathlib.Omega.{arith}
use Rattle.std.proofs.lemmas.Result.{err_from_is_err_and}
use Rattle.reading.proofs.Checks.{not_numbers, P_few, P_not, P_full, P_over, P_taken, P_sound, line_length}
use Rattle.reading.proofs.lines.Taken.read_step.Goals as goal
use Rattle.reading.proofs.lines.Taken.read_step.Goals.{then-self-ge32-via-then-self-ge32, then-self-ge32-via-else-self-ge32+then-self-aggs-gt128}

pub returns-in_err-len-clause-line : goal.returns-in_err-len-clause-line
returns-in_err-len-clause-line c =
    let p = err_from_is_err_and c.from_residual.result c.from_residual.ensures.1 in
    rw (p.1, p.2, c.in_err-len.ensures.answer) (not_numbers _ _ _ c.in_err-len.ensures.are)

pub returns-then-numbers-lt7-clause-line : goal.returns-then-numbers-lt7-clause-line
returns-then-numbers-lt7-clause-line c = P_few _ _ _ c.in_ok-len.ensures (omega arith) _

pub returns-then-not-step_fits-clause-line : goal.returns-then-not-step_fits-clause-line
returns-then-not-step_fits-clause-line c = P_not _ _ _ c.in_ok-len.ensures (omega arith) _ _ _ c.args.self.now.sound _ c.step_fits.ensures.0 c.if-not-step_fits.true

pub returns-then-self-ge32-clause-line : goal.returns-then-self-ge32-clause-line
returns-then-self-ge32-clause-line c =
    elim c.then-self-ge32.branch [
      | then-self-ge32-via-then-self-ge32 w ↦ P_full _ _ _ c.in_ok-len.ensures (omega arith) _ _ _ c.args.self.now.sound _ c.step_fits.ensures.0 c.if-not-step_fits.false w.if-self-ge32.true
      | then-self-ge32-via-else-self-ge32+then-self-aggs-gt128 w ↦
          P_over _ _ _ c.in_ok-len.ensures (omega arith) _ _ _ c.args.self.now.sound _ c.step_fits.ensures.0 c.if-not-step_fits.false _ _ c.of_number.ensures c.agg_entries.ensures.0 w.if-self-aggs-gt128.true
    ]

pub invariant_of-self : goal.invariant_of-self
invariant_of-self c =
    record {
      sound = P_sound _ _ _ c.in_ok-len.ensures (omega arith) _ _ _ c.args.self.now.sound _ c.step_fits.ensures.0 c.if-not-step_fits.false _ _ c.of_number.ensures c.agg_entries.ensures.0 _ (omega arith) (omega arith)
          (c.step_fits.ensures.1 c.if-not-step_fits.false) c.store_step.ensures.1 c.store_step.ensures.0;
    }

pub overflow_add-result : goal.overflow_add-result
overflow_add-result c = omega (arith, c.in_ok-len.ensures.len_is, line_length c.args.s.now, c.well_formed)

pub returns-clause-line : goal.returns-clause-line
returns-clause-line c =
    P_taken _ _ _ c.in_ok-len.ensures (omega arith) _ _ _ c.args.self.now.sound _ c.step_fits.ensures.0 c.if-not-step_fits.false _ _ c.of_number.ensures c.agg_entries.ensures.0 _ (omega arith) (omega arith)
    (c.step_fits.ensures.1 c.if-not-step_fits.false) c.store_step.ensures.1 c.store_step.ensures.0
