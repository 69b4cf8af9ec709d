use native.Mathlib.Omega.{arith}
use Rattle.std.specs.Prelude.{Ok, Err}
use Rattle.std.proofs.lemmas.Result.{err_from_is_err_and}
use Rattle.reading.proofs.LineFields.{field_none, field_end, field_comma, field_broken, length_from, width_from}
use Rattle.reading.proofs.line.read_field.Goals as goal

pub returns-in_err-value-in-44 : goal.returns-in_err-value-in-44
returns-in_err-value-in-44 c =
    let p = err_from_is_err_and c.from_residual.result c.from_residual.ensures.1 in
    rw (p.1, p.2) (field_comma c.args.s.now (omega arith) (omega arith) (Err _) c.in_err-value-in-44.ensures)

pub overflow_add-width : goal.overflow_add-width
overflow_add-width c = omega (arith, width_from _ _ c.in_ok-value-in-44.ensures, length_from c.args.s.now 1)

pub returns-in-10 : goal.returns-in-10
returns-in-10 c = field_end _ (omega arith) (omega arith)

pub returns-in_ok-value-in-44 : goal.returns-in_ok-value-in-44
returns-in_ok-value-in-44 c = field_comma c.args.s.now (omega arith) (omega arith) (Ok _) c.in_ok-value-in-44.ensures

pub returns-in_default : goal.returns-in_default
returns-in_default c = field_none _ (omega arith)

pub returns-in_default-2 : goal.returns-in_default-2
returns-in_default-2 c = field_broken _ (omega arith) (λ e. omega arith) (λ e. omega arith)
