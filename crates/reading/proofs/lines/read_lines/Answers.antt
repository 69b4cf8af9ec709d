use mathlib.Core.Path.{sym}
use Rattle.std.proofs.Common.{rules}
use Rattle.std.proofs.lemmas.Result.{err_from_is_err_and}
use Rattle.reading.proofs.Whole.{none_sound, from_none, all_taken}
use Rattle.reading.proofs.lines.read_lines.Goals as goal

pub invariant_of-taken : goal.invariant_of-taken
invariant_of-taken c = record { sound = none_sound _ _ }

pub returns-in_err-read_lines : goal.returns-in_err-read_lines
returns-in_err-read_lines c =
    let p = err_from_is_err_and c.from_residual.result c.from_residual.ensures.1 in
    rw (p.1, p.2) (from_none _ _ _ c.in_err-read_lines.ensures.lines)

pub returns : goal.returns
returns c =
    let (e, f) = c.read_lines.ensures.same in
    all_taken _ _ _ c.in_ok-read_lines.ensures.lines c.read_lines.new.self.sound (search (rules, sym e)) (search (rules, sym f))
