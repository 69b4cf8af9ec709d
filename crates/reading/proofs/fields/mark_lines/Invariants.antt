use mathlib.Core.Path.{◌≡◌}
use Prim.Native.Nat.{◌-◌}
use Rattle.reading.specs.Marks.{marks_after}
use Rattle.reading.proofs.fields.mark_lines.Given as goal

abbrev pub invariant-loop-i : goal.invariant-loop-i
invariant-loop-i l = l.marks ≡ marks_after l.initial.marks l.exprs.bytes.now l.exprs.count (l.exprs.count - l.i)
