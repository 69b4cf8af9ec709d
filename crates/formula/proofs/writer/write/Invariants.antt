use Rattle.std.proofs.Common.{◌≡◌, ◌+◌, ◌≤◌, length, take}
use Rattle.formula.specs.Items.{operators}
use Rattle.formula.specs.Progress.{start, all_taken}
use Rattle.formula.specs.Written.{Holds}
use Rattle.formula.proofs.writer.write.Given as goal

abbrev pub invariant-loop-item : goal.invariant-loop-item
invariant-loop-item l =
    Holds l.initial.out (all_taken (take l.item-index l.items) start) l.writer l.waiting l.out
    × (l.writer.lines + l.writer.count ≡ l.item-index)
    × (l.writer.count ≤ operators (take l.item-index l.items))
    × (length l.waiting ≡ 63)
    × (length l.out ≡ length l.initial.out)
