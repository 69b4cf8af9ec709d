use Rattle.std.proofs.Common.{◌≡◌, ◌*◌, ◌≤◌, length, take}
use Rattle.plan.specs.Lists.{concat_map}
use Rattle.writing.specs.Wrote.{Wrote, field}
use Rattle.writing.proofs.lines.put_fields.Given as goal

abbrev pub invariant-loop-n : goal.invariant-loop-n
invariant-loop-n l =
    (l.len ≤ 4 * l.n-index) × (length l.out ≡ length l.initial.out) × Wrote (concat_map field (take l.n-index l.ns)) l.initial.out l.out l.len
