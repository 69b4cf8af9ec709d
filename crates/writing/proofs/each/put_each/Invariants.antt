use Rattle.std.proofs.Common.{ℕ, ◌≡◌, ◌*◌, ◌≤◌, List, length}
use Rattle.writing.specs.Each.{WritesEach, texts}
use Rattle.writing.specs.Wrote.{Wrote}
use Rattle.writing.proofs.each.put_each.Given as goal

abbrev pub invariant-loop-i : goal.invariant-loop-i
invariant-loop-i g l =
    (l.len ≤ g.row.MOST * l.i) × (length l.out ≡ length l.initial.out)
    × ((text : ℕ → List ℕ) → WritesEach (goal.F-post g l.put) text l.n → Wrote (texts text l.i) l.initial.out l.out l.len)
