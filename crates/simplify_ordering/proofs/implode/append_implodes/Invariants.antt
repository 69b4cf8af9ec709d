use Rattle.std.specs.Prelude.{◌≡◌}
use Rattle.plan.specs.Sheet.{step_at}
use Rattle.storage.specs.Held.{arena_in, steps_in}
use Rattle.simplify_ordering.proofs.ImplodesLaws.{Imploding}
use Rattle.simplify_ordering.proofs.implode.append_implodes.Given as goal

abbrev pub invariant-loop-k : goal.invariant-loop-k
invariant-loop-k l =
    (l.steps.count ≡ l.initial.steps.count)
    × Imploding l.i (step_at (steps_in l.initial.steps) l.i).aggs (arena_in l.initial.arena) (steps_in l.initial.steps) l.k (arena_in l.arena) (steps_in l.steps)
