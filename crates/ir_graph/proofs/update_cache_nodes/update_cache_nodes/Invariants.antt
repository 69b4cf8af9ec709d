use Rattle.std.proofs.Common.{◌≡◌}
use Rattle.storage.specs.Held.{steps_in}
use Rattle.ir_graph.specs.UpdateCaches.{Updatable}
use Rattle.ir_graph.proofs.UpdateCaches.{update_lines}
use Rattle.ir_graph.proofs.update_cache_nodes.update_cache_nodes.Given as goal

abbrev pub invariant-loop-m : goal.invariant-loop-m
invariant-loop-m l =
    (l.steps.count ≡ l.initial.steps.count) × Updatable l.first (steps_in l.steps)
    × (steps_in l.steps ≡ update_lines l.first (steps_in l.initial.steps) l.m)
