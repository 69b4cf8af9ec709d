-- Every finished sheet has a P line: an accepted one has, and no visit takes one away.
use mathlib.Core.Path.{◌≡◌, ap}
use Prim.Native.Nat.{ℕ, ◌≤◌}
use native.Mathlib.Omega.{arith}
use mathlib.Core.Bool.{not}
use mathlib.Core.List.{List, [], ◌∷◌}
use lib.Dec.{T}
use lib.ListN.{length, length-map}
use Rattle.plan.specs.Lists.{empty?}
use Rattle.plan.specs.Sheet.{Step, Sheet, done, ◌then◌, read}
use Rattle.plan.specs.Faults.{checked}
use Rattle.plan.specs.Graph.{graph, update_cache_nodes}
use Rattle.plan.specs.Visit.{Run, simplify_ir_node_orders}
use Rattle.plan.specs.Walks.{begin, down, up, updated, simplify_and_fetch_orderings}
use Rattle.plan.specs.Finished.{run}
use Rattle.plan.proofs.Outcomes.{both_done}
use Rattle.claims.proofs.Taken.{well_formed}
use Rattle.claims.proofs.Ends.{ends}
use Rattle.claims.proofs.Sizes.{steps_kept}
use Rattle.claims.proofs.Visits.{length_numbered}
use Rattle.claims.proofs.Walks.{walk_keeps}

abbrev HasStep : List ℕ → Run → Type 0
HasStep ns r = 1 ≤ length r.steps

kept : (n : ℕ) (ns : List ℕ) (r r' : Run) → HasStep (n ∷ ns) r → simplify_ir_node_orders n r ≡ done r' → HasStep ns r'
kept n ns r r' h e = omega (arith, h, steps_kept n r e)

some : (l : List Step) → T (not (empty? l)) → 1 ≤ length l
some [] t = absurd t
some (x ∷ l) t = omega arith

updated_count : (sh : Sheet) (r : Run) → length (updated sh r).steps ≡ length r.steps
unfolding updated update_cache_nodes
updated_count sh r = simp (length-map, length_numbered)

pub has_step : (s : List ℕ) (r : Run) → run s ≡ done r → 1 ≤ length r.steps
unfolding run down up begin
has_step s r e =
    let (sh, accepted, walks) = both_done (read s then checked) simplify_and_fetch_orderings e in
    let x = ends sh r walks in
    let first = some sh.steps (well_formed s sh accepted).has_plan in
    let half = walk_keeps HasStep kept (graph sh.steps).0 (begin sh) first x.down_ends in
    let whole = walk_keeps HasStep kept x.half.back x.half half x.up_ends in
    omega (arith, whole, updated_count sh x.whole, ap (λ (q : Run). length q.steps) x.updates)
