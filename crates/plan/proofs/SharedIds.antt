-- Two Cache lines with one id, which refusals 12 and 13 turn back: the definition goes by key all the same, as the Rust does.
use mathlib.Core.Path.{◌≡◌, refl}
use Prim.Native.Nat.{ℕ}
use mathlib.Core.Bool.{false}
use mathlib.Core.List.{List, [], ◌∷◌}
use mathlib.Core.Option.{some}
use Rattle.plan.specs.declared.ir.IR.{IR}
use Rattle.plan.specs.Sheet.{Step}
use Rattle.plan.specs.Graph.{Edge, popped, key, build_ir_traversal_graph, graph, update_cache_nodes}
use Rattle.plan.proofs.Computing.{computing}

abbrev step : IR → ℕ → List ℕ → Step
step k id inputs = record { kind = k; a = id; b = 0; c = 0; inputs = inputs; exprs = []; aggs = [] }

abbrev edge : ℕ → ℕ → ℕ → Edge
edge n slot m = record { consumer = n; slot = slot; producer = some m; unordered = false }

-- a Union of lines 1 and 2, both Caches of the Scan with id 5. The first pass pops the later input first
abbrev steps : List Step
steps =
    step IR.Scan 0 [] ∷ step IR.Cache 5 (0 ∷ []) ∷ step IR.Cache 5 (0 ∷ []) ∷ step IR.Union 0 (1 ∷ 2 ∷ []) ∷ step IR.Sink 0 (3 ∷ []) ∷ []

met : popped steps ≡ 4 ∷ 3 ∷ 2 ∷ 0 ∷ 1 ∷ []
unfolding computing
met = refl

second_line : key steps 1 ≡ 2
unfolding computing
second_line = refl

-- both are placed, and the Scan follows the second place; both edges come from one key
places : (build_ir_traversal_graph steps).0 ≡ 4 ∷ 3 ∷ 1 ∷ 2 ∷ 0 ∷ []
unfolding computing
places = refl

by_key : graph steps ≡ (4 ∷ 3 ∷ 2 ∷ 2 ∷ 0 ∷ [], edge 4 0 3 ∷ edge 3 0 2 ∷ edge 3 1 2 ∷ edge 2 0 0 ∷ [])
unfolding computing
by_key = refl

-- a line met later takes the input of the one met first
taken : update_cache_nodes (key steps) (step IR.Cache 5 (7 ∷ []) ∷ step IR.Cache 5 (8 ∷ []) ∷ step IR.Cache 5 (9 ∷ []) ∷ [])
    ≡ step IR.Cache 5 (7 ∷ []) ∷ step IR.Cache 5 (9 ∷ []) ∷ step IR.Cache 5 (9 ∷ []) ∷ []
unfolding computing
taken = refl
