-- Both passes of the graph where each step is its own key: a plan in which each id has one Cache line.
use Rattle.std.specs.Prelude.{if◌then◌else◌}
use Prim.Native.Nat.{ℕ, zero, suc, ◌+◌}
use mathlib.Core.Bool.{Bool, false, ◌&&◌, ◌||◌, not}
use mathlib.Core.List.{List, [], ◌∷◌, ◌++◌, map, reverse}
use mathlib.Core.Option.{some}
use lib.Dec.{eqb}
use Rattle.plan.specs.Lists.{numbered, among, times}
use Rattle.plan.specs.Sheet.{Step, step_at}
use Rattle.plan.specs.Graph.{Edge, sinks, is_cache, most_places}

unfoldable pub pushes : List Step → List ℕ → ℕ → List ℕ
pushes ps met n = if is_cache ps n && among n met then [] else (step_at ps n).inputs

unfoldable pub pop : ℕ → List Step → List ℕ → List ℕ → List ℕ
pop zero ps met stack = met
pop (suc f) ps met [] = met
pop (suc f) ps met (n ∷ stack) = pop f ps (met ++ (n ∷ [])) (reverse (pushes ps met n) ++ stack)

unfoldable pub popped : List Step → List ℕ
popped ps = pop (most_places ps) ps [] (reverse (sinks ps))

abbrev pub hits : List ℕ → ℕ → ℕ
hits met n = times n met

unfoldable pub opens : List Step → List ℕ → List ℕ → ℕ → Bool
opens ps met past n = not (is_cache ps n) || eqb (times n past + 1) (hits met n)

unfoldable pub following : List Step → List ℕ → List ℕ → ℕ → List ℕ
following ps met past n = if opens ps met past n then (step_at ps n).inputs else []

unfoldable pub edges_into : ℕ → List ℕ → List Edge
edges_into n ms = map (λ (k, m). record { consumer = n; slot = k; producer = some m; unordered = false }) (numbered 0 ms)

unfoldable pub grow : ℕ → List Step → List ℕ → List ℕ → List ℕ → List Edge → List ℕ × List Edge
grow zero ps met past waiting es = (reverse past ++ waiting, es)
grow (suc f) ps met past [] es = (reverse past, es)
grow (suc f) ps met past (n ∷ ns) es =
    let ms = following ps met past n in
    grow f ps met (n ∷ past) (ns ++ ms) (es ++ edges_into n ms)

unfoldable pub graph : List Step → List ℕ × List Edge
graph ps = grow (most_places ps) ps (popped ps) [] (sinks ps) []
