-- Demand 3, visits: 2 × (s + e) − r.
use mathlib.Core.Path.{◌≡◌, refl, ap, sym, ◌∙◌, subst}
use mathlib.Core.Logic.{inl, inr}
use Prim.Native.Nat.{ℕ, zero, suc, ◌+◌, ◌*◌}
use native.Mathlib.Omega.{arith}
use mathlib.Core.List.{List, [], ◌∷◌, ◌++◌}
use lib.ListN.{length, length-append, length-map, length-reverse}
use Rattle.plan.specs.Lists.{numbered}
use Rattle.plan.specs.Sheet.{Step, Sheet, Outcome, done}
use Rattle.plan.specs.Graph.{Edge, key, build_ir_traversal_graph, graph, grow, popped, following, edges_into, sinks, most_places}
use Rattle.plan.specs.Visit.{Run, simplify_ir_node_orders, unlink_node, settled_by}
use Rattle.plan.proofs.Settling.{settled}
use Rattle.plan.specs.Walks.{walk, trace, then_all, begin, down, up, trace_by, walk_by}
use Rattle.plan.proofs.Outcomes.{both_done}
use Rattle.claims.proofs.Walks.{two_ways}
use Rattle.claims.proofs.VisitsKept.{visit_visits}

-- what k visits do to the tallies
pub record Tallies (k : ℕ) (r r' : Run) : Type 0 where
  pub visits : r'.tally.visits ≡ r.tally.visits + k
  pub back : length r'.back + length r'.removed ≡ length r.back + length r.removed + k
  pub edges : length r'.edges ≡ length r.edges

unlinked : (n : ℕ) (r : Run) → Tallies 1 r (unlink_node n r)
unfolding unlink_node
unlinked n r = record { visits = refl; back = omega arith; edges = simp length-map }

settles : (n : ℕ) (r : Run) → Tallies 1 r (settled n r)
unfolding settled_by
settles n r = record { visits = omega (arith, visit_visits n r); back = omega arith; edges = simp length-map }

pub visited : (n : ℕ) (r : Run) {r' : Run} → simplify_ir_node_orders n r ≡ done r' → Tallies 1 r r'
visited n r e =
    elim (two_ways n r e) [
      | inl (_, i) ↦ subst (Tallies 1 r) (sym i) (unlinked n r)
      | inr (_, i) ↦ subst (Tallies 1 r) (sym i) (settles n r)
    ]

pub walked : (ns : List ℕ) (r : Run) {r' : Run} → walk ns r ≡ done r' → Tallies (length ns) r r'
unfolding walk_by
walked [] r {r'} e =
    let same : r ≡ r' = cc in
    subst (Tallies 0 r) same (record { visits = omega arith; back = omega arith; edges = refl })
walked (n ∷ ns) r {r'} e =
    let (r₁, first, rest) = both_done (simplify_ir_node_orders n r) (λ x. walk ns x) e in
    let t = visited n r first in
    let u = walked ns r₁ rest in
    record { visits = omega arith; back = omega arith; edges = omega arith }

-- a walk that comes to its end makes a visit at each of its places
pub traced : (ns : List ℕ) (r : Run) {r' : Run} → walk ns r ≡ done r' → length (trace ns r) ≡ length ns
unfolding walk_by trace_by
traced [] r e = refl
traced (n ∷ ns) r e =
    let (r₁, first, rest) = both_done (simplify_ir_node_orders n r) (λ x. walk ns x) e in
    ap suc (ap (λ (o : Outcome Run). length (then_all o (λ x. trace ns x))) first ∙ traced ns r₁ rest)

pub length_numbered : {A : Type 0} (k : ℕ) (l : List A) → length (numbered k l) ≡ length l
unfolding numbered
length_numbered k [] = refl
length_numbered k (x ∷ l) = ap suc (length_numbered (suc k) l)

pub length_edges_into : (key : ℕ → ℕ) (n : ℕ) (ms : List ℕ) → length (edges_into key n ms) ≡ length ms
unfolding edges_into
length_edges_into key n ms = simp (length-map, length_numbered)

-- a place of the visiting list for each root and each edge
grown : (key : ℕ → ℕ) (f : ℕ) (ps : List Step) (met past waiting : List ℕ) (es : List Edge)
    → length (grow key f ps met past waiting es).0 + length es ≡ length past + length waiting + length (grow key f ps met past waiting es).1
unfolding grow
grown key zero ps met past waiting es = simp (length-append, length-reverse) (omega arith)
grown key (suc f) ps met past [] es = simp length-reverse (omega arith)
grown key (suc f) ps met past (n ∷ ns) es =
    let ms = following key ps met past n in
    omega (arith, simp (length-append, length_edges_into) at (grown key f ps met (n ∷ past) (ns ++ ms) (es ++ edges_into key n ms)))

pub places_counted : (ps : List Step) → length (graph ps).0 ≡ length (sinks ps) + length (graph ps).1
unfolding graph build_ir_traversal_graph
places_counted ps = simp length-map (omega (arith, grown (key ps) (most_places ps) ps (popped ps) [] (sinks ps) []))

pub visits_counted : (sh : Sheet) (half whole : Run) → down sh ≡ done half → up half ≡ done whole
    → whole.tally.visits + length half.removed ≡ 2 * (length (sinks sh.steps) + length whole.edges)
unfolding down up begin
visits_counted sh half whole e₁ e₂ =
    let t = walked (graph sh.steps).0 (begin sh) e₁ in
    let u = walked half.back half e₂ in
    omega (arith, places_counted sh.steps)

pub visits_taken : (sh : Sheet) (half whole : Run) → down sh ≡ done half → up half ≡ done whole
    → whole.tally.visits ≡ length (trace (graph sh.steps).0 (begin sh)) + length (trace half.back half)
unfolding down up begin
visits_taken sh half whole e₁ e₂ =
    let t = walked (graph sh.steps).0 (begin sh) e₁ in
    let u = walked half.back half e₂ in
    omega (arith, traced (graph sh.steps).0 (begin sh) e₁, traced half.back half e₂)
