-- The upward walk removes nothing.
use mathlib.Core.Path.{◌≡◌, refl, ap, ◌∙◌, subst}
use mathlib.Core.Logic.{inl, inr}
use Prim.Native.Nat.{ℕ, ◌≤◌}
use native.Mathlib.Omega.{arith}
use mathlib.Core.Bool.{false}
use mathlib.Core.List.Memᴰ
use mathlib.Core.List.{List, [], ◌∷◌}
use lib.Dec.{T}
use Rattle.plan.specs.Sheet.{Step, done, step_at}
use Rattle.plan.specs.Graph.{Edge}
use Rattle.plan.specs.Visit.{Run, simplify_ir_node_orders, goes, loosened, is_out_of, no_edge, out_edge, settled_by}
use Rattle.plan.proofs.Settling.{ruling, ruled_step}
use Rattle.claims.proofs.Walks.{two_ways}
use Rattle.plan.proofs.Counts.{false_of, T_of, not_both, mem_at, counted_in, only_one, count_map}
use Rattle.claims.proofs.Edges.{edge_at, outs, out_edge_there}
use Rattle.claims.proofs.Stays.{unsliced_sort, ruling_sort, sorts_kept, goes_sort, Held, Kept, kept_part, kept_visit}

-- the one edge out of n is the one that is held
pub held_out : (n : ℕ) (rest : List ℕ) (r : Run) → outs n r.edges ≤ 1 → Held n rest r.edges → (out_edge n r.edges).unordered ≡ false
held_out n rest r h k =
    let there = mem_at r.edges k.at no_edge k.there in
    let (m, o) = out_edge_there n r.edges (counted_in (is_out_of n) r.edges (edge_at k.at r) there k.leaves) in
    ap (λ (d : Edge). d.unordered) (only_one (is_out_of n) r.edges h (out_edge n r.edges) (edge_at k.at r) m o there k.leaves) ∙ k.ordered

-- the run r, with `rest` still to be visited on the way up, after a downward walk that removed `gone`
pub record Rising (ps : List Step) (gone : List ℕ) (rest : List ℕ) (r : Run) : Type 0 where
  pub sorts : (n : ℕ) → unsliced_sort (step_at r.steps n) ≡ unsliced_sort (step_at ps n)
  pub one_out : (n : ℕ) → T (unsliced_sort (step_at ps n)) → outs n r.edges ≤ 1
  pub kept : Kept ps rest [] r.edges
  pub removed : r.removed ≡ gone

pub rising_stays : (ps : List Step) (gone : List ℕ) (n : ℕ) (rest : List ℕ) (r : Run) → Rising ps gone (n ∷ rest) r → goes n r ≡ false
rising_stays ps gone n rest r g =
    false_of (goes n r)
    (λ t.
    let (s, o) = goes_sort n r t in
    let u = subst T (g.sorts n) s in
    not_both (out_edge n r.edges).unordered o (held_out n [] r (g.one_out n u) (g.kept.0 u)))

pub rising_visit : (ps : List Step) (gone : List ℕ) (n : ℕ) (rest : List ℕ) (r r' : Run) → Rising ps gone (n ∷ rest) r → simplify_ir_node_orders n r ≡ done r'
    → Rising ps gone rest r'
unfolding settled_by
rising_visit ps gone n rest r r' g e =
    elim (two_ways n r e) [
      | inl w ↦ absurd (not_both (goes n r) (T_of (goes n r) w.0) (rising_stays ps gone n rest r g))
      | inr w ↦
          record {
            sorts =
                λ k. ap (λ (q : Run). unsliced_sort (step_at q.steps k)) w.1
                ∙ sorts_kept r.steps n (ruled_step n r) (ruling_sort n r) k ∙ g.sorts k;
            one_out =
                λ k t. omega (
                  arith,
                  g.one_out k t,
                  ap (λ (q : Run). outs k q.edges) w.1,
                  count_map (is_out_of k) (loosened n (ruling n r).loosened) r.edges,
                );
            kept =
                kept_part ps rest (n ∷ []) [] r'.edges (λ m i. absurd (Memᴰ.not-nil i))
                (kept_visit ps rest (n ∷ []) n r e (Memᴰ.head refl) g.kept.1);
            removed = ap (λ (q : Run). q.removed) w.1 ∙ g.removed;
          }
    ]
