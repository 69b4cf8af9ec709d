-- Making the edges of one step.
use mathlib.Core.Path.{◌≡◌, refl, ap, ◌∙◌}
use mathlib.Core.List.{List, [], ◌∷◌, ◌++◌, map, append_assoc, append-nil}
use Prim.Native.Nat.{ℕ, suc, ◌+◌, ◌<◌, ◌≤◌}
use native.Mathlib.Omega.{arith}
use native.Mathlib.Numerals.{add-one}
use lib.ListN.{length, get_or, take, drop, length-take}
use lib.Seq.{take-suc, take_all, length-take-le}
use Rattle.plan.specs.Lists.{numbered}
use Rattle.plan.specs.Graph.{edges_into}
use Rattle.storage.proofs.Laws.{length_table}
use Rattle.storage.specs.Edges.{stored_edge, stored_edges, made}
use Rattle.ir_graph.specs.Edges.{Linked}
use Rattle.claims.proofs.ByLine as by_line

pub length_edges : (ends edges : List ℕ) (n : ℕ) → length (stored_edges ends edges n) ≡ n
unfolding stored_edges
length_edges ends edges n = length_table (stored_edge ends edges) 0 n

-- the edges into n from one input more
numbered_more : {A : Type 0} (k : ℕ) (l : List A) (a : A) → numbered k (l ++ (a ∷ [])) ≡ numbered k l ++ ((k + length l, a) ∷ [])
unfolding numbered
numbered_more k [] a = let e : k ≡ k + 0 = omega arith in ap (λ (j : ℕ). (j, a) ∷ []) e
numbered_more k (x ∷ l) a =
    let e : suc k + length l ≡ k + suc (length l) = omega arith in
    ap (λ r. (k, x) ∷ r) (numbered_more (suc k) l a ∙ ap (λ (j : ℕ). numbered (suc k) l ++ ((j, a) ∷ [])) e)

map_more : {A B : Type 0} (f : A → B) (l : List A) (a : A) → map f (l ++ (a ∷ [])) ≡ map f l ++ (f a ∷ [])
map_more f [] a = refl
map_more f (x ∷ l) a = ap (λ r. f x ∷ r) (map_more f l a)

into_more : (n k : ℕ) (ms : List ℕ) → k < length ms → edges_into (λ j. j) n (take (k + 1) ms) ≡ edges_into (λ j. j) n (take k ms) ++ (made n k (get_or ms k 0) ∷ [])
unfolding edges_into
into_more n k ms h =
    let e : 0 + length (take k ms) ≡ k = simp length-take (omega arith) in
    rw (add-one, take-suc ms k 0 h, numbered_more 0 (take k ms) (get_or ms k 0), e) (map_more (λ (k, m). made n k m) (numbered 0 (take k ms)) (k, get_or ms k 0))

-- a step that is its own key
pub same_into : (n : ℕ) (ms : List ℕ) → edges_into (λ j. j) n ms ≡ by_line.edges_into n ms
unfolding edges_into by_line.edges_into
same_into n ms = refl

-- A loop over the inputs -----------------------------------------------------------------------------------------------------------

module _ {n e : ℕ} {ends edges : List ℕ} where
  pub none_linked : Linked n [] ends edges e ends edges e
  unfolding edges_into numbered
  none_linked = record { count = omega arith; linked = rw append-nil; firsts = refl }

  module _ (k : ℕ) (ms : List ℕ) {ends' edges' : List ℕ} {count : ℕ} (r : Linked n (take k ms) ends edges e ends' edges' count) where
    there_are : k ≤ length ms → count ≡ e + k
    there_are l = omega (arith, r.count, length-take-le k ms l)

    pub next_linked : {ends'' edges'' : List ℕ} → k < length ms
        → stored_edges ends'' edges'' (count + 1) ≡ stored_edges ends' edges' count ++ (made n k (get_or ms k 0) ∷ [])
        → drop 512 ends'' ≡ drop 512 ends'
        → Linked n (take (k + 1) ms) ends edges e ends'' edges'' (count + 1)
    next_linked l q f =
        record {
          count = omega (arith, there_are (omega arith), length-take-le (k + 1) ms (omega arith));
          linked =
              rw (q, r.linked, into_more n k ms l)
              (append_assoc (stored_edges ends edges e) (edges_into (λ j. j) n (take k ms)) (made n k (get_or ms k 0) ∷ []));
          firsts = f ∙ r.firsts;
        }

    pub all_linked : k ≡ length ms → Linked n ms ends edges e ends' edges' count
    all_linked l = rw (l, take_all (length ms) ms (omega arith)) at r
