-- What a store into the edges' arrays changes: one field of one edge, or an edge more, or the number of a first in-edge.
use Rattle.std.specs.Prelude.{if◌then◌else◌}
use mathlib.Core.Path.{◌≡◌, refl, ap, ◌∙◌}
use mathlib.Core.Logic.{◌≢◌}
use Prim.Native.Nat.{ℕ, ◌+◌, ◌≤◌, ◌<◌}
use native.Mathlib.Omega.{arith}
use borrow.Author.Tests.{ne_eqb}
use mathlib.Core.Bool.{Bool, true, false, ◌||◌}
use mathlib.Core.List.{List, [], ◌∷◌, ◌++◌}
use mathlib.Core.Option.{none, some}
use lib.Dec.{T, eqb, eqb→eq}
use lib.ListN.{length, get_or, drop, set, length-set}
use lib.Seq.{get_or-set_same, get_or-set_other, drop-set-lt}
use Rattle.plan.specs.Lists.{yes?}
use Rattle.plan.specs.Graph.{Edge}
use Rattle.plan.specs.Visit.{is_out_of}
use Rattle.storage.specs.Edges.{producer_of, stored_edge, stored_edges, made, with_mark, with_producer, loosened_if, produced_if, EdgeChanged}
use Rattle.storage.proofs.Laws.{same_table, one_entry_more}

-- the mark that is stored
marked_if : (b : Bool) (u : ℕ) → yes? (if b then 1 else u) ≡ (yes? u || b)
marked_if b u = by b (yes? u) refl
  where
    by : (b m : Bool) → yes? u ≡ m → yes? (if b then 1 else u) ≡ (m || b)
    by true true e = refl
    by true false e = refl
    by false true e = e
    by false false e = e

module _ (ends edges : List ℕ) (k v : ℕ) (few : k < 256) (size : length edges ≡ 512) where
  pub mark_stored : stored_edge ends (set edges (256 + k) v) k ≡ with_mark (yes? v) (stored_edge ends edges k)
  unfolding stored_edge
  mark_stored = rw (get_or-set_same edges (256 + k) v 0 (omega (arith, size)), get_or-set_other edges (256 + k) k v 0 (omega arith))

  pub mark_elsewhere : (j : ℕ) → j < 256 → j ≢ k → stored_edge ends (set edges (256 + k) v) j ≡ stored_edge ends edges j
  unfolding stored_edge
  mark_elsewhere j h d =
      rw (get_or-set_other edges (256 + k) (256 + j) v 0 (λ e. d (omega (arith, e))), get_or-set_other edges (256 + k) j v 0 (λ e. omega (arith, e)))

  pub producer_stored : stored_edge ends (set edges k v) k ≡ with_producer (producer_of v) (stored_edge ends edges k)
  unfolding stored_edge
  producer_stored = rw (get_or-set_same edges k v 0 (omega (arith, size)), get_or-set_other edges k (256 + k) v 0 (λ e. omega (arith, e)))

  pub producer_elsewhere : (j : ℕ) → j < 256 → j ≢ k → stored_edge ends (set edges k v) j ≡ stored_edge ends edges j
  unfolding stored_edge
  producer_elsewhere j h d =
      rw (get_or-set_other edges k j v 0 d, get_or-set_other edges k (256 + j) v 0 (λ e. omega (arith, e)))

  -- v is the mark, or the producer, that the code stores
  pub loosened_there : (b : Bool) → v ≡ (if b then 1 else get_or edges (256 + k) 0) → EdgeChanged (loosened_if b) ends k edges (set edges (256 + k) v)
  unfolding stored_edge
  loosened_there b e =
      record { here = mark_stored ∙ ap (λ (u : Bool). with_mark u (stored_edge ends edges k)) (ap yes? e ∙ marked_if b (get_or edges (256 + k) 0)); elsewhere = mark_elsewhere }

  pub produced_there : (b : Bool) (p : ℕ) → v ≡ (if b then p else get_or edges k 0) → EdgeChanged (produced_if b p) ends k edges (set edges k v)
  unfolding stored_edge
  produced_there b p e = record { here = producer_stored ∙ rw e (by b); elsewhere = producer_elsewhere }
    where
      edge : ℕ → Edge
      edge q = with_producer (producer_of q) (stored_edge ends edges k)

      by : (b : Bool) → edge (if b then p else get_or edges k 0) ≡ (if b then edge p else edge (get_or edges k 0))
      by true = refl
      by false = refl

-- the producer 255 is no step's
pub out_of_stored : (ends edges : List ℕ) (k n : ℕ) → n < 32 → eqb (get_or edges k 0) n ≡ is_out_of n (stored_edge ends edges k)
unfolding stored_edge
out_of_stored ends edges k n h = by (eqb (get_or edges k 0) 255) (λ t. eqb→eq (get_or edges k 0) 255 t)
  where
    p : ℕ
    p = get_or edges k 0

    by : (b : Bool) → (T b → p ≡ 255)
        → ◌≡◌ {A = Bool} (eqb p n) (elim (if b then none else some p) [ none ↦ false | some m ↦ eqb m n ])
    by true f = ne_eqb p n (λ i. absurd (omega (arith, f tt)))
    by false f = refl

-- An edge more, at the end ---------------------------------------------------------------------------------------------------------

-- a byte at e and one at 256 + e
module _ (l : List ℕ) (e a b : ℕ) where
  abbrev two_set : List ℕ
  two_set = set (set l e a) (256 + e) b

  one_there : e < length l → get_or two_set e 0 ≡ a
  one_there h = get_or-set_other (set l e a) (256 + e) e b 0 (omega arith) ∙ get_or-set_same l e a 0 h

  other_there : 256 + e < length l → get_or two_set (256 + e) 0 ≡ b
  other_there h = get_or-set_same (set l e a) (256 + e) b 0 (simp length-set h)

  rest_there : (j : ℕ) → j ≢ e → j ≢ 256 + e → get_or two_set j 0 ≡ get_or l j 0
  rest_there j h h' = get_or-set_other (set l e a) (256 + e) j b 0 h' ∙ get_or-set_other l e j a 0 h

-- one edge more
pub edge_more : (ends edges : List ℕ) (e n k m : ℕ) → e < 256 → m < 255 → length ends ≡ 544 → length edges ≡ 512
    → (stored_edges (two_set ends e n k) (two_set edges e m 0) (e + 1) ≡ stored_edges ends edges e ++ (made n k m ∷ []))
    × (drop 512 (two_set ends e n k) ≡ drop 512 ends)
unfolding stored_edges stored_edge
edge_more ends edges e n k m h h' s s' = (
  one_entry_more (stored_edge (two_set ends e n k) (two_set edges e m 0)) e
      ∙ rw (
        one_there ends e n k (omega arith),
        other_there ends e n k (omega arith),
        one_there edges e m 0 (omega arith),
        other_there edges e m 0 (omega arith),
        ne_eqb m 255 (λ x. omega (arith, x)),
      )
      (ap (λ (l : List Edge). l ++ (made n k m ∷ []))
      (same_table (stored_edge (two_set ends e n k) (two_set edges e m 0)) (stored_edge ends edges) e
      (λ j l. rw (
        rest_there ends e n k j (omega arith) (omega arith),
        rest_there ends e n k (256 + j) (omega arith) (omega arith),
        rest_there edges e m 0 j (omega arith) (omega arith),
        rest_there edges e m 0 (256 + j) (omega arith) (omega arith),
      )))),
  drop-set-lt 512 (set ends e n) (256 + e) k (omega arith) ∙ drop-set-lt 512 ends e n (omega arith),
)

-- the number of a first in-edge is no part of an edge
pub first_set : (ends edges : List ℕ) (m v n : ℕ) → n ≤ 256 → stored_edges (set ends (512 + m) v) edges n ≡ stored_edges ends edges n
unfolding stored_edges stored_edge
first_set ends edges m v n h =
    same_table (stored_edge (set ends (512 + m) v) edges) (stored_edge ends edges) n
    (λ j l. rw (get_or-set_other ends (512 + m) j v 0 (omega arith), get_or-set_other ends (512 + m) (256 + j) v 0 (omega arith)))
