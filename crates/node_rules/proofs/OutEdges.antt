-- The edges out of a step are found by going through all edges.
use Rattle.std.specs.Prelude.{if◌then◌else◌}
use mathlib.Core.Path.{◌≡◌, refl, sym, ap, ap₂, ◌∙◌}
use Prim.Native.Nat.{ℕ, zero, suc, ◌+◌, ◌<◌, ◌≤◌}
use native.Mathlib.Omega.{arith}
use native.Mathlib.Numerals.{add-one}
use native.Mathlib.Decide.{dec_lt}
use borrow.Author.Tests.{lt-ltb, le-ltb}
use mathlib.Core.Bool.{Bool, true, false, ◌&&◌, ◌||◌, not, or-false, or-true}
use mathlib.Core.List.{List, [], ◌∷◌}
use lib.Dec.{ltb}
use lib.ListN.{get_or, drop, get_or-eq_default}
use lib.Seq.{drop-cons, drop-length}
use Rattle.plan.specs.Lists.{all?, select}
use Rattle.plan.specs.Graph.{Edge}
use Rattle.storage.specs.Stored.{table}
use Rattle.storage.proofs.Laws.{length_table, table_at}
use Rattle.plan.specs.Visit.{is_out_of, no_edge, out_edge, outs_unordered}
use Rattle.claims.specs.Demand3.{leaving_among}
use Rattle.claims.proofs.Edges.{out_edge_at}
use Rattle.storage.specs.Edges.{mark, stored_edge, stored_edges}

module _ (ends edges : List ℕ) (len n : ℕ) where
  abbrev edge : ℕ → Edge
  edge = stored_edge ends edges

  abbrev ds : List Edge
  ds = stored_edges ends edges len

  -- The first of them: k edges were gone through, and none of them is one ------------------------------------------------------------

  abbrev LeavesFrom : ℕ → Type 0
  LeavesFrom k = leaving_among n ds ≡ k + leaving_among n (drop k ds)

  leaves : (k : ℕ) → k < len → (b : Bool) → is_out_of n (edge k) ≡ b
      → leaving_among n (drop k ds) ≡ (if b then 0 else suc (leaving_among n (drop (k + 1) ds)))
  unfolding stored_edges leaving_among
  leaves k h b e =
      rw (next, leaving_among, e) (by b (leaving_among n (drop (k + 1) (table edge 0 len))))
    where
      next : drop k (table edge 0 len) ≡ edge k ∷ drop (k + 1) (table edge 0 len)
      next =
          drop-cons (table edge 0 len) k no_edge (omega (arith, length_table edge 0 len))
          ∙ rw (table_at edge len k no_edge h) (ap (λ (j : ℕ). edge k ∷ drop j (table edge 0 len)) (sym (add-one k)))

      by : (b : Bool) (m : ℕ) → ◌≡◌ {A = ℕ} (elim b [ true ↦ 0 | false ↦ suc m ]) (if b then 0 else suc m)
      by true m = refl
      by false m = refl

  -- none of the first k is one
  none_before : (k : ℕ) → k ≤ len → ((j : ℕ) → j < k → is_out_of n (edge j) ≡ false) → LeavesFrom k
  none_before zero h f = omega arith
  none_before (suc k) h f =
      let v : LeavesFrom k = none_before k (omega arith) (λ j l. f j (omega arith)) in
      omega (arith, v, rw add-one at (leaves k (omega arith) false (f k (omega arith))))

  pub first_leaves : (k : ℕ) → k < len → is_out_of n (edge k) ≡ true → ((j : ℕ) → j < k → is_out_of n (edge j) ≡ false) → k ≡ leaving_among n ds
  first_leaves k h e f = omega (arith, none_before k (omega arith) f, leaves k h true e)

  pub none_leaves : ((j : ℕ) → j < len → is_out_of n (edge j) ≡ false) → len ≡ leaving_among n ds
  unfolding stored_edges leaving_among
  none_leaves f =
      let last : drop len (table edge 0 len) ≡ [] =
      ap (λ (j : ℕ). drop j (table edge 0 len)) (sym (length_table edge 0 len)) ∙ drop-length (table edge 0 len) in
      let w : leaving_among n (table edge 0 len) ≡ len + 0 = rw last at (none_before len (omega arith) f) in
      omega (arith, w)

  -- is it unordered?
  pub out_is : (k : ℕ) → k ≡ leaving_among n ds → (if ltb k len then mark edges k else false) ≡ (out_edge n ds).unordered
  unfolding stored_edges stored_edge
  out_is k e = by (dec_lt k len) ∙ ap (λ (x : Edge). x.unordered) (ap (λ (m : ℕ). get_or ds m no_edge) e ∙ out_edge_at n ds)
    where
      by : Dec (k < len) → (if ltb k len then mark edges k else false) ≡ (get_or (table edge 0 len) k no_edge).unordered
      by (yes h) = rw (lt-ltb k len h, table_at edge len k no_edge h)
      by (no h) =
          let none : get_or (table edge 0 len) k no_edge ≡ no_edge =
          get_or-eq_default (table edge 0 len) no_edge (omega (arith, h, length_table edge 0 len)) in
          rw (le-ltb k len (omega (arith, h)), none)

  -- All of them ------------------------------------------------------------------------------------------------------------------------

  -- an edge that is none of them, or is unordered
  abbrev pub loose : Edge → Bool
  loose d = d.unordered || not (is_out_of n d)

  all_selected : (l : List Edge) → all? (λ (d : Edge). d.unordered) (select (is_out_of n) l) ≡ all? loose l
  unfolding all? select
  all_selected [] = refl
  all_selected (d ∷ l) = by (is_out_of n d) (all_selected l)
    where
      rest : List Edge
      rest = select (is_out_of n) l

      by : (o : Bool) → all? (λ (d : Edge). d.unordered) rest ≡ all? loose l
          → all? (λ (d : Edge). d.unordered) (if o then d ∷ rest else rest) ≡ ((d.unordered || not o) && all? loose l)
      by true e = ap₂ (λ (x y : Bool). x && y) (sym (or-false d.unordered)) e
      by false e = rw (or-true d.unordered) e

  pub loose_is : (k : ℕ) → loose (edge k) ≡ (mark edges k || not (is_out_of n (edge k)))
  unfolding stored_edge
  loose_is k = refl

  pub outs_are : (r : Bool) → r ≡ all? loose (table edge 0 len) → r ≡ outs_unordered n ds
  unfolding outs_unordered stored_edges
  outs_are r v = v ∙ sym (all_selected (table edge 0 len))
