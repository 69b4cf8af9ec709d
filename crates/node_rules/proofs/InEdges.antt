-- The edges into a step are a run of the edges.
use Rattle.std.specs.Prelude.{Option, None, Some, if◌then◌else◌}
use Rattle.std.specs.Option.{unwrap_or}
use Rattle.std.proofs.Common.{MatchOption}
use mathlib.Core.Path.{◌≡◌, refl, sym, ap, ◌∙◌}
use mathlib.Core.Logic.{◌≢◌, ◌⊎◌, inl, inr}
use Prim.Native.Nat.{ℕ, zero, suc, ◌+◌, ◌-◌, ◌≤◌, ◌<◌}
use native.Mathlib.Omega.{arith}
use native.Mathlib.Decide.{dec_lt, ℕ_discrete}
use borrow.Author.Tests.{eq-eqb, ne_eqb, lt-ltb, le-ltb}
use mathlib.Core.Bool.{Bool, true, false, not}
use mathlib.Core.List.{List, [], ◌∷◌, map, append-nil}
use lib.Dec.{eqb, ltb}
use lib.ListN.{get_or, get_or-eq_default}
use Rattle.plan.specs.Lists.{select}
use Rattle.plan.specs.Graph.{Edge}
use Rattle.storage.specs.Stored.{table}
use Rattle.storage.proofs.Laws.{length_table, table_from_at, table_split}
use Rattle.plan.proofs.ListLaws.{select_append}
use Rattle.plan.specs.Visit.{is_into, in_edge, ins_unordered, no_edge}
use Rattle.node_rules.specs.declared.in_edges.InEdges.{InEdges}
use Rattle.plan.specs.Refusals.{option_of}
use Rattle.storage.specs.Edges.{mark, stored_edge, stored_edges, InARow}
use Rattle.node_rules.specs.Held.{InRun, run_marks}
use Rattle.node_rules.proofs.EdgeLaws.{map_table}

-- Finding the run: from its first edge on, up to the first that is none of it ------------------------------------------------------

other_not : (a n : ℕ) → not (eqb a n) ≡ true → a ≢ n
other_not a n e h = let clash : false ≡ true = sym (ap not (eq-eqb a n h)) ∙ e in let z : ◌≡◌ {A = ℕ} 0 1 = cc in absurd (omega arith)

not_other : (a n : ℕ) → not (eqb a n) ≡ false → a ≡ n
not_other a n e = by (ℕ_discrete a n)
  where
    by : Dec (a ≡ n) → a ≡ n
    by (yes h) = h
    by (no h) = let clash : true ≡ false = sym (ap not (ne_eqb a n h)) ∙ e in let z : ◌≡◌ {A = ℕ} 0 1 = cc in absurd (omega arith)

-- is edge k none into n?
abbrev pub Other : List ℕ → ℕ → Bool → ℕ → Type 0
Other ends n b k = (edges : List ℕ) → not (eqb (stored_edge ends edges k).consumer n) ≡ b

-- what `find` finds, from edge a on
abbrev pub Found : List ℕ → ℕ → ℕ → ℕ → Option ℕ → Type 0
Found ends a len n r =
    MatchOption r ((k : ℕ) → a ≤ k → k < len → Other ends n false k)
    (λ i. (a ≤ i) × (i < len) × Other ends n true i × ((k : ℕ) → a ≤ k → k < i → Other ends n false k))

pub run_within : (ends : List ℕ) (a len n : ℕ) (r : Option ℕ) → a ≤ len → Found ends a len n r → (a ≤ unwrap_or r len) × (unwrap_or r len ≤ len)
run_within ends a len n None h f = (h, omega arith)
run_within ends a len n (Some i) h (from, below, other, those) = (from, omega arith)

module _ (ends : List ℕ) (len : ℕ) (d : InEdges) (rows : InARow ends len d.of) where
  -- no edge from its end on is one into its step
  run_is : d.from ≡ get_or ends (512 + d.of) 0 → d.to ≤ len → ((k : ℕ) → d.from ≤ k → k < d.to → get_or ends k 0 ≡ d.of)
      → ((k : ℕ) → d.to ≤ k → k < len → get_or ends k 0 ≢ d.of) → InRun ends len d
  run_is start fits those others = record { fits = fits; into = λ k h e. (rw start (rows.from k h e), by k h e (dec_lt k d.to)); all = those }
    where
      by : (k : ℕ) → k < len → get_or ends k 0 ≡ d.of → Dec (k < d.to) → k < d.to
      by k h e (yes x) = x
      by k h e (no x) = absurd (others k (omega (arith, x)) h e)

  pub run_found : (r : Option ℕ) → d.from ≡ get_or ends (512 + d.of) 0 → d.to ≡ unwrap_or r len → Found ends d.from len d.of r → InRun ends len d
  unfolding stored_edge
  run_found None start to those =
      run_is start (omega (arith, to)) (λ k a b. not_other _ d.of (those k a (omega (arith, to)) [])) (λ k a b. absurd (omega (arith, to)))
  run_found (Some i) start to (from, below, other, those) =
      run_is start (omega (arith, to)) (λ k a b. not_other _ d.of (those k a (omega (arith, to)) []))
      (λ k a b e. other_not _ d.of (other []) (rows.row i k (omega (arith, start, from)) (omega (arith, to)) b e))

-- What is selected by the run -----------------------------------------------------------------------------------------------------

module _ {A : Type 0} (p : A → Bool) (f : ℕ → A) where
  all_taken : (k n : ℕ) → ((j : ℕ) → k ≤ j → j < k + n → p (f j) ≡ true) → select p (table f k n) ≡ table f k n
  unfolding select table
  all_taken k zero h = refl
  all_taken k (suc n) h =
      rw (h k (omega arith) (omega arith)) (ap (λ (l : List A). f k ∷ l) (all_taken (suc k) n (λ j a b. h j (omega arith) (omega arith))))

  none_taken : (k n : ℕ) → ((j : ℕ) → k ≤ j → j < k + n → p (f j) ≡ false) → select p (table f k n) ≡ []
  unfolding select table
  none_taken k zero h = refl
  none_taken k (suc n) h = rw (h k (omega arith) (omega arith)) (none_taken (suc k) n (λ j a b. h j (omega arith) (omega arith)))

  -- those from a up to b alone
  pub run_selected : (a b n : ℕ) → a ≤ b → b ≤ n → ((j : ℕ) → j < n → a ≤ j → j < b → p (f j) ≡ true)
      → ((j : ℕ) → j < n → (j < a) ⊎ (b ≤ j) → p (f j) ≡ false) → select p (table f 0 n) ≡ table f a (b - a)
  run_selected a b n h l within without =
      let parts : n ≡ a + ((b - a) + (n - b)) = omega arith in
      let start : 0 + a ≡ a = omega arith in
      let front = none_taken 0 a (λ j x y. without j (omega arith) (inl (omega arith))) in
      let run = all_taken a (b - a) (λ j x y. within j (omega arith) x (omega arith)) in
      let rest = none_taken (a + (b - a)) (n - b) (λ j x y. without j (omega arith) (inr (omega arith))) in
      rw (parts, table_split f 0 a ((b - a) + (n - b)), start, table_split f a (b - a) (n - b), select_append, select_append, front, run, rest)
      (append-nil (table f a (b - a)))

module _ (ends edges : List ℕ) (len : ℕ) (d : InEdges) (run : InRun ends len d) where
  abbrev edge : ℕ → Edge
  edge = stored_edge ends edges

  pub inside : (j : ℕ) → d.from ≤ j → j < d.to → eqb (get_or ends j 0) d.of ≡ true
  inside j a b = eq-eqb (get_or ends j 0) d.of (run.all j a b)

  pub outside : (j : ℕ) → j < len → (j < d.from) ⊎ (d.to ≤ j) → eqb (get_or ends j 0) d.of ≡ false
  outside j h o = ne_eqb (get_or ends j 0) d.of (λ e. elim o [ inl x ↦ absurd (omega (arith, (run.into j h e).0, x)) | inr x ↦ absurd (omega (arith, (run.into j h e).1, x)) ])

  selected : select (is_into d.of) (stored_edges ends edges len) ≡ table edge d.from (d.to - d.from)
  unfolding stored_edges stored_edge
  selected = run_selected (is_into d.of) edge d.from d.to len d.order run.fits (λ j h a b. inside j a b) outside

  pub ins_are : ins_unordered d.of (stored_edges ends edges len) ≡ run_marks edges d
  unfolding ins_unordered stored_edge
  ins_are = ap (map (λ (x : Edge). x.unordered)) selected ∙ map_table (λ (x : Edge). x.unordered) edge d.from (d.to - d.from)

  pub first_in : d.from < d.to → (stored_edge ends edges d.from).producer ≡ (in_edge d.of (stored_edges ends edges len)).producer
  unfolding in_edge
  first_in h =
      let zero_more : d.from + 0 ≡ d.from = omega arith in
      rw (selected, table_from_at edge d.from (d.to - d.from) 0 no_edge (omega arith), zero_more)

  pub no_first_in : d.to ≤ d.from → option_of None ≡ (in_edge d.of (stored_edges ends edges len)).producer
  unfolding in_edge table
  no_first_in h = let none : d.to - d.from ≡ 0 = omega arith in rw (selected, none)

-- Their marks ------------------------------------------------------------------------------------------------------------------------

-- the i-th mark of a run, if it has one
pub mark_of : (edges : List ℕ) (d : InEdges) (i : ℕ) → d.from ≤ d.to
    → get_or (run_marks edges d) i false ≡ (if ltb (d.from + i) d.to then mark edges (d.from + i) else false)
mark_of edges d i h = by (dec_lt (d.from + i) d.to)
  where
    by : Dec (d.from + i < d.to)
        → get_or (run_marks edges d) i false ≡ (if ltb (d.from + i) d.to then mark edges (d.from + i) else false)
    by (yes x) = rw (lt-ltb (d.from + i) d.to x) (table_from_at (mark edges) d.from (d.to - d.from) i false (omega arith))
    by (no x) =
        let none : get_or (run_marks edges d) i false ≡ false =
        get_or-eq_default (run_marks edges d) false (omega (arith, x, length_table (mark edges) d.from (d.to - d.from))) in
        rw (le-ltb (d.from + i) d.to (omega (arith, x))) none
