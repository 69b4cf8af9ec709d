-- Each record is reached at most once from the entries of all steps: so it is on a well-formed sheet.
use mathlib.Core.Path.{◌≡◌, refl, ap, sym, subst}
use mathlib.Core.Logic.{inl, inr}
use Prim.Native.Nat.{ℕ, zero, suc, ◌+◌, ◌*◌, ◌≤◌, ◌<◌}
use native.Mathlib.Omega.{arith}
use native.Mathlib.Nat.{le_refl, le_trans, not-suc-le-zero, mul-le-mul}
use native.Mathlib.Decide.{dec_lt}
use mathlib.Core.List.Memᴰ
use mathlib.Core.List.{List, [], ◌∷◌, ◌++◌, Memᴰ}
use lib.Dec.{eqb→eq, ltb, leb→le}
use lib.ListN.{length, get_or, get_or-eq_default}
use Rattle.plan.specs.Lists.{sum, concat_map, times}
use Rattle.plan.specs.Sheet.{Expr, Step, Sheet, no_expr, no_step, expr_at, step_at, in_expr_table}
use Rattle.plan.specs.Faults.{references_right, children_earlier, inputs_earlier, exprs_there, exprs_named, named_right}
use Rattle.plan.proofs.ListLaws.{and_right, of_all, sum_append}
use Rattle.plan.proofs.FaultLaws.{expr_passes, step_passes}
use Rattle.claims.specs.WellFormed.{WellFormed}
use Rattle.plan.proofs.Booleans.{all_at}
use Rattle.plan.proofs.Counts.{mem_concat, sum_concat, only}
use Rattle.claims.proofs.Sums.{sum_below, below_le, below_add, only_own}
use Rattle.claims.proofs.Loads.{kids, load, load_kids}
use Rattle.claims.proofs.Tables.{sort_has_input}
use Rattle.claims.proofs.Changes.{Fits, Formed, earlier_of, nothing_fits}

-- the entries of a step's two lists
abbrev pub entries : Step → List ℕ
entries s = s.exprs ++ s.aggs

abbrev pub step_load : (ℕ → ℕ) → List Expr → Step → ℕ
step_load w es s = sum (load w es) (entries s)

-- whatever the records weigh, the trees of all entries together weigh no more than the arena
abbrev pub Once : List Expr → List Step → Type 0
Once es ps = (w : ℕ → ℕ) → sum (step_load w es) ps ≤ sum_below w (length es)

-- A list in which no number below n stands twice -----------------------------------------------------------------------------

below_part : (w : ℕ → ℕ) (n m : ℕ) → m < n → w m ≤ sum_below w n
unfolding sum_below
below_part w zero m h = absurd (not-suc-le-zero h)
below_part w (suc n) m h = by (dec_lt m n) (below_part w n m)
  where
    by : Dec (m < n) → (m < n → w m ≤ sum_below w n) → w m ≤ sum_below w n + w n
    by (yes k) f = omega (arith, f k)
    by (no k) f = let e : m ≡ n = omega arith in omega (arith, ap w e)

spread : (L : ℕ → ℕ) (n : ℕ) (l : List ℕ) → ((m : ℕ) → Memᴰ m l → m < n) → sum L l ≤ sum_below (λ i. times i l * L i) n
unfolding sum
spread L n [] h = omega arith
spread L n (m ∷ l) h =
    let a = below_part (λ i. only i m * L i) n m (h m (Memᴰ.head refl)) in
    let own : only m m * L m ≡ L m = rw (only_own m) (omega arith) in
    let b = below_add (λ i. times i (m ∷ l) * L i) (λ i. only i m * L i) (λ i. times i l * L i) n (λ i _. omega arith) in
    omega (arith, spread L n l (λ c k. h c (Memᴰ.tail k)))

no_more : (L : ℕ → ℕ) (n : ℕ) (l : List ℕ) → ((m : ℕ) → Memᴰ m l → m < n) → ((i : ℕ) → i < n → times i l ≤ 1) → sum L l ≤ sum_below L n
no_more L n l h once =
    le_trans (spread L n l h)
    (below_le _ L n (λ i k. let t = mul-le-mul (once i k) (le_refl (L i)) in omega arith))

-- over the records of an arena, by index or as they stand
below_front : (w : ℕ → ℕ) (n : ℕ) → sum_below w (suc n) ≡ w 0 + sum_below (λ i. w (suc i)) n
unfolding sum_below
below_front w zero = omega arith
below_front w (suc n) = omega (arith, below_front w n)

below_records : {A : Type 0} (f : A → ℕ) (l : List A) (d : A) → sum_below (λ i. f (get_or l i d)) (length l) ≡ sum f l
unfolding sum sum_below
below_records f [] d = refl
below_records f (x ∷ l) d = omega (arith, below_front (λ i. f (get_or (x ∷ l) i d)) (length l), below_records f l d)

-- A well-formed sheet --------------------------------------------------------------------------------------------------------

module _ (sh : Sheet) (wf : WellFormed sh) where
  pub formed_at_start : Formed sh.exprs
  unfolding references_right children_earlier
  formed_at_start p = by (dec_lt p (length sh.exprs))
    where
      by : Dec (p < length sh.exprs) → Fits p (expr_at sh.exprs p)
      by (yes h) =
          record {
            earlier =
                λ c m.
                leb→le (suc c) p (of_all (λ q. ltb q p) (expr_at sh.exprs p).children (expr_passes (references_right sh) sh wf.tested.references p h) c m);
            input = sort_has_input (expr_at sh.exprs p) (all_at in_expr_table sh.exprs no_expr wf.exprs_in_table p h);
          }
      by (no n) = subst (Fits p) (sym (get_or-eq_default sh.exprs no_expr (omega arith))) (nothing_fits p)

  entry_inside : (n q : ℕ) → n < length sh.steps → Memᴰ q (entries (step_at sh.steps n)) → q < length sh.exprs
  unfolding references_right exprs_there
  entry_inside n q h m =
      let x : ℕ × Step = (n, step_at sh.steps n) in
      leb→le (suc q) (length sh.exprs)
      (of_all (λ q. ltb q (length sh.exprs)) (entries (step_at sh.steps n))
      (and_right (inputs_earlier sh x) (exprs_there sh x) (step_passes (references_right sh) sh wf.tested.references n h)) q m)

  named_inside : (m : ℕ) → Memᴰ m (exprs_named sh) → m < length sh.exprs
  unfolding exprs_named
  named_inside m k =
      elim (Memᴰ.append_cases (concat_map (λ (e : Expr). e.children) sh.exprs) k) [
        | inl k₁ ↦
            let (i, h, k₂) = mem_concat (λ (e : Expr). e.children) sh.exprs no_expr m k₁ in
            omega (arith, (formed_at_start i).earlier m k₂)
        | inr k₁ ↦ let (i, h, k₂) = mem_concat entries sh.steps no_step m k₁ in entry_inside i m h k₂
      ]

  pub named_once : (i : ℕ) → i < length sh.exprs → times i (exprs_named sh) ≡ 1
  unfolding named_right
  named_once i h = eqb→eq (times i (exprs_named sh)) 1 (expr_passes (named_right sh) sh wf.tested.uses i h)

  pub once_at_start : Once sh.exprs sh.steps
  unfolding exprs_named
  once_at_start w =
      let es = sh.exprs in
      let n = length es in
      let L = load w es in
      let children = concat_map (λ (e : Expr). e.children) es in
      omega (
        arith,
        no_more L n (exprs_named sh) named_inside (λ i h. omega (arith, named_once i h)),
        sum_append L children (concat_map entries sh.steps),
        sum_concat L entries sh.steps,
        sum_concat L (λ (e : Expr). e.children) es,
        below_add L w (λ p. sum L (kids es p)) n (λ p _. load_kids w es (earlier_of es formed_at_start) p),
        below_records (λ (e : Expr). sum L e.children) es no_expr,
      )
