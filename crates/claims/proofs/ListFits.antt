-- The looks of a list fit in 58 bits, whichever records of a well-formed sheet its entries are.
use mathlib.Core.Path.{◌≡◌, refl}
use mathlib.Core.Logic.{inl, inr}
use Prim.Native.Nat.{ℕ, zero, suc, ◌+◌, ◌*◌, ◌≤◌, ◌<◌, ◌^◌}
use native.Mathlib.Omega.{arith}
use native.Mathlib.Nat.{le_refl, mul-le-mul, add-le-add}
use mathlib.Core.Bool.{Bool}
use mathlib.Core.List.Memᴰ
use mathlib.Core.List.{List, [], ◌∷◌, Memᴰ}
use lib.ListN.{length}
use Rattle.plan.specs.Lists.{sum, concat_map}
use Rattle.plan.specs.Sheet.{Expr, Sheet, no_expr, no_step, step_at}
use Rattle.plan.specs.Faults.{exprs_named}
use Rattle.plan.specs.Look.{Eos, simplify_projected_exprs}
use Rattle.claims.specs.WellFormed.{WellFormed}
use Rattle.claims.specs.Demand3.{records}
use Rattle.plan.proofs.Counts.{mem_concat, stands_in}
use Rattle.claims.proofs.Sums.{sum_part, sum_at}
use Rattle.claims.proofs.Loads.{kids, size, load_kids, size_records}
use Rattle.claims.proofs.Changes.{Formed, earlier_of}
use Rattle.claims.proofs.ListBound.{list_spent, list_fewer}
use Rattle.claims.proofs.Once.{entries, step_load, formed_at_start, named_once, once_at_start}
use Rattle.claims.proofs.VisitLooks.{no_load}
use Rattle.claims.proofs.RunLimits.{below_ones}

-- By the number of records of its trees -----------------------------------------------------------------------------------------

module _ (qs : List ℕ) (allow : Bool) (s : Eos) (formed : Formed s.expr_arena) where
  pub list_cost : (m : ℕ) → sum (size s.expr_arena) qs ≤ m
      → 2 * (simplify_projected_exprs qs allow s).1.tally.looks ≤ 2 * s.tally.looks + m * (m + 3)
  list_cost m h =
      let k = sum (size s.expr_arena) qs in
      let e : length (records s.expr_arena qs) ≡ k = size_records s.expr_arena qs in
      let b : 2 * (simplify_projected_exprs qs allow s).1.tally.looks ≤ 2 * s.tally.looks + k * (k + 3) =
      rw e at (list_fewer qs s (simplify_projected_exprs qs allow s).1 formed (list_spent qs allow s formed)) in
      omega (arith, b, mul-le-mul h (add-le-add h (le_refl 3)))

-- Of a well-formed sheet --------------------------------------------------------------------------------------------------------

sum_at_most : (w : ℕ → ℕ) (m : ℕ) (l : List ℕ) → ((q : ℕ) → Memᴰ q l → w q ≤ m) → sum w l ≤ length l * m
unfolding sum
sum_at_most w m [] h = omega arith
sum_at_most w m (q ∷ l) h = omega (arith, h q (Memᴰ.head refl), sum_at_most w m l (λ c k. h c (Memᴰ.tail k)))

module _ (sh : Sheet) (wf : WellFormed sh) where
  abbrev es : List Expr
  es = sh.exprs

  -- a record stands under an entry of a step, or under a later record
  size_within : (f p : ℕ) → length es ≤ p + f → p < length es → size es p ≤ length es
  unfolding exprs_named
  size_within zero p g h = absurd (omega arith)
  size_within (suc f) p g h =
      elim (Memᴰ.append_cases (concat_map (λ (e : Expr). e.children) es) (stands_in p (exprs_named sh) (omega (arith, named_once sh wf p h)))) [
        | inl k ↦
            let (i, below, m) = mem_concat (λ (e : Expr). e.children) es no_expr p k in
            let later = (formed_at_start sh wf i).earlier p m in
            omega (
              arith,
              sum_part (size es) (kids es i) p m,
              load_kids (λ _. 1) es (earlier_of es (formed_at_start sh wf)) i,
              size_within f i (omega arith) below,
            )
        | inr k ↦
            let (i, below, m) = mem_concat entries sh.steps no_step p k in
            omega (
              arith,
              sum_part (size es) (entries (step_at sh.steps i)) p m,
              sum_at (step_load (λ _. 1) es) sh.steps no_step (no_load (λ _. 1) es) i,
              once_at_start sh wf (λ _. 1),
              below_ones (length es),
            )
      ]

  pub few_below : (p : ℕ) → p < length es → size es p ≤ length es
  few_below p h = size_within (length es) p (omega arith) h

  -- any list of at most eight records, before anything is changed
  pub list_fits : (qs : List ℕ) (allow : Bool) (s : Eos) → s.expr_arena ≡ es → s.tally.looks < 2 ^ 57 → length es ≤ 128 → length qs ≤ 8
      → ((q : ℕ) → Memᴰ q qs → q < length es) → (simplify_projected_exprs qs allow s).1.tally.looks < 2 ^ 58
  list_fits qs allow s i start few short there =
      let all : sum (size es) qs ≤ length qs * length es = sum_at_most (size es) (length es) qs (λ q m. few_below q (there q m)) in
      let most : sum (size es) qs ≤ 1024 = omega (arith, all, mul-le-mul short few) in
      omega (
        arith,
        start,
        list_cost qs allow s (rw i (formed_at_start sh wf)) 1024 (rw i most),
      )
