-- The load of a record: the weights of the records of its tree, added up. And what another record at one place does to it.
use mathlib.Core.Path.{◌≡◌, refl, ap, sym, ◌∙◌, subst}
use mathlib.Core.Logic.{◌≢◌}
use Prim.Native.Nat.{ℕ, zero, suc, ◌+◌, ◌≤◌, ◌<◌}
use native.Mathlib.Omega.{arith}
use native.Mathlib.Nat.{le_refl, not-suc-le-zero}
use native.Mathlib.Decide.{ℕ_discrete}
use mathlib.Core.List.{List, Memᴰ}
use lib.ListN.{length, set}
use lib.Seq.{get_or-set_same, get_or-set_other}
use Rattle.plan.specs.Lists.{sum}
use Rattle.plan.specs.Sheet.{Expr, no_expr, expr_at}
use Rattle.plan.specs.Faults.{reach, tree}
use Rattle.claims.specs.Demand3.{records}
use Rattle.claims.specs.Limits.{ChildrenEarlier}
use Rattle.plan.proofs.Counts.{sum_eq, sum_le, sum_concat, sum_ones, stands_in, only}
use Rattle.claims.proofs.Sums.{sum_none, only_own, only_other}

abbrev pub kids : List Expr → ℕ → List ℕ
kids es p = (expr_at es p).children

load_within : ℕ → (ℕ → ℕ) → List Expr → ℕ → ℕ
load_within zero w es p = 0
load_within (suc f) w es p = w p + sum (λ q. load_within f w es q) (kids es p)

pub load : (ℕ → ℕ) → List Expr → ℕ → ℕ
load w es p = load_within (suc p) w es p

abbrev pub size : List Expr → ℕ → ℕ
size es p = load (λ _. 1) es p

-- it is the sum over the records reached
within_reach : (f : ℕ) (w : ℕ → ℕ) (es : List Expr) (p : ℕ) → load_within f w es p ≡ sum w (reach f es p)
unfolding load_within reach sum
within_reach zero w es p = refl
within_reach (suc f) w es p =
    ap (λ n. w p + n)
    (sum_eq (λ q. load_within f w es q) (λ q. sum w (reach f es q)) (kids es p) (λ q _. within_reach f w es q)
    ∙ sym (sum_concat w (λ q. reach f es q) (kids es p)))

load_tree : (w : ℕ → ℕ) (es : List Expr) (p : ℕ) → load w es p ≡ sum w (tree es p)
unfolding load
load_tree w es p = within_reach (suc p) w es p

pub load_records : (w : ℕ → ℕ) (es : List Expr) (qs : List ℕ) → sum w (records es qs) ≡ sum (load w es) qs
load_records w es qs = sum_concat w (tree es) qs ∙ sum_eq _ _ qs (λ q _. sym (load_tree w es q))

pub size_records : (es : List Expr) (qs : List ℕ) → length (records es qs) ≡ sum (size es) qs
size_records es qs = sym (sum_ones (records es qs)) ∙ load_records (λ _. 1) es qs

-- a record that the load of a list counts is among its records
pub among_records : (v : ℕ) (es : List Expr) (qs : List ℕ) → 1 ≤ sum (load (only v) es) qs → Memᴰ v (records es qs)
among_records v es qs h = stands_in v (records es qs) (rw (load_records (only v) es qs) h)

-- weighing less
pub load_le : (v w : ℕ → ℕ) (es : List Expr) (p : ℕ) → ((q : ℕ) → v q ≤ w q) → load v es p ≤ load w es p
load_le v w es p h = rw (load_tree v es p, load_tree w es p) (sum_le v w (tree es p) (λ q _. h q))

-- enough fuel is enough
stable : (w : ℕ → ℕ) (es : List Expr) → ChildrenEarlier es → (f g p : ℕ) → p < f → p < g → load_within f w es p ≡ load_within g w es p
unfolding load_within
stable w es d zero g p h k = absurd (not-suc-le-zero h)
stable w es d (suc f) zero p h k = absurd (not-suc-le-zero k)
stable w es d (suc f) (suc g) p h k =
    ap (λ n. w p + n)
    (sum_eq (λ q. load_within f w es q) (λ q. load_within g w es q) (kids es p)
    (λ q m. stable w es d f g q (omega (arith, d p q m)) (omega (arith, d p q m))))

-- p's own weight, and the loads of its children
pub load_kids : (w : ℕ → ℕ) (es : List Expr) → ChildrenEarlier es → (p : ℕ) → load w es p ≡ w p + sum (load w es) (kids es p)
unfolding load load_within
load_kids w es d p =
    ap (λ n. w p + n)
    (sum_eq (λ q. load_within p w es q) (load w es) (kids es p) (λ q m. stable w es d p (suc q) q (d p q m) (le_refl _)))

module _ (es : List Expr) (d : ChildrenEarlier es) where
  pub load_own : (p : ℕ) → 1 ≤ load (only p) es p
  load_own p = omega (arith, load_kids (only p) es d p, only_own p)

  pub outside_own : (v p : ℕ) → load (only v) es p ≡ 0 → v ≢ p
  outside_own v p h e = let own = subst (λ n. 1 ≤ load (only n) es p) (sym e) (load_own p) in omega arith

  -- a later record is in no tree
  later_below : (v f q : ℕ) → q < f → q < v → load (only v) es q ≡ 0
  later_below v zero q h k = absurd (not-suc-le-zero h)
  later_below v (suc f) q h k =
      let none = sum_none (load (only v) es) (kids es q) (λ c m. later_below v f c (omega (arith, d q c m)) (omega (arith, d q c m))) in
      omega (arith, load_kids (only v) es d q, only_other v q (λ e. omega arith))

  pub later_none : (v q : ℕ) → q < v → load (only v) es q ≡ 0
  later_none v q h = later_below v (suc q) q (le_refl _) h

-- Another record at p ----------------------------------------------------------------------------------------------------

pub kids_same : (es : List Expr) (p : ℕ) (e : Expr) → p < length es → kids (set es p e) p ≡ e.children
kids_same es p e h = ap (λ (x : Expr). x.children) (get_or-set_same es p e no_expr h)

pub kids_other : (es : List Expr) (p q : ℕ) (e : Expr) → q ≢ p → kids (set es p e) q ≡ kids es q
kids_other es p q e n = ap (λ (x : Expr). x.children) (get_or-set_other es p q e no_expr n)

-- no load grows if the new children's loads are no more than the old ones'
module _ (w : ℕ → ℕ) (es : List Expr) (p : ℕ) (e : Expr) (d : ChildrenEarlier es) (d' : ChildrenEarlier (set es p e)) (in_range : p < length es) (less : sum (load w es) e.children ≤ sum (load w es) (kids es p)) where
  kids_less : (q : ℕ) → Dec (q ≡ p) → sum (load w es) (kids (set es p e) q) ≤ sum (load w es) (kids es q)
  kids_less q (yes s) =
      subst (λ n. sum (load w es) (kids (set es p e) n) ≤ sum (load w es) (kids es n)) (sym s)
      (rw (kids_same es p e in_range) less)
  kids_less q (no n) = rw (kids_other es p q e n) (le_refl _)

  set_load_below : (f q : ℕ) → q < f → load w (set es p e) q ≤ load w es q
  set_load_below zero q h = absurd (not-suc-le-zero h)
  set_load_below (suc f) q h =
      let below =
      sum_le (load w (set es p e)) (load w es) (kids (set es p e) q) (λ c m. set_load_below f c (omega (arith, d' q c m))) in
      omega (arith, load_kids w (set es p e) d' q, load_kids w es d q, kids_less q (ℕ_discrete q p))

  pub set_load : (q : ℕ) → load w (set es p e) q ≤ load w es q
  set_load q = set_load_below (suc q) q (le_refl _)
