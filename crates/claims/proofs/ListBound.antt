-- The looks of a list: at most n × (n + 5) ÷ 2, where its trees hold n records.
use Rattle.std.specs.Prelude.{if◌then◌else◌}
use mathlib.Core.Path.{◌≡◌, refl}
use Prim.Native.Nat.{ℕ, zero, suc, ◌+◌, ◌*◌, ◌-◌, ◌≤◌, ◌<◌}
use native.Mathlib.Omega.{arith}
use native.Mathlib.Nat.{le_refl, not-suc-le-zero}
use mathlib.Core.Bool.{Bool, true, false, ◌&&◌}
use mathlib.Core.List.{List, [], ◌∷◌, Memᴰ}
use lib.Dec.{T}
use lib.ListN.{length}
use Rattle.plan.specs.Lists.{sum}
use Rattle.plan.specs.Sheet.{Expr, expr_at}
use Rattle.plan.specs.Orders.{∅, no_orders, single}
use Rattle.plan.specs.Look.{Eos, Look, look, look_along, simplify_projected_exprs, internal_observe, NO_DEORDER}
use Rattle.plan.proofs.ListLaws.{and_left}
use Rattle.claims.specs.Demand3.{records}
use Rattle.claims.specs.Limits.{ChildrenEarlier}
use Rattle.plan.proofs.Counts.{sum_le, only}
use Rattle.claims.proofs.Sums.{sum_part}
use Rattle.claims.proofs.Loads.{kids, load, size, load_le, load_kids, size_records}
use Rattle.claims.proofs.RevisitCache.{Cache, seen_in}
use Rattle.claims.proofs.Changes.{Formed, earlier_of}
use Rattle.claims.proofs.Potential.{weight, Φ, Goes, SpentAlong, spent_along, spent_again}
use Rattle.claims.proofs.LookAgain.{single_of_list}
use Rattle.claims.proofs.LookBound.{look_spent}

-- Pairs of a record and one below it -----------------------------------------------------------------------------------------

-- the records below v
below : List Expr → ℕ → ℕ
below es v = size es v - 1

module _ (es : List Expr) (d : ChildrenEarlier es) where
  -- n records have at most n × (n − 1) ÷ 2 of them
  forest_pairs : (cs : List ℕ) → ((c : ℕ) → Memᴰ c cs → 2 * load (below es) es c + size es c ≤ size es c * size es c)
      → 2 * sum (load (below es) es) cs + sum (size es) cs ≤ sum (size es) cs * sum (size es) cs
  unfolding sum
  forest_pairs [] h = omega arith
  forest_pairs (c ∷ cs) h = omega (arith, h c (mathlib.Core.List.Memᴰ.head refl), forest_pairs cs (λ a m. h a (mathlib.Core.List.Memᴰ.tail m)))

  tree_pairs : (f q : ℕ) → q < f → 2 * load (below es) es q + size es q ≤ size es q * size es q
  unfolding below
  tree_pairs zero q h = absurd (not-suc-le-zero h)
  tree_pairs (suc f) q h =
      let i = load_kids (λ _. 1) es d q in
      let k = forest_pairs (kids es q) (λ c m. tree_pairs f c (omega (arith, d q c m))) in
      rw (load_kids (below es) es d q, i) (omega (arith, k))

  pairs : (cs : List ℕ) → 2 * sum (load (below es) es) cs + sum (size es) cs ≤ sum (size es) cs * sum (size es) cs
  pairs cs = forest_pairs cs (λ c m. tree_pairs (suc c) c (le_refl _))

weight_below : (es : List Expr) (c : Cache) (v : ℕ) → weight es c v ≤ below es v
unfolding weight below
weight_below es c v = by (seen_in c v)
  where
    by : (b : Bool) → (if b then 0 else size es v - 1) ≤ size es v - 1
    by true = omega arith
    by false = le_refl _

Φ_pairs : (s : Eos) → Formed s.expr_arena → (qs : List ℕ)
    → let n = sum (size s.expr_arena) qs in
    2 * sum (Φ s) qs + n ≤ n * n
Φ_pairs s g qs =
    let es = s.expr_arena in
    let d = earlier_of es g in
    omega (
      arith,
      pairs es d qs,
      sum_le (Φ s) (load (below es) es) qs (λ q _. load_le _ _ es q (weight_below es s.revisit_cache)),
    )

-- A list -----------------------------------------------------------------------------------------------------------------------

-- what its looks do to the state, and what they cost: its last look is at an entry
pub record ListSpent (qs : List ℕ) (s s' : Eos) : Type 0 where
  pub goes : Goes s s'
  pub outside : (x : ℕ) → sum (load (only x) s.expr_arena) qs ≡ 0 → expr_at s'.expr_arena x ≡ expr_at s.expr_arena x
  pub looks : s'.tally.looks ≤ s.tally.looks + 2 * sum (size s.expr_arena) qs + sum (Φ s) qs

at_most_all : (b : Bool) (c : ℕ) (qs : List ℕ) (w : ℕ → ℕ) → (T b → Memᴰ c qs) → (if b then w c else 0) ≤ sum w qs
at_most_all true c qs w m = sum_part w qs c (m tt)
at_most_all false c qs w m = omega arith

pub list_spent : (qs : List ℕ) (allow : Bool) (s : Eos) → Formed s.expr_arena → ListSpent qs s (simplify_projected_exprs qs allow s).1
unfolding simplify_projected_exprs
list_spent qs allow s g =
    let rec : Look = look (length s.expr_arena) in
    let B = look_spent (length s.expr_arena) in
    let l = look_along rec NO_DEORDER qs [] no_orders s in
    let x = l.1 in
    let again = single x && allow in
    let a = spent_along rec B NO_DEORDER qs [] no_orders s g in
    let s₂ = internal_observe (if x.saw_mixed_inputs then x.acc else ∅) l.2 in
    let a₂ : SpentAlong qs s s₂ =
    record { goes = record { changes = a.goes.changes; keeps = a.goes.keeps }; outside = a.outside; looks = a.looks } in
    let m : T again → Memᴰ x.last_ordered_node qs = λ t. single_of_list rec NO_DEORDER qs s (and_left (single x) allow t) in
    let b = spent_again rec B again x qs s s₂ g a₂ m in
    let c = at_most_all again x.last_ordered_node qs (size s.expr_arena) m in
    record { goes = b.goes; outside = b.outside; looks = omega (arith, b.looks) }

-- the bound that is reached: n × (n + 3) ÷ 2
pub list_fewer : (qs : List ℕ) (s s' : Eos) → Formed s.expr_arena → ListSpent qs s s'
    → let n = length (records s.expr_arena qs) in
    2 * s'.tally.looks ≤ 2 * s.tally.looks + n * (n + 3)
list_fewer qs s s' g a = rw (size_records s.expr_arena qs) (omega (arith, a.looks, Φ_pairs s g qs))

-- the demanded one
pub list_few : (qs : List ℕ) (s s' : Eos) → Formed s.expr_arena → ListSpent qs s s'
    → let n = length (records s.expr_arena qs) in
    2 * s'.tally.looks ≤ 2 * s.tally.looks + n * (n + 5)
list_few qs s s' g a = let n = length (records s.expr_arena qs) in omega (arith, list_fewer qs s s' g a)
