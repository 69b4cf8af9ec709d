-- The Implodes that a visit to a GroupBy appends: a new record over an agg that is no scalar takes its place in the list.
use Rattle.std.specs.Prelude.{if◌then◌else◌}
use mathlib.Core.Path.{◌≡◌, refl, ap, sym, ◌∙◌, subst}
use mathlib.Core.Logic.{inl, inr}
use Prim.Native.Nat.{ℕ, zero, suc, ◌+◌, ◌≤◌, ◌<◌}
use native.Mathlib.Omega.{arith}
use native.Mathlib.Nat.{le_refl, not-suc-le-zero}
use native.Mathlib.Decide.{ℕ_discrete, dec_lt}
use mathlib.Core.Bool.{Bool, true, false}
use mathlib.Core.List.Memᴰ
use mathlib.Core.List.{List, [], ◌∷◌, ◌++◌, Memᴰ}
use lib.ListN.{length, length-append, get_or-append, get_or-eq_default}
use lib.Seq.{get_or-append_seam}
use Rattle.plan.specs.declared.ir.IR.{IR}
use Rattle.plan.specs.Kinds.{same_ir}
use Rattle.plan.specs.Lists.{sum}
use Rattle.plan.specs.Sheet.{Expr, Step, no_expr, expr_at}
use Rattle.plan.specs.Visit.{implode, implode_over, imploded, with_implodes, with_aggs}
use Rattle.plan.proofs.Counts.{sum_eq}
use Rattle.claims.proofs.Sums.{sum_below}
use Rattle.claims.proofs.Loads.{kids, load, load_kids}
use Rattle.claims.proofs.Changes.{Fits, Formed, earlier_of, nothing_fits}

-- every entry is in the arena
abbrev pub Inside : List ℕ → List Expr → Type 0
Inside qs es = (q : ℕ) → Memᴰ q qs → q < length es

-- is q no scalar?
abbrev pub not_scalar : List Expr → ℕ → ℕ
not_scalar es q = if (expr_at es q).scalar then 0 else 1

-- the Implodes that visits to a step are still to append
abbrev pub still_to_append : List Expr → Step → ℕ
still_to_append es s = if same_ir s.kind IR.GroupBy then sum (not_scalar es) s.aggs else 0

-- the first n records of an arena stay
abbrev pub OldStay : ℕ → List Expr → List Expr → Type 0
OldStay n es es' = (q : ℕ) → q < n → expr_at es' q ≡ expr_at es q

-- then so do their loads
module _ (n : ℕ) (es es' : List Expr) (g : Formed es) (g' : Formed es') (old : OldStay n es es') (w : ℕ → ℕ) where
  old_load_below : (f q : ℕ) → q < f → q < n → load w es' q ≡ load w es q
  old_load_below zero q h k = absurd (not-suc-le-zero h)
  old_load_below (suc f) q h k =
      let below = sum_eq (load w es') (load w es) (kids es q) (λ c m. old_load_below f c (omega (arith, (g q).earlier c m)) (omega (arith, (g q).earlier c m))) in
      let same = ap (λ (e : Expr). sum (load w es') e.children) (old q k) in
      omega (arith, load_kids w es (earlier_of es g) q, load_kids w es' (earlier_of es' g') q)

  old_load : (q : ℕ) → q < n → load w es' q ≡ load w es q
  old_load q h = old_load_below (suc q) q (le_refl _) h

  pub old_loads : (qs : List ℕ) → ((q : ℕ) → Memᴰ q qs → q < n) → sum (load w es') qs ≡ sum (load w es) qs
  old_loads qs h = sum_eq _ _ qs (λ q m. old_load q (h q m))

-- from the list qs and the arena es to qs' and es'
pub record Imploded (qs : List ℕ) (es : List Expr) (qs' : List ℕ) (es' : List Expr) : Type 0 where
  pub formed : Formed es'
  pub longer : length es ≤ length es'
  pub old : OldStay (length es) es es'
  pub inside : Inside qs' es'
  -- the list's trees have what they had, and the new records
  pub loads : (w : ℕ → ℕ) → sum (load w es') qs' + sum_below w (length es) ≡ sum (load w es) qs + sum_below w (length es')
  -- a new record for each entry that is no scalar
  pub count : length es' + sum (not_scalar es') qs' ≡ length es + sum (not_scalar es) qs

unchanged : (qs : List ℕ) (es : List Expr) → Formed es → Inside qs es → Imploded qs es qs es
unchanged qs es g h = record { formed = g; longer = le_refl _; old = λ q k. refl; inside = h; loads = λ w. refl; count = refl }

formed_append : (es : List Expr) (e : Expr) → Formed es → Fits (length es) e → Formed (es ++ (e ∷ []))
formed_append es e g k p = by (dec_lt p (length es)) (ℕ_discrete p (length es))
  where
    by : Dec (p < length es) → Dec (p ≡ length es) → Fits p (expr_at (es ++ (e ∷ [])) p)
    by (yes h) d = subst (Fits p) (sym (get_or-append es (e ∷ []) no_expr p h)) (g p)
    by (no n) (yes i) =
        subst (λ n. Fits n (expr_at (es ++ (e ∷ [])) n)) (sym i)
        (subst (Fits (length es)) (sym (get_or-append_seam es e [] no_expr)) k)
    by (no n) (no m) =
        subst (Fits p) (sym (get_or-eq_default (es ++ (e ∷ [])) no_expr (omega (arith, length-append es (e ∷ []))))) (nothing_fits p)

appends : (q : ℕ) (es : List Expr) → Formed es → q < length es → (expr_at es q).scalar ≡ false
    → Imploded (q ∷ []) es (length es ∷ []) (es ++ (implode_over q ∷ []))
unfolding sum sum_below
appends q es g h i =
    let e = implode_over q in
    let es' = es ++ (e ∷ []) in
    let n = length es in
    let one : length es' ≡ suc n = omega (arith, length-append es (e ∷ [])) in
    let g' : Formed es' = formed_append es e g (record { earlier = λ c m. omega (arith, Memᴰ.eq_of_singleton m); input = λ t. absurd t }) in
    let old : OldStay n es es' = λ c k. get_or-append es (e ∷ []) no_expr c k in
    let new = get_or-append_seam es e [] no_expr in
    record {
      formed = g';
      longer = omega arith;
      old = old;
      inside = λ c m. omega (arith, Memᴰ.eq_of_singleton m);
      loads =
          λ w.
          omega (
            arith,
            load_kids w es' (earlier_of es' g') n,
            ap (λ (x : Expr). sum (load w es') x.children) new,
            old_load n es es' g g' old w q h,
            ap (sum_below w) one,
          );
      count = omega (arith, ap {B = ℕ} (λ (x : Expr). if x.scalar then 0 else 1) new, ap {B = ℕ} (λ b. if b then 0 else 1) i);
    }

implodes_one : (q : ℕ) (es : List Expr) → Formed es → q < length es → Imploded (q ∷ []) es ((implode q es).0 ∷ []) (implode q es).1
unfolding implode
implodes_one q es g h = by (expr_at es q).scalar refl
  where
    by : (b : Bool) → (expr_at es q).scalar ≡ b
        → let r : ℕ × List Expr = if b then (q, es) else (length es, es ++ (implode_over q ∷ [])) in
        Imploded (q ∷ []) es (r.0 ∷ []) r.1
    by true i = unchanged (q ∷ []) es g (λ c m. omega (arith, Memᴰ.eq_of_singleton m))
    by false i = appends q es g h i

-- one entry, then the others
implodes_both : (q : ℕ) (qs : List ℕ) (es : List Expr) (q' : ℕ) (es₁ : List Expr) (qs' : List ℕ) (es₂ : List Expr)
    → Formed es → Inside qs es → Imploded (q ∷ []) es (q' ∷ []) es₁ → Imploded qs es₁ qs' es₂ → Imploded (q ∷ qs) es (q' ∷ qs') es₂
unfolding sum
implodes_both q qs es q' es₁ qs' es₂ g h a b =
    let new = a.inside q' (Memᴰ.head refl) in
    let longer = a.longer in
    let longer₁ = b.longer in
    record {
      formed = b.formed;
      longer = omega arith;
      old = λ c k. b.old c (omega arith) ∙ a.old c k;
      inside = λ c m. elim (Memᴰ.cases_cons m) [ inl i ↦ omega arith | inr m' ↦ b.inside c m' ];
      loads =
          λ w.
          omega (
            arith,
            a.loads w,
            b.loads w,
            old_load (length es₁) es₁ es₂ a.formed b.formed b.old w q' new,
            old_loads (length es) es es₁ g a.formed a.old w qs h,
          );
      count =
          omega (
            arith,
            a.count,
            b.count,
            ap {B = ℕ} (λ (x : Expr). if x.scalar then 0 else 1) (b.old q' new),
            sum_eq (not_scalar es₁) (not_scalar es) qs (λ c m. ap {B = ℕ} (λ (x : Expr). if x.scalar then 0 else 1) (a.old c (h c m))),
          );
    }

implodes_each : (qs : List ℕ) (es : List Expr) → Formed es → Inside qs es → Imploded qs es (imploded qs es).0 (imploded qs es).1
unfolding imploded
implodes_each [] es g h = unchanged [] es g h
implodes_each (q ∷ qs) es g h =
    let h₁ : Inside qs es = λ c m. h c (Memᴰ.tail m) in
    let a = implodes_one q es g (h q (Memᴰ.head refl)) in
    implodes_both q qs es (implode q es).0 (implode q es).1 (imploded qs (implode q es).1).0 (imploded qs (implode q es).1).1 g h₁ a
    (implodes_each qs (implode q es).1 a.formed (λ c m. omega (arith, a.longer, h₁ c m)))

-- of a step
pub implodes : (s : Step) (es : List Expr) → Formed es → Inside s.aggs es → Imploded s.aggs es (with_implodes s es).0 (with_implodes s es).1
unfolding with_implodes
implodes s es g h = by (same_ir s.kind IR.GroupBy)
  where
    by : (b : Bool) → let r : List ℕ × List Expr = if b then imploded s.aggs es else (s.aggs, es) in
        Imploded s.aggs es r.0 r.1
    by true = implodes_each s.aggs es g h
    by false = unchanged s.aggs es g h

pub appended_count : (s : Step) (es : List Expr) → Formed es → Inside s.aggs es
    → let (aggs, es') = with_implodes s es in
    length es' + still_to_append es' (with_aggs aggs s) ≡ length es + still_to_append es s
unfolding with_implodes
appended_count s es g h = by (same_ir s.kind IR.GroupBy)
  where
    by : (b : Bool) → let r : List ℕ × List Expr = if b then imploded s.aggs es else (s.aggs, es) in
        length r.1 + (if b then sum (not_scalar r.1) r.0 else 0) ≡ length es + (if b then sum (not_scalar es) s.aggs else 0)
    by true = (implodes_each s.aggs es g h).count
    by false = refl
