-- Membership, and what lies under an evaluation child.
use Rattle.std.specs.Prelude.{if◌then◌else◌}
use mathlib.Core.Path.{◌≡◌, refl, sym, ap, ◌∙◌, subst}
use mathlib.Core.Logic.{◌⊎◌, inl, inr}
use mathlib.Core.Bool.{Bool, true, false, ◌||◌, not}
use mathlib.Core.List.{List, [], ◌∷◌, ◌++◌}
use Prim.Native.Nat.{ℕ, zero, suc, ◌+◌, ◌<◌, ◌≤◌}
use native.Mathlib.Omega.{arith}
use native.Mathlib.Decide.{dec_le, ℕ_discrete}
use lib.Dec.{T, eqb, ltb, leb}
use lib.ListN.{length, get_or, get_or-eq_default}
use borrow.Author.Tests.{ltb-true, leb-true, leb-false, eq-eqb, ne_eqb}
use Rattle.plan.specs.declared.aexpr.AExpr.{AExpr}
use Rattle.plan.specs.Kinds.{same_aexpr}
use Rattle.plan.specs.Lists.{all?, any?, sum, concat_map, numbered, among, times, rest, empty?}
use Rattle.plan.specs.Sheet.{Expr, expr_at, no_expr}
use Rattle.plan.specs.Faults.{children_earlier, reach, tree, evaluated}
use Rattle.plan.proofs.Booleans.{and_left, and_right}

pub data In {A : Type 0} (x : A) : List A → Type 0 where
  here : {l : List A} → In x (x ∷ l)
  there : {y : A} {l : List A} → In x l → In x (y ∷ l)

filled : {A : Type 0} {x : A} {l : List A} → In x l → T (not (empty? l))
filled here = tt
filled (there i) = tt

pub not_in_none : {A : Type 0} {x : A} → In x [] → ⊥
not_in_none i = filled i

module _ {A : Type 0} {x : A} where
  pub in_left : {l : List A} (m : List A) → In x l → In x (l ++ m)
  in_left m here = here
  in_left m (there i) = there (in_left m i)

  pub in_right : (l : List A) {m : List A} → In x m → In x (l ++ m)
  in_right [] i = i
  in_right (y ∷ l) i = there (in_right l i)

  pub in_either : (l m : List A) → In x (l ++ m) → In x l ⊎ In x m
  in_either [] m i = inr i
  in_either (y ∷ l) m here = inl here
  in_either (y ∷ l) m (there i) = elim (in_either l m i) [ inl a ↦ inl (there a) | inr b ↦ inr b ]

module _ {A : Type 0} {q : ℕ} (f : A → List ℕ) where
  pub in_concat : (l : List A) {y : A} → In y l → In q (f y) → In q (concat_map f l)
  unfolding concat_map
  in_concat [] {y = y} x'' j = elim x'' [ ]
  in_concat (y ∷ l) here j = in_left (concat_map f l) j
  in_concat (z ∷ l) (there i) j = in_right (f z) (in_concat l i j)

  pub of_concat : (l : List A) → In q (concat_map f l) → (y : A) × In y l × In q (f y)
  unfolding concat_map
  of_concat [] i = absurd (not_in_none i)
  of_concat (z ∷ l) i = elim (in_either (f z) (concat_map f l) i) [ inl a ↦ (z, here, a) | inr b ↦ (let (y, m, j) = of_concat l b in (y, there m, j)) ]

pub in_rest : {q : ℕ} (l : List ℕ) → In q (rest l) → In q l
in_rest [] i = i
in_rest (y ∷ l) i = there i

pub at_in : {A : Type 0} (l : List A) (d : A) (i : ℕ) → i < length l → In (get_or l i d) l
at_in [] d i h = absurd (omega arith)
at_in (x ∷ l) d zero h = here
at_in (x ∷ l) d (suc i) h = there (at_in l d i (omega arith))

pub in_at : {A : Type 0} (l : List A) (d : A) {x : A} → In x l → (i : ℕ) × (i < length l) × (x ≡ get_or l i d)
in_at {A = A} [] d x3 = elim x3 [ ]
in_at (x ∷ l) d here = (0, omega arith, refl)
in_at (y ∷ l) d (there i) = let (k, h, e) = in_at l d i in (suc k, omega arith, e)

-- Tests of membership --------------------------------------------------------------------------------------------------------

pub times_in : (q : ℕ) (l : List ℕ) → 1 ≤ times q l → In q l
unfolding sum
times_in q [] h = absurd (omega arith)
times_in q (x ∷ l) h = by (ℕ_discrete q x) (times_in q l)
  where
    by : Dec (q ≡ x) → (1 ≤ times q l → In q l) → In q (x ∷ l)
    by (yes e) f = rw e here
    by (no e) f = there (f (let g = rw (ne_eqb q x e) at h in omega arith))

pub in_times : (q : ℕ) {l : List ℕ} → In q l → 1 ≤ times q l
unfolding sum
in_times q here = rw (eq-eqb q q refl) (omega arith)
in_times q (there {y = y} {l = l} i) = let h = in_times q i in omega arith

pub among_in : (q : ℕ) (l : List ℕ) → among q l ≡ true → In q l
unfolding any?
among_in q [] h = let z : ◌≡◌ {A = ℕ} 0 1 = cc in absurd (omega arith)
among_in q (x ∷ l) h = by (ℕ_discrete q x) (among_in q l)
  where
    by : Dec (q ≡ x) → (among q l ≡ true → In q l) → In q (x ∷ l)
    by (yes e) f = rw e here
    by (no e) f = there (f (rw (ne_eqb q x e) at h))

or-true : (a b : Bool) → b ≡ true → (a || b) ≡ true
or-true true b e = refl
or-true false b e = e

pub in_among : (q : ℕ) {l : List ℕ} → In q l → among q l ≡ true
unfolding any?
in_among q here = rw (eq-eqb q q refl)
in_among q (there {y = y} {l = l} i) = or-true (eqb q y) (among q l) (in_among q i)

pub same_tests : (q : ℕ) (l m : List ℕ) → (In q l → In q m) → (In q m → In q l) → leb 1 (times q l) ≡ among q m
same_tests q l m f g = by (leb 1 (times q l)) (among q m) refl refl
  where
    by : (a b : Bool) → leb 1 (times q l) ≡ a → among q m ≡ b → leb 1 (times q l) ≡ among q m
    by true true e h = e ∙ sym h
    by false false e h = e ∙ sym h
    by true false e h = let w = sym h ∙ in_among q (f (times_in q l (leb-true 1 (times q l) e))) in let z : ◌≡◌ {A = ℕ} 0 1 = cc in absurd (omega arith)
    by false true e h = let w = in_times q (g (among_in q m h)) in let z = leb-false 1 (times q l) e in absurd (omega arith)

pub all_in : (f : ℕ → Bool) (l : List ℕ) → all? f l ≡ true → (q : ℕ) → In q l → f q ≡ true
unfolding all?
all_in f [] e q x'' = elim x'' [ ]
all_in f (x ∷ l) e q here = and_left (f x) (all? f l) e
all_in f (x ∷ l) e q (there i) = all_in f l (and_right (f x) (all? f l) e) q i

pub all_numbered_at : {A : Type 0} (f : ℕ × A → Bool) (k : ℕ) (l : List A) (d : A) → all? f (numbered k l) ≡ true → (i : ℕ) → i < length l → f (k + i, get_or l i d) ≡ true
unfolding all? numbered
all_numbered_at f k [] d e i h = absurd (omega arith)
all_numbered_at f k (x ∷ l) d e zero h = ap (λ j. f (j, x)) (omega arith) ∙ and_left (f (k, x)) _ e
all_numbered_at f k (x ∷ l) d e (suc i) h = ap (λ j. f (j, get_or l i d)) (omega arith) ∙ all_numbered_at f (suc k) l d (and_right (f (k, x)) _ e) i (omega arith)

pub all_numbered_same : {A : Type 0} (f g : ℕ × A → Bool) (k : ℕ) (l : List A) → ((i : ℕ) → i < k + length l → (x : A) → f (i, x) ≡ g (i, x)) → all? f (numbered k l) ≡ all? g (numbered k l)
unfolding all? numbered
all_numbered_same f g k [] h = refl
all_numbered_same f g k (x ∷ l) h = rw (h k (omega arith) x, all_numbered_same f g (suc k) l (λ i m. h i (omega arith)))

-- Under an evaluation child --------------------------------------------------------------------------------------------------

module _ (E : List Expr) (early : all? children_earlier (numbered 0 E) ≡ true) where
  abbrev C : ℕ → List ℕ
  C p = (expr_at E p).children

  pub held : (p q : ℕ) → In q (C p) → p < length E
  held p q i = by (dec_le (length E) p)
    where
      by : Dec (length E ≤ p) → p < length E
      by (yes h) = absurd (not_in_none (subst (λ (e : Expr). In q e.children) (get_or-eq_default E no_expr h) i))
      by (no h) = omega arith

  pub earlier : (p q : ℕ) → In q (C p) → q < p
  unfolding children_earlier
  earlier p q i =
      let h = held p q i in
      ltb-true q p (all_in (λ r. ltb r p) (C p) (ap (λ j. all? (λ r. ltb r j) (C p)) (omega arith) ∙ all_numbered_at children_earlier 0 E no_expr early p h) q i)

  closed : (f r p q : ℕ) → r < f → In p (reach f E r) → In q (C p) → In q (reach f E r)
  unfolding reach
  closed zero r p q h i j = absurd (omega arith)
  closed (suc f) r p q h here j = there (in_concat (reach f E) (C r) j (first f (let l = earlier r q j in omega arith)))
    where
      first : (f : ℕ) → q < f → In q (reach f E q)
      first zero h = absurd (omega arith)
      first (suc f) h = here
  closed (suc f) r p q h (there i) j =
      let (y, m, k) = of_concat (reach f E) (C r) i in
      there (in_concat (reach f E) (C r) m (closed f y p q (let l = earlier r y m in omega arith) k j))

  parent : (f r q : ℕ) → In q (reach f E r) → (q ≡ r) ⊎ ((p : ℕ) × In p (reach f E r) × In q (C p))
  unfolding reach
  parent zero r q i = absurd (not_in_none i)
  parent (suc f) r q here = inl refl
  parent (suc f) r q (there i) =
      let (y, m, k) = of_concat (reach f E) (C r) i in
      elim (parent f y q k) [
        | inl e ↦ inr (r, here, subst (λ z. In z (C r)) (sym e) m)
        | inr w ↦ inr (w.0, there (in_concat (reach f E) (C r) m w.1), w.2)
      ]

  abbrev evaluates : ℕ → Bool
  evaluates p = same_aexpr (expr_at E p).kind AExpr.StructEval

  under : Expr → List ℕ
  under e = if same_aexpr e.kind AExpr.StructEval then concat_map (tree E) (rest e.children) else []

  in_evaluated : (p q r : ℕ) → p < length E → evaluates p ≡ true → In r (rest (C p)) → In q (tree E r) → In q (evaluated E)
  unfolding evaluated under
  in_evaluated p q r h e i j = in_concat under E (at_in E no_expr p h) (rw e (in_concat (tree E) (rest (C p)) i j))

  of_evaluated : (q : ℕ) → In q (evaluated E) → (p : ℕ) × (r : ℕ) × (p < length E) × (evaluates p ≡ true) × In r (rest (C p)) × In q (tree E r)
  unfolding evaluated under
  of_evaluated q i =
      let (e, m, j) = of_concat under E i in
      let (p, h, s) = in_at E no_expr m in
      by p h (evaluates p) refl (subst (λ (x : Expr). In q (under x)) s j)
    where
      by : (p : ℕ) → p < length E → (b : Bool) → evaluates p ≡ b → In q (under (expr_at E p)) → (p : ℕ) × (r : ℕ) × (p < length E) × (evaluates p ≡ true) × In r (rest (C p)) × In q (tree E r)
      by p h true e i = let (r, m, k) = of_concat (tree E) (rest (C p)) (rw e at i) in (p, r, h, e, m, k)
      by p h false e i = absurd (not_in_none (rw e at i))

  -- the evaluation children of a StructEval
  pub evaluation : (p q : ℕ) → evaluates p ≡ true → In q (rest (C p)) → In q (evaluated E)
  unfolding reach
  evaluation p q e i = in_evaluated p q q (held p q (in_rest (C p) i)) e i here

  -- the children of what lies there
  pub downward : (p q : ℕ) → In p (evaluated E) → In q (C p) → In q (evaluated E)
  downward p q i j =
      let (o, r, h, e, m, k) = of_evaluated p i in
      in_evaluated o q r h e m (closed (suc r) r p q (omega arith) k j)

  -- and no others
  pub only : (q : ℕ) → In q (evaluated E) → (p : ℕ) × In q (C p) × ((In q (rest (C p)) × (evaluates p ≡ true)) ⊎ In p (evaluated E))
  only q i =
      let (o, r, h, e, m, k) = of_evaluated q i in
      elim (parent (suc r) r q k) [
        | inl s ↦ (let n = subst (λ z. In z (rest (C o))) (sym s) m in (o, in_rest (C o) n, inl (n, e)))
        | inr w ↦ (w.0, w.2, inr (in_evaluated o w.0 r h e m w.1))
      ]
