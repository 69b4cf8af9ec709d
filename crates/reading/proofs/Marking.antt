-- The marks are those of the definition.
use Rattle.std.specs.Prelude.{if◌then◌else◌}
use mathlib.Core.Path.{◌≡◌, refl, sym, ap, ◌∙◌, subst}
use mathlib.Core.Logic.{◌⊎◌, inl, inr}
use mathlib.Core.Bool.{Bool, true, false, ◌||◌, not}
use mathlib.Core.List.{List, [], ◌∷◌, ◌++◌}
use Prim.Native.Nat.{ℕ, zero, suc, ◌+◌, ◌-◌, ◌<◌, ◌≤◌}
use native.Mathlib.Omega.{arith}
use native.Mathlib.Decide.{ℕ_discrete}
use lib.Dec.{leb}
use lib.ListN.{length, get_or, take, drop}
use borrow.Author.Tests.{leb-true, le-leb, lt-leb}
use Rattle.plan.specs.declared.aexpr.AExpr.{AExpr}
use Rattle.plan.specs.Kinds.{same_aexpr}
use Rattle.plan.specs.Lists.{all?, numbered, among, times, rest}
use Rattle.plan.specs.Sheet.{Expr, expr_at, no_expr}
use Rattle.plan.proofs.ListLaws.{part_from}
use Rattle.plan.specs.Faults.{children_earlier, evaluated, field_right}
use Rattle.storage.specs.Stored.{stored_expr, stored_exprs}
use Rattle.storage.proofs.Laws.{length_table, table_at}
use Rattle.storage.specs.Lines.{children_count}
use Rattle.reading.specs.Held.{ExprsHeld}
use Rattle.reading.specs.Uses.{none_named, named_each}
use Rattle.reading.specs.Marks.{marked_by, marked, marks_after, field_marked}
use Rattle.reading.proofs.Names.{Counted, at_least, none_counted, each_counted}
use Rattle.reading.proofs.Members.{In, not_in_none, in_left, in_right, in_either, times_in, in_times, same_tests, all_numbered_same, earlier, held, evaluation, downward, only}

-- One line -------------------------------------------------------------------------------------------------------------------

pub few_children : {es : List ℕ} {n : ℕ} → ExprsHeld es n → (i : ℕ) → i < n → children_count es i ≤ 8
few_children h i l = (h.formed i l).count

module _ (es m : List ℕ) (i : ℕ) {t : ℕ} (e : t ≡ get_or m i 0) where
  pub marks_children : {d l : List ℕ} → l ≡ (stored_expr es i).children → 1 ≤ t → d ≡ named_each m l → d ≡ marked es m i
  unfolding marked marked_by
  marks_children f h g = rw (marked, marked_by, ← e, le-leb 1 t h, ← f) g

  module _ (h : t < 1) where
    pub marks_none : same_aexpr (stored_expr es i).kind AExpr.StructEval ≡ false → m ≡ marked es m i
    unfolding marked marked_by named_each
    marks_none f = rw (marked, marked_by, ← e, lt-leb 1 t h, f)

    pub marks_rest : {d l : List ℕ} → same_aexpr (stored_expr es i).kind AExpr.StructEval ≡ true → l ≡ rest (stored_expr es i).children → d ≡ named_each m l → d ≡ marked es m i
    unfolding marked marked_by
    marks_rest f r g = rw (marked, marked_by, ← e, lt-leb 1 t h, f, ← r) g

pub rest_none : (m : List ℕ) → m ≡ named_each m []
unfolding named_each
rest_none m = refl

pub no_rest : (l m : List ℕ) → l ≡ m → length l < 1 → [] ≡ rest m
no_rest [] m e h = rw (← e)
no_rest (x ∷ l) m e h = absurd (omega arith)

pub rest_is : (l m : List ℕ) → l ≡ m → take (length l - 1) (drop 1 l) ≡ rest m
rest_is l m e = part_from l 1 ∙ by l ∙ ap rest e
  where
    by : (l : List ℕ) → drop 1 l ≡ rest l
    by [] = refl
    by (x ∷ l) = refl

-- All lines ------------------------------------------------------------------------------------------------------------------

pub no_marks : (m es : List ℕ) (n k : ℕ) → k ≡ 0 → m ≡ marks_after m es n k
unfolding marks_after
no_marks m es n k e = rw e

pub more_marks : (m c d es : List ℕ) (n j i : ℕ) → j + 1 ≡ i → i ≤ n → c ≡ marks_after m es n (n - i) → d ≡ marked es c j → d ≡ marks_after m es n (n - j)
unfolding marks_after
more_marks m c d es n j i e h k f =
    let s : n - j ≡ suc (n - i) = omega arith in
    let g : n - suc (n - i) ≡ j = omega arith in
    rw (s, marks_after, g, ← k) f

-- The same by names: what line i marks, and what is marked after k of n lines
unfoldable named_by : List ℕ → List ℕ → ℕ → List ℕ
named_by es names i =
    if leb 1 (times i names) then (stored_expr es i).children
    else if same_aexpr (stored_expr es i).kind AExpr.StructEval then rest (stored_expr es i).children
    else []

unfoldable markings : List ℕ → ℕ → ℕ → List ℕ
markings es n zero = []
markings es n (suc k) = markings es n k ++ named_by es (markings es n k) (n - suc k)

marked_is : (c names : List ℕ) (i : ℕ) → i < 256 → Counted c names → leb 1 (get_or c i 0) ≡ leb 1 (times i names)
marked_is c names i h k = ap (leb 1) (k.each i h) ∙ at_least (times i names)

line_same : (es c names : List ℕ) (i : ℕ) → i < 256 → Counted c names → marked_by es c i ≡ named_by es names i
unfolding marked_by named_by
line_same es c names i h k = rw (marked_is c names i h k)

marks_counted : (es : List ℕ) (n k : ℕ) → n ≤ 128 → Counted (marks_after none_named es n k) (markings es n k)
unfolding marks_after markings marked
marks_counted es n zero h = none_counted
marks_counted es n (suc k) h =
    let c = marks_counted es n k h in
    subst (λ l. Counted (marked es (marks_after none_named es n k) (n - suc k)) (markings es n k ++ l)) (line_same es (marks_after none_named es n k) (markings es n k) (n - suc k) (omega arith) c)
    (each_counted (marks_after none_named es n k) (markings es n k) (marked_by es (marks_after none_named es n k) (n - suc k)) c)

module _ (es : List ℕ) (n : ℕ) where
  abbrev E : List Expr
  E = stored_exprs es n

  size : length E ≡ n
  unfolding stored_exprs
  size = length_table (stored_expr es) 0 n

  at : (p : ℕ) → p < n → expr_at E p ≡ stored_expr es p
  unfolding stored_exprs
  at p h = table_at (stored_expr es) n p no_expr h

  module _ (early : all? children_earlier (numbered 0 E) ≡ true) where
    by_line : (names : List ℕ) (p q : ℕ) → p < n → In q (named_by es names p)
        → (In p names × In q (expr_at E p).children) ⊎ ((same_aexpr (expr_at E p).kind AExpr.StructEval ≡ true) × In q (rest (expr_at E p).children))
    unfolding named_by
    by_line names p q h i = go (leb 1 (times p names)) (same_aexpr (stored_expr es p).kind AExpr.StructEval) refl refl
      where
        go : (a b : Bool) → leb 1 (times p names) ≡ a → same_aexpr (stored_expr es p).kind AExpr.StructEval ≡ b
            → (In p names × In q (expr_at E p).children) ⊎ ((same_aexpr (expr_at E p).kind AExpr.StructEval ≡ true) × In q (rest (expr_at E p).children))
        go true b e f = inl (times_in p names (leb-true 1 (times p names) e), subst (λ (x : Expr). In q x.children) (sym (at p h)) (rw (named_by, e) at i))
        go false true e f = inr (ap (λ (x : Expr). same_aexpr x.kind AExpr.StructEval) (at p h) ∙ f, subst (λ (x : Expr). In q (rest x.children)) (sym (at p h)) (rw (named_by, e, f) at i))
        go false false e f = absurd (not_in_none (rw (named_by, e, f) at i))

    -- what is marked lies under an evaluation child
    sound : (k q : ℕ) → k ≤ n → In q (markings es n k) → In q (evaluated E)
    unfolding markings
    sound zero q h i = absurd (not_in_none i)
    sound (suc k) q h i =
        elim (in_either (markings es n k) (named_by es (markings es n k) (n - suc k)) i) [
          | inl a ↦ sound k q (omega arith) a
          | inr b ↦ elim (by_line (markings es n k) (n - suc k) q (omega arith) b) [
            | inl w ↦ downward E early (n - suc k) q (sound k (n - suc k) (omega arith) w.0) w.1
            | inr w ↦ evaluation E early (n - suc k) q w.0 w.1
          ]
        ]

    -- a line that marks q, once it is gone through
    gives : (names : List ℕ) (p q : ℕ) → p < n → In q (expr_at E p).children → (In q (rest (expr_at E p).children) × (same_aexpr (expr_at E p).kind AExpr.StructEval ≡ true)) ⊎ In p names → In q (named_by es names p)
    unfolding named_by
    gives names p q h c (inr i) = rw (named_by, le-leb 1 (times p names) (in_times p i)) (subst (λ (x : Expr). In q x.children) (at p h) c)
    gives names p q h c (inl (r, e)) = go (leb 1 (times p names)) refl
      where
        go : (a : Bool) → leb 1 (times p names) ≡ a → In q (named_by es names p)
        go true f = rw (named_by, f) (subst (λ (x : Expr). In q x.children) (at p h) c)
        go false f = let g = ap (λ (x : Expr). same_aexpr x.kind AExpr.StructEval) (sym (at p h)) ∙ e in rw (named_by, f, g) (subst (λ (x : Expr). In q (rest x.children)) (at p h) r)

    -- what lies there is marked, once the lines that name it are gone through
    abbrev Why : ℕ → ℕ → Type 0
    Why p q = (In q (rest (expr_at E p).children) × (same_aexpr (expr_at E p).kind AExpr.StructEval ≡ true)) ⊎ In p (evaluated E)

    from : (k p q : ℕ) → k ≤ n → n - k ≤ p → p < n → In q (expr_at E p).children → Why p q → In q (markings es n k)
    unfolding markings
    from zero p q h l m c w = absurd (omega arith)
    from (suc k) p q h l m c w = by (ℕ_discrete p (n - suc k))
        (λ g. from k p q (omega arith) (omega arith) m c w)
        (λ i. let (p', c', w') = only E early p i in from k p' p (omega arith) (let b = earlier E early p' p c' in omega arith) (let b = held E early p' p c' in let s = size in omega arith) c' w')
      where
        by : Dec (p ≡ n - suc k) → ((p ≡ n - suc k → ⊥) → In q (markings es n k)) → (In p (evaluated E) → In p (markings es n k)) → In q (markings es n k ++ named_by es (markings es n k) (n - suc k))
        by (no g) f s = in_left (named_by es (markings es n k) (n - suc k)) (f g)
        by (yes e) f s = in_right (markings es n k) (subst (λ j. In q (named_by es (markings es n k) j)) e (gives (markings es n k) p q m c (elim w [ inl a ↦ inl a | inr i ↦ inr (s i) ])))

    complete : (q : ℕ) → In q (evaluated E) → In q (markings es n n)
    complete q i =
        let (p, c, w) = only E early q i in
        from n p q (omega arith) (omega arith) (let b = held E early p q c in let s = size in omega arith) c w

    marks_are : (i : ℕ) → leb 1 (times i (markings es n n)) ≡ among i (evaluated E)
    marks_are i = same_tests i (markings es n n) (evaluated E) (sound n i (omega arith)) (complete i)

    pub fields_are : {r : Bool} {z c : List ℕ} → n ≤ 128 → z ≡ none_named → c ≡ marks_after z es n n → r ≡ all? (field_marked c) (numbered 0 E) → r ≡ all? (field_right E) (numbered 0 E)
    unfolding field_right
    fields_are {c = c} h s e f =
        let k : Counted c (markings es n n) = rw (e, s) (marks_counted es n n h) in
        f ∙ all_numbered_same (field_marked c) (field_right E) 0 E
        (λ i l x. ap (λ b. not (same_aexpr x.kind AExpr.StructField) || b) (marked_is c (markings es n n) i (let z = size in omega arith) k ∙ marks_are i))
