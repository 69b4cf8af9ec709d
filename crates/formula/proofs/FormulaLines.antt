-- The lines of a formula: what stands on each, and that each but the last is named by one of them, once.
use mathlib.Core.Path.{◌≡◌, refl, ap, sym, ◌∙◌, subst}
use Prim.Native.Nat.{ℕ, zero, suc, ◌+◌, ◌-◌, ◌≤◌, ◌<◌}
use native.Mathlib.Omega.{arith}
use native.Mathlib.Decide.{ℕ_discrete}
use mathlib.Core.Bool.{Bool}
use mathlib.Core.List.{List, [], ◌∷◌, ◌++◌}
use lib.Dec.{T}
use lib.ListN.{length, length-append}
use Rattle.plan.specs.Lists.{all?, concat_map, sum, numbered, times}
use Rattle.plan.specs.Sheet.{Expr}
use Rattle.plan.proofs.Booleans.{and_both}
use Rattle.plan.proofs.Counts.{only, sum_concat, times_same, times_other}
use Rattle.plan.proofs.ListLaws.{sum_append}
use Rattle.formula.specs.Formula.{Tree, before_own, column, literal, binary, lines}

pub own_last : (l r : List Expr) (e : Expr) → length (l ++ (r ++ (e ∷ []))) ≡ length l + suc (length r)
own_last l r e = omega (arith, length-append l (r ++ (e ∷ [])), length-append r (e ∷ []))

pub lines_count : (n : ℕ) (t : Tree) → length (lines n t) ≡ suc (before_own t)
unfolding lines before_own
lines_count n (Tree.letter b) = refl
lines_count n (Tree.number v) = refl
lines_count n (Tree.bracket a t b) = lines_count n t
lines_count n (Tree.operator l a b a' r) =
    let m = n + suc (before_own l) in
    own_last (lines n l) (lines m r) _ ∙ omega (arith, lines_count n l, lines_count m r)

-- What stands on them -----------------------------------------------------------------------------------------------------------

-- what may stand on line i
pub data LineForm (i : ℕ) : Expr → Type 0 where
  a_column : LineForm i column
  a_literal : LineForm i literal
  a_binary : (s l : Bool) (left right : ℕ) → left < i → right < i → LineForm i (binary s l left right)

-- of lines from n on
abbrev pub AllForms : ℕ → List Expr → Type 0
AllForms n [] = Unit {0}
AllForms n (e ∷ es) = LineForm n e × AllForms (suc n) es

forms_append : (n : ℕ) (l m : List Expr) → AllForms n l → AllForms (n + length l) m → AllForms n (l ++ m)
forms_append n [] m f g = subst (λ k. AllForms k m) (omega arith) g
forms_append n (e ∷ l) m f g = (f.0, forms_append (suc n) l m f.1 (subst (λ k. AllForms k m) (omega arith) g))

-- those of two operands, and the operator's own
forms_both : (n a b : ℕ) (l r : List Expr) (s p : Bool) → length l ≡ suc a → length r ≡ suc b → AllForms n l → AllForms (n + suc a) r
    → AllForms n (l ++ (r ++ (binary s p (n + a) (n + suc a + b) ∷ [])))
forms_both n a b l r s p e f k₁ k₂ =
    let m = n + suc a in
    let at : m ≡ n + length l = omega arith in
    let own : LineForm (m + length r) (binary s p (n + a) (m + b)) = LineForm.a_binary s p (n + a) (m + b) (omega arith) (omega arith) in
    forms_append n l (r ++ (binary s p (n + a) (m + b) ∷ [])) k₁
    (subst (λ k. AllForms k (r ++ (binary s p (n + a) (m + b) ∷ []))) at (forms_append m r (binary s p (n + a) (m + b) ∷ []) k₂ (own, tt)))

pub forms : (n : ℕ) (t : Tree) → AllForms n (lines n t)
unfolding lines
forms n (Tree.letter b) = (LineForm.a_column, tt)
forms n (Tree.number v) = (LineForm.a_literal, tt)
forms n (Tree.bracket a t b) = forms n t
forms n (Tree.operator l a b a' r) =
    let m = n + suc (before_own l) in
    forms_both n (before_own l) (before_own r) (lines n l) (lines m r) _ _ (lines_count n l) (lines_count m r) (forms n l) (forms m r)

-- a test that passes on each of them
pub all_forms : (f : ℕ × Expr → Bool) (n : ℕ) (es : List Expr) → AllForms n es
    → ((i : ℕ) (e : Expr) → LineForm i e → n ≤ i → i < n + length es → T (f (i, e))) → T (all? f (numbered n es))
unfolding all? numbered
all_forms f n [] k h = tt
all_forms f n (e ∷ es) k h =
    and_both (f (n, e)) (all? f (numbered (suc n) es)) (h n e k.0 (omega arith) (omega arith))
    (all_forms f (suc n) es k.1 (λ i e j l m. h i e j (omega arith) (omega arith)))

-- How often each is named ---------------------------------------------------------------------------------------------------------

-- k numbers from n on
abbrev from : ℕ → ℕ → List ℕ
from n zero = []
from n (suc k) = n ∷ from (suc n) k

from_both : (n a b : ℕ) → from n (a + b) ≡ from n a ++ from (n + a) b
from_both n zero b = let e : 0 + b ≡ b = omega arith in let f : n ≡ n + 0 = omega arith in ap (from n) e ∙ ap (λ k. from k b) f
from_both n (suc a) b =
    let e : suc a + b ≡ suc (a + b) = omega arith in
    let f : suc n + a ≡ n + suc a = omega arith in
    ap (from n) e ∙ ap (λ (l : List ℕ). n ∷ l) (from_both (suc n) a b) ∙ ap (λ k. n ∷ from (suc n) a ++ from k b) f

module _ (i : ℕ) where
  from_last : (n k : ℕ) → times i (from n (suc k)) ≡ times i (from n k) + times i ((n + k) ∷ [])
  from_last n k =
      let e : suc k ≡ k + 1 = omega arith in
      ap (λ m. times i (from n m)) e ∙ ap (times i) (from_both n k 1) ∙ sum_append (only i) (from n k) (from (n + k) 1)

  from_none : (n k : ℕ) → i < n → times i (from n k) ≡ 0
  unfolding sum
  from_none n zero h = refl
  from_none n (suc k) h = times_other i n (from (suc n) k) (λ e. omega (arith, h, e)) ∙ from_none (suc n) k (omega arith)

  from_once : (n k : ℕ) → n ≤ i → i < n + k → times i (from n k) ≡ 1
  from_once n zero h l = absurd (omega arith)
  from_once n (suc k) h l = by (ℕ_discrete i n) (λ m. from_once (suc n) k m (omega arith))
    where
      by : Dec (i ≡ n) → (suc n ≤ i → times i (from (suc n) k) ≡ 1) → times i (n ∷ from (suc n) k) ≡ 1
      by (yes e) later =
          subst (λ m. times i (m ∷ from (suc m) k) ≡ 1) e
          (times_same i (from (suc i) k) ∙ ap (λ m. 1 + m) (from_none (suc i) k (omega arith)))
      by (no e) later = times_other i n (from (suc n) k) e ∙ later (omega arith)

  abbrev names : Expr → ℕ
  names e = times i e.children

  -- those of both operands, and the two that the operator's own line names
  names_both : (n a b : ℕ) (l r : List Expr) (s p : Bool) → sum names l ≡ times i (from n a) → sum names r ≡ times i (from (n + suc a) b)
      → sum names (l ++ (r ++ (binary s p (n + a) (n + suc a + b) ∷ []))) ≡ times i (from n (suc a + suc b))
  unfolding sum
  names_both n a b l r s p e f =
      let m = n + suc a in
      let own : List Expr = binary s p (n + a) (m + b) ∷ [] in
      omega (
        arith,
        sum_append names l (r ++ own),
        sum_append names r own,
        ap (times i) (from_both n (suc a) (suc b)),
        sum_append (only i) (from n (suc a)) (from m (suc b)),
        from_last n a,
        from_last m b,
      )

  -- every line but the last is named once, and no other
  lines_named : (n : ℕ) (t : Tree) → sum names (lines n t) ≡ times i (from n (before_own t))
  unfolding lines before_own sum
  lines_named n (Tree.letter b) = refl
  lines_named n (Tree.number v) = refl
  lines_named n (Tree.bracket a t b) = lines_named n t
  lines_named n (Tree.operator l a b a' r) =
      let m = n + suc (before_own l) in
      names_both n (before_own l) (before_own r) (lines n l) (lines m r) _ _ (lines_named n l) (lines_named m r)

  -- with one more naming, of the last, every line is named once
  pub named_once : (t : Tree)
      → let es = lines 0 t in
      i < length es → times i (concat_map (λ (e : Expr). e.children) es) + times i ((length es - 1) ∷ []) ≡ 1
  named_once t h =
      let q : 0 + before_own t ≡ length (lines 0 t) - 1 = omega (arith, lines_count 0 t) in
      ap (λ m. m + times i ((length (lines 0 t) - 1) ∷ [])) (sum_concat (only i) (λ (e : Expr). e.children) (lines 0 t) ∙ lines_named 0 t)
      ∙ ap (λ m. times i (from 0 (before_own t)) + times i (m ∷ [])) (sym q)
      ∙ sym (from_last 0 (before_own t)) ∙ from_once 0 (suc (before_own t)) (omega arith) (omega (arith, lines_count 0 t))
