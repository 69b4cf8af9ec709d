-- The rows of the tables: no list of a line that fits its table has more than eight entries, and past the table every limit is 0.
use mathlib.Core.Path.{◌≡◌, refl, sym, ap, ◌∙◌}
use mathlib.Core.Bool.{Bool, true, ◌&&◌, ◌||◌, not}
use mathlib.Core.List.{List, [], ◌∷◌}
use Prim.Native.Nat.{ℕ, zero, suc, ◌+◌, ◌≤◌}
use native.Mathlib.Omega.{arith}
use lib.Dec.{eqb, ltb, leb}
use lib.ListN.{get_or, get_or-eq_default}
use borrow.Author.Tests.{leb-true}
use Rattle.plan.specs.Lists.{all?, yes?}
use Rattle.plan.specs.Sheet.{expr_table, step_table}
use Rattle.plan.proofs.Booleans.{and_left, and_right}
use Rattle.reading.specs.Tables.{row, between, within, expr_kind_fits, expr_numbers_fit, limits, most_a, most_b, most_c, inputs, exprs, most_aggs, step_kind_fits, step_numbers_fit, FewEntries}

-- what holds of each row of a table, and of the one that stands for none
row_has : {A : Type 0} (p : A → Bool) (rows : List A) (none : A) → all? p rows ≡ true → p none ≡ true → (k : ℕ) → p (get_or rows k none) ≡ true
unfolding all?
row_has p [] none h n k = n
row_has p (x ∷ rows) none h n zero = and_left (p x) (all? p rows) h
row_has p (x ∷ rows) none h n (suc k) = row_has p rows none (and_right (p x) (all? p rows) h) n k

pub few_children : (k : ℕ) → (row k).children.most ≤ 8
unfolding row expr_table all?
few_children k = leb-true _ 8 (row_has (λ (r : ℕ × ℕ × ℕ). leb r.1 8) expr_table (0, 0, 0) refl refl k)

pub few_inputs : (k : ℕ) → (inputs k).most ≤ 8
unfolding inputs step_table all?
few_inputs k = leb-true _ 8 (row_has (λ (r : ℕ × ℕ × ℕ × ℕ × ℕ × ℕ × ℕ × ℕ). leb r.4 8) step_table (0, 0, 0, 0, 0, 0, 0, 0) refl refl k)

pub few_exprs : (k : ℕ) → (exprs k).most ≤ 8
unfolding exprs step_table all?
few_exprs k = leb-true _ 8 (row_has (λ (r : ℕ × ℕ × ℕ × ℕ × ℕ × ℕ × ℕ × ℕ). leb r.6 8) step_table (0, 0, 0, 0, 0, 0, 0, 0) refl refl k)

pub few_aggs : (k : ℕ) → most_aggs k ≤ 8
unfolding most_aggs step_table all?
few_aggs k = leb-true _ 8 (row_has (λ (r : ℕ × ℕ × ℕ × ℕ × ℕ × ℕ × ℕ × ℕ). leb r.7 8) step_table (0, 0, 0, 0, 0, 0, 0, 0) refl refl k)

few_in_expr : (k s l a n : ℕ) → expr_numbers_fit k s l a n ≡ true → n ≤ 8
unfolding expr_numbers_fit expr_kind_fits
few_in_expr k s l a n h =
    let r = row k in
    let fits = and_right (ltb k 25 && leb s 1 && leb l 1) (expr_kind_fits k a n) h in
    let children = and_right (leb a r.option) (within n r.children) (and_left (leb a r.option && within n r.children) (not (eqb k 16 && yes? a) || leb 2 n) fits) in
    omega (arith, few_children k, leb-true n r.children.most (and_right (leb r.children.least n) (leb n r.children.most) children))

few_in_step : (k a b c n1 n2 n3 n : ℕ) → step_numbers_fit k a b c n1 n2 n3 n ≡ true → FewEntries n1 n2 n3
unfolding step_numbers_fit step_kind_fits
few_in_step k a b c n1 n2 n3 n h =
    let i = inputs k in
    let e = exprs k in
    let options = leb a (most_a k) && leb b (most_b k) && leb c (most_c k) in
    let two = within n1 i && within n2 e in
    let lists = two && leb n3 (most_aggs k) in
    let fits = and_right (ltb k 19 && eqb n (7 + n1 + n2 + n3)) (step_kind_fits k a b c n1 n2 n3) h in
    let all = and_right options lists (and_left (options && lists) (not (eqb k 2 && eqb b 0) || eqb n2 0) fits) in
    let both = and_left two (leb n3 (most_aggs k)) all in
    record {
      inputs = omega (arith, few_inputs k, leb-true n1 i.most (and_right (leb i.least n1) (leb n1 i.most) (and_left (within n1 i) (within n2 e) both)));
      exprs = omega (arith, few_exprs k, leb-true n2 e.most (and_right (leb e.least n2) (leb n2 e.most) (and_right (within n1 i) (within n2 e) both)));
      aggs = omega (arith, few_aggs k, leb-true n3 (most_aggs k) (and_right two (leb n3 (most_aggs k)) all));
    }

-- what is told of a line, and that its entries are few
pub expr_told : (k s l a n : ℕ) (fits : Bool) → fits ≡ expr_numbers_fit k s l a n → (fits ≡ expr_numbers_fit k s l a n) × (fits ≡ true → n ≤ 8)
expr_told k s l a n fits e = (e, λ h. few_in_expr k s l a n (sym e ∙ h))

pub step_told : (k a b c n1 n2 n3 n : ℕ) (fits : Bool) → fits ≡ step_numbers_fit k a b c n1 n2 n3 n
    → (fits ≡ step_numbers_fit k a b c n1 n2 n3 n) × (fits ≡ true → FewEntries n1 n2 n3)
step_told k a b c n1 n2 n3 n fits e = (e, λ h. few_in_step k a b c n1 n2 n3 n (sym e ∙ h))

-- Past the table every limit is 0 ----------------------------------------------------------------------------------------------

past : (k : ℕ) → 19 ≤ k → limits k ≡ (0, 0, 0, 0, 0, 0, 0, 0)
unfolding step_table
past k h = get_or-eq_default step_table (0, 0, 0, 0, 0, 0, 0, 0) h

pub past_a : (k : ℕ) → 19 ≤ k → 0 ≡ most_a k
unfolding most_a
past_a k h = sym (ap (λ l. l.0) (past k h))

pub past_b : (k : ℕ) → 19 ≤ k → 0 ≡ most_b k
unfolding most_b
past_b k h = sym (ap (λ l. l.1) (past k h))

pub past_c : (k : ℕ) → 19 ≤ k → 0 ≡ most_c k
unfolding most_c
past_c k h = sym (ap (λ l. l.2) (past k h))

pub past_inputs : (k : ℕ) → 19 ≤ k → between 0 0 ≡ inputs k
unfolding inputs
past_inputs k h = rw (past k h)

pub past_exprs : (k : ℕ) → 19 ≤ k → between 0 0 ≡ exprs k
unfolding exprs
past_exprs k h = rw (past k h)

pub past_aggs : (k : ℕ) → 19 ≤ k → 0 ≡ most_aggs k
unfolding most_aggs
past_aggs k h = sym (ap (λ l. l.7) (past k h))
