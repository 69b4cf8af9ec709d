-- Laws of tables, and of tests over them.
use mathlib.Core.Path.{◌≡◌, refl, sym, ap, ◌∙◌, subst}
use Prim.Native.Nat.{ℕ, zero, suc, ◌+◌, ◌-◌, ◌≤◌, ◌<◌}
use mathlib.Core.Logic.{◌≢◌}
use native.Mathlib.Omega.{arith}
use native.Mathlib.Decide.{ℕ_discrete}
use mathlib.Core.Bool.{Bool, true, false, ◌&&◌, and-true, and-false}
use lib.ListN.{length, get_or}
use Rattle.std.proofs.Common.{add-one}
use Rattle.std.proofs.lemmas.List.{map-append}
use Rattle.std.specs.Bool.{MatchBool}
use Rattle.std.specs.List.{AllWithin, HoldsAt, range_with_len}
use Rattle.std.proofs.lemmas.List.FromFn.{get_or-range_with_len, length-range_with_len}
use mathlib.Core.List.{List, [], ◌∷◌, ◌++◌, map}
use Rattle.plan.specs.Lists.{all?}
use Rattle.storage.specs.Stored.{table}

pub map_table : {A B : Type 0} (h : A → B) (f : ℕ → A) (k n : ℕ) → map h (table f k n) ≡ table (λ j. h (f j)) k n
unfolding table
map_table h f k zero = refl
map_table h f k (suc n) = ap (λ l. h (f k) ∷ l) (map_table h f (suc k) n)

-- one entry more, at the end
pub all_last : {A : Type 0} (f : A → Bool) (l : List A) (a : A) → all? f (l ++ (a ∷ [])) ≡ (all? f l && f a)
unfolding all?
all_last f [] a = and-true (f a)
all_last f (x ∷ l) a = by (f x) (all_last f l a)
  where
    by : (b : Bool) → all? f (l ++ (a ∷ [])) ≡ (all? f l && f a) → (b && all? f (l ++ (a ∷ []))) ≡ (b && all? f l && f a)
    by true e = e
    by false e = refl

-- what `all` answers of the numbers from a on, if f is asked of the entry of each
module _ {A : Type 0} (f : A → Bool) (entry : ℕ → A) where
  all_true : (a n : ℕ) → ((k : ℕ) → a ≤ k → k < a + n → f (entry k) ≡ true) → all? f (table entry a n) ≡ true
  unfolding all? table
  all_true a zero h = refl
  all_true a (suc n) h = rw (h a (omega arith) (omega arith)) (all_true (suc a) n (λ k x y. h k (omega arith) (omega arith)))

  all_false : (a n k : ℕ) → a ≤ k → k < a + n → f (entry k) ≡ false → all? f (table entry a n) ≡ false
  unfolding all? table
  all_false a zero k x y e = absurd (omega arith)
  all_false a (suc n) k x y e = by (ℕ_discrete a k) (λ h. all_false (suc a) n k (omega (arith, h)) (omega arith) e)
    where
      by : Dec (a ≡ k) → (a ≢ k → all? f (table entry (suc a) n) ≡ false) → (f (entry a) && all? f (table entry (suc a) n)) ≡ false
      by (yes h) rest = rw (h, e)
      by (no h) rest = rw (rest h) (and-false (f (entry a)))

  pub all_answers : (a n : ℕ) (r : Bool)
      → MatchBool r (AllWithin (λ k. f (entry k) ≡ true) (range_with_len a n) 0 (length (range_with_len a n)))
      ((k : ℕ) × (k < length (range_with_len a n)) × HoldsAt (λ k. f (entry k) ≡ false) (range_with_len a n) k)
      → r ≡ all? f (table entry a n)
  all_answers a n true h =
      sym (all_true a n (λ k x y.
      let there : k - a < n = omega arith in
      let is : get_or (range_with_len a n) (k - a) 0 ≡ k = omega (arith, get_or-range_with_len a n (k - a) 0 there) in
      subst (λ (j : ℕ). f (entry j) ≡ true) is (h (k - a) 0 (omega arith) (omega (arith, length-range_with_len a n)))))
  all_answers a n false (k, there, h) =
      let within : k < n = omega (arith, there, length-range_with_len a n) in
      sym (all_false a n (a + k) (omega arith) (omega arith) (subst (λ (j : ℕ). f (entry j) ≡ false) (get_or-range_with_len a n k 0 within) (h 0)))

  -- what `fold` comes to, one number after the other
  pub folded_none : true ≡ all? f (map entry [])
  unfolding all?
  folded_none = refl

  pub folded_more : (ks : List ℕ) (k : ℕ) (r r' b : Bool) → r ≡ all? f (map entry ks) → b ≡ f (entry k) → r' ≡ (r && b) → r' ≡ all? f (map entry (ks ++ (k ∷ [])))
  folded_more ks k r r' b e e' e'' = rw (e'', e, e', map-append entry ks (k ∷ [])) (sym (all_last f (map entry ks) (entry k)))

  range_table : (a n : ℕ) → map entry (range_with_len a n) ≡ table entry a n
  unfolding table
  range_table a zero = refl
  range_table a (suc n) = ap (λ l. entry a ∷ l) (rw (add-one a) (range_table (suc a) n))

  pub folded : (a n : ℕ) (r : Bool) → r ≡ all? f (map entry (range_with_len a n)) → r ≡ all? f (table entry a n)
  folded a n r e = e ∙ ap (all? f) (range_table a n)
