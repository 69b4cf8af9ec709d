-- Tests of each entry of a list in turn.
use mathlib.Core.Path.{◌≡◌, refl, sym, ap, ◌∙◌}
use mathlib.Core.Bool.{Bool, ◌&&◌}
use mathlib.Core.List.{List, [], ◌∷◌, map}
use Prim.Native.Nat.{ℕ, zero, suc, ◌+◌, ◌-◌, ◌<◌, ◌≤◌}
use native.Mathlib.Numerals.{add-one}
use native.Mathlib.Omega.{arith}
use Rattle.std.specs.List.{list_all, range_with_len}
use Rattle.plan.specs.Lists.{all?, numbered}
use Rattle.plan.specs.Faults.{first_fault}
use Rattle.storage.specs.Stored.{table}
use Rattle.plan.proofs.FaultLaws.{first_given}

-- Tests of each entry ---------------------------------------------------------------------------------------------------------

pub all_is : {A : Type 0} (f : A → Bool) (l : List A) → list_all f l ≡ all? f l
unfolding all?
all_is f [] = refl
all_is f (x ∷ l) = ap (λ b. f x && b) (all_is f l)

-- lines by their indices, and the same with them
pub lines_are : {A : Type 0} (p : ℕ → Bool) (f : ℕ × A → Bool) (g : ℕ → A) (k n : ℕ) → ((i : ℕ) → i < k + n → p i ≡ f (i, g i))
    → list_all p (range_with_len k n) ≡ all? f (numbered k (table g k n))
unfolding all? numbered table
lines_are p f g k zero h = refl
lines_are p f g k (suc n) h =
    rw (h k (omega arith))
    (ap (λ b. f (k, g k) && b) (ap (λ i. list_all p (range_with_len i n)) (add-one k) ∙ lines_are p f g (suc k) n (λ i l. h i (omega arith))))

-- a count that goes down as an index goes up
left : (i n : ℕ) → i < n → n - i ≡ suc (n - (i + 1))
left i n h = omega arith

-- lines that have a number each: the first that is not 0
module _ {A : Type 0} (f : ℕ × A → ℕ) (g : ℕ → A) (n : ℕ) where
  unfoldable pub faults_from : ℕ → ℕ
  faults_from i = first_fault (map f (numbered i (table g i (n - i))))

  fault_next : (i : ℕ) → i < n → faults_from i ≡ first_fault (f (i, g i) ∷ map f (numbered (i + 1) (table g (i + 1) (n - (i + 1)))))
  unfolding numbered table faults_from
  fault_next i h = rw (left i n h, add-one i)

  pub fault_found : (i : ℕ) {k w : ℕ} → i < n → k ≡ f (i, g i) → (k ≡ 0 → ⊥) → w ≡ faults_from i → k ≡ w
  fault_found i h e d p = sym (p ∙ fault_next i h ∙ rw (← e) (first_given _ _ d))

  pub fault_none : (i : ℕ) {k w : ℕ} → i < n → k ≡ f (i, g i) → k ≡ 0 → w ≡ faults_from i → w ≡ faults_from (i + 1)
  unfolding first_fault faults_from
  fault_none i h e z p = p ∙ fault_next i h ∙ rw (← e, z)

  pub faults_none : (i : ℕ) {w : ℕ} → n ≤ i → w ≡ faults_from i → 0 ≡ w
  unfolding first_fault numbered table faults_from
  faults_none i h p = let e : n - i ≡ 0 = omega arith in sym (p ∙ rw e)

  pub faults_first : first_fault (map f (numbered 0 (table g 0 n))) ≡ faults_from 0
  unfolding faults_from
  faults_first = let e : n - 0 ≡ n = omega arith in rw e

  pub past : (i : ℕ) → i ≤ n → ((j : ℕ) → j < i → f (j, g j) ≡ 0) → first_fault (map f (numbered 0 (table g 0 n))) ≡ faults_from i
  past zero h e = faults_first
  past (suc i) h e = fault_none i (omega arith) refl (e i (omega arith)) (past i (omega arith) (λ j l. e j (omega arith))) ∙ ap faults_from (add-one i)
