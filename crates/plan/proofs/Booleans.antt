-- Tests, and tests of every entry of a list.
use mathlib.Core.Path.{◌≡◌, refl, ap, subst}
use Prim.Native.Nat.{ℕ, zero, suc, ◌+◌, ◌<◌}
use native.Mathlib.Omega.{arith}
use native.Mathlib.Nat.{not-suc-le-zero}
use mathlib.Core.Bool.{Bool, true, false, ◌&&◌, and-eq-true_iff}
use mathlib.Core.List.{List, [], ◌∷◌, ◌++◌, Memᴰ}
use lib.Dec.{T, eqb, eqb_refl}
use lib.ListN.{length, get_or}
use Rattle.plan.specs.Lists.{all?, numbered}
use Rattle.plan.proofs.ListLaws as passed

-- of a test that is true; ListLaws has them of one that passed
pub and_left : (a b : Bool) → (a && b) ≡ true → a ≡ true
and_left a b h = ((and-eq-true_iff a b).0 h).0

pub and_right : (a b : Bool) → (a && b) ≡ true → b ≡ true
and_right a b h = ((and-eq-true_iff a b).0 h).1

pub and_both : (a b : Bool) → T a → T b → T (a && b)
and_both true b t u = u
and_both false b t u = t

pub T_eq : (a b : Bool) → (T a → T b) → (T b → T a) → a ≡ b
T_eq true true f g = refl
T_eq true false f g = absurd (f tt)
T_eq false true f g = absurd (g tt)
T_eq false false f g = refl

pub equal : (m n : ℕ) → m ≡ n → T (eqb m n)
equal m n e = subst (λ x. T (eqb m x)) e (eqb_refl m)

module _ {A : Type 0} (f : A → Bool) where
  pub all_append : (l : List A) (a : A) → T (all? f l) → T (f a) → T (all? f (l ++ (a ∷ [])))
  unfolding all?
  all_append [] a t k = and_both (f a) true k tt
  all_append (x ∷ l) a t k =
      and_both (f x) (all? f (l ++ (a ∷ []))) (passed.and_left (f x) (all? f l) t) (all_append l a (passed.and_right (f x) (all? f l) t) k)

  pub all_at : (l : List A) (d : A) → T (all? f l) → (i : ℕ) → i < length l → T (f (get_or l i d))
  unfolding all?
  all_at [] d t i h = absurd (not-suc-le-zero h)
  all_at (x ∷ l) d t zero h = passed.and_left (f x) (all? f l) t
  all_at (x ∷ l) d t (suc i) h = all_at l d (passed.and_right (f x) (all? f l) t) i (omega arith)

-- a test of every numbered entry
numbered_at : {A : Type 0} (f : ℕ × A → Bool) (k : ℕ) (l : List A) (d : A) → T (all? f (numbered k l)) → (i : ℕ) → i < length l → T (f (k + i, get_or l i d))
unfolding all? numbered
numbered_at f k [] d t i h = absurd (not-suc-le-zero h)
numbered_at f k (x ∷ l) d t zero h = subst (λ n. T (f (n, x))) (omega arith) (passed.and_left (f (k, x)) _ t)
numbered_at f k (x ∷ l) d t (suc i) h =
    subst (λ n. T (f (n, get_or l i d))) (omega arith) (numbered_at f (suc k) l d (passed.and_right (f (k, x)) _ t) i (omega arith))

pub entry_at : {A : Type 0} (f : ℕ × A → Bool) (l : List A) (d : A) → T (all? f (numbered 0 l)) → (i : ℕ) → i < length l → T (f (i, get_or l i d))
entry_at f l d t i h = subst (λ n. T (f (n, get_or l i d))) (omega arith) (numbered_at f 0 l d t i h)

numbered_in : {A : Type 0} (k : ℕ) (l : List A) (d : A) (i : ℕ) → i < length l → Memᴰ (k + i, get_or l i d) (numbered k l)
unfolding numbered
numbered_in k [] d i h = absurd (not-suc-le-zero h)
numbered_in k (x ∷ l) d zero h = let e : k + 0 ≡ k = omega arith in Memᴰ.head (ap (λ n. (n, x)) e)
numbered_in k (x ∷ l) d (suc i) h = Memᴰ.tail (subst (λ n. Memᴰ (n, get_or l i d) (numbered (suc k) l)) (omega arith) (numbered_in (suc k) l d i (omega arith)))

pub entry_in : {A : Type 0} (l : List A) (d : A) (i : ℕ) → i < length l → Memᴰ (i, get_or l i d) (numbered 0 l)
entry_in l d i h = subst (λ n. Memᴰ (n, get_or l i d) (numbered 0 l)) (omega arith) (numbered_in 0 l d i h)
