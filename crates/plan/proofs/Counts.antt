-- Sums over lists, and the number of entries that pass a test.
use Rattle.std.specs.Prelude.{if◌then◌else◌}
use mathlib.Core.Path.{◌≡◌, refl, ap, ap₂, sym, ◌∙◌, subst}
use mathlib.Core.Logic.{◌⊎◌, inl, inr, ◌≢◌}
use Prim.Native.Nat.{ℕ, zero, suc, ◌+◌, ◌≤◌, ◌<◌}
use native.Mathlib.Omega.{arith}
use native.Mathlib.Nat.{add-le-add, not-suc-le-zero}
use mathlib.Core.Bool.{Bool, true, false, ◌||◌}
use mathlib.Core.List.Memᴰ
use mathlib.Core.List.{List, [], ◌∷◌, map, reverse, reverse-cons, Memᴰ}
use lib.Dec.{T, eqb, eqb→eq, eqb_refl}
use lib.ListN.{length, get_or}
use Rattle.plan.specs.Lists.{select, sum, concat_map, numbered, times, any?, among}
use Rattle.plan.proofs.ListLaws.{sum_append}
use borrow.Author.Tests.{ne_eqb}

-- Tests as equations --------------------------------------------------------------------------------------------------------

pub true_of : (b : Bool) → T b → b ≡ true
true_of true t = refl
true_of false t = absurd t

pub false_of : (b : Bool) → ¬ T b → b ≡ false
false_of true t = absurd (t tt)
false_of false t = refl

pub T_of : (b : Bool) → b ≡ true → T b
T_of true e = tt
T_of false e = let z : ◌≡◌ {A = ℕ} 0 1 = cc in absurd (omega arith)

pub not_both : (b : Bool) → T b → b ≡ false → ⊥
not_both true t e = let z : ◌≡◌ {A = ℕ} 0 1 = cc in omega arith
not_both false t e = t

-- Members -------------------------------------------------------------------------------------------------------------------

pub mem_at : {A : Type 0} (l : List A) (k : ℕ) (d : A) → k < length l → Memᴰ (get_or l k d) l
mem_at [] k d h = absurd (not-suc-le-zero h)
mem_at (x ∷ l) zero d h = Memᴰ.head refl
mem_at (x ∷ l) (suc k) d h = Memᴰ.tail (mem_at l k d (omega arith))

module _ {A B : Type 0} where
  pub of_map : (Q : B → Type 0) (g : A → B) (l : List A) → ((a : A) → Memᴰ a l → Q (g a)) → (b : B) → Memᴰ b (map g l) → Q b
  of_map Q g [] f b m = absurd (Memᴰ.not-nil m)
  of_map Q g (x ∷ l) f b m =
      elim (Memᴰ.cases_cons m) [
        | inl e ↦ subst Q (sym e) (f x (Memᴰ.head refl))
        | inr m' ↦ of_map Q g l (λ a i. f a (Memᴰ.tail i)) b m'
      ]

  pub mem_concat : (f : A → List B) (l : List A) (d : A) (b : B) → Memᴰ b (concat_map f l) → (i : ℕ) × (i < length l) × Memᴰ b (f (get_or l i d))
  unfolding concat_map
  mem_concat f [] d b m = absurd (Memᴰ.not-nil m)
  mem_concat f (x ∷ l) d b m =
      elim (Memᴰ.append_cases (f x) m) [
        | inl m' ↦ (0, omega arith, m')
        | inr m' ↦ let (i, h, n) = mem_concat f l d b m' in (suc i, omega arith, n)
      ]

  pub in_concat : (f : A → List B) (l : List A) (a : A) (b : B) → Memᴰ a l → Memᴰ b (f a) → Memᴰ b (concat_map f l)
  unfolding concat_map
  in_concat f [] a b m k = absurd (Memᴰ.not-nil m)
  in_concat f (x ∷ l) a b m k =
      elim (Memᴰ.cases_cons m) [
        | inl e ↦ Memᴰ.append_left (concat_map f l) (subst (λ (y : A). Memᴰ b (f y)) e k)
        | inr m' ↦ Memᴰ.append_right (f x) (in_concat f l a b m' k)
      ]

-- the entries of a numbered list
pub entry_of : {A : Type 0} (k : ℕ) (l : List A) (d : A) (x : ℕ × A) → Memᴰ x (numbered k l) → (i : ℕ) × (i < length l) × (x.0 ≡ k + i) × (x.1 ≡ get_or l i d)
unfolding numbered
entry_of k [] d x m = absurd (Memᴰ.not-nil m)
entry_of k (a ∷ l) d x m =
    elim (Memᴰ.cases_cons m) [
      | inl e ↦ (0, omega arith, omega (arith, ap (λ y. y.0) e), ap (λ y. y.1) e)
      | inr m' ↦ let (i, h, n, v) = entry_of (suc k) l d x m' in (suc i, omega arith, omega arith, v)
    ]

-- Sums ----------------------------------------------------------------------------------------------------------------------

module _ {A : Type 0} where
  pub sum_eq : (v w : A → ℕ) (l : List A) → ((a : A) → Memᴰ a l → v a ≡ w a) → sum v l ≡ sum w l
  unfolding sum
  sum_eq v w [] h = refl
  sum_eq v w (x ∷ l) h = ap₂ (λ a b. a + b) (h x (Memᴰ.head refl)) (sum_eq v w l (λ a m. h a (Memᴰ.tail m)))

  pub sum_le : (v w : A → ℕ) (l : List A) → ((a : A) → Memᴰ a l → v a ≤ w a) → sum v l ≤ sum w l
  unfolding sum
  sum_le v w [] h = omega arith
  sum_le v w (x ∷ l) h = add-le-add (h x (Memᴰ.head refl)) (sum_le v w l (λ a m. h a (Memᴰ.tail m)))

  pub sum_reverse : (w : A → ℕ) (l : List A) → sum w (reverse l) ≡ sum w l
  unfolding sum
  sum_reverse w [] = refl
  sum_reverse w (x ∷ l) = rw reverse-cons (omega (arith, sum_append w (reverse l) (x ∷ []), sum_reverse w l))

  pub sum_numbered : (h : A → ℕ) (k : ℕ) (l : List A) → sum (λ (n, a). h a) (numbered k l) ≡ sum h l
  unfolding sum numbered
  sum_numbered h k [] = refl
  sum_numbered h k (x ∷ l) = omega (arith, sum_numbered h (suc k) l)

  pub sum_ones : (l : List A) → sum (λ _. 1) l ≡ length l
  unfolding sum
  sum_ones [] = refl
  sum_ones (x ∷ l) = omega (arith, sum_ones l)

pub sum_concat : {A B : Type 0} (w : B → ℕ) (f : A → List B) (l : List A) → sum w (concat_map f l) ≡ sum (λ a. sum w (f a)) l
unfolding sum concat_map
sum_concat w f [] = refl
sum_concat w f (x ∷ l) = omega (arith, sum_append w (f x) (concat_map f l), sum_concat w f l)

-- Counts --------------------------------------------------------------------------------------------------------------------

abbrev pub count : {A : Type 0} → (A → Bool) → List A → ℕ
count f l = sum (λ a. if f a then 1 else 0) l

module _ {A : Type 0} (f : A → Bool) where
  pub counted_in : (l : List A) (a : A) → Memᴰ a l → T (f a) → 1 ≤ count f l
  unfolding sum
  counted_in [] a m t = absurd (Memᴰ.not-nil m)
  counted_in (x ∷ l) a m t =
      elim (Memᴰ.cases_cons m) [
        | inl e ↦ by (f x) (subst (λ y. T (f y)) e t)
        | inr m' ↦ omega (arith, counted_in l a m' t)
      ]
    where
      by : (b : Bool) → T b → 1 ≤ (if b then 1 else 0) + count f l
      by true t = omega arith
      by false t = absurd t

  -- a member that is counted, where one is
  pub some_counted : (l : List A) → 1 ≤ count f l → (a : A) × Memᴰ a l × T (f a)
  unfolding sum
  some_counted [] h = absurd (not-suc-le-zero h)
  some_counted (x ∷ l) h = by (f x) refl h (λ k. some_counted l k)
    where
      by : (b : Bool) → f x ≡ b → 1 ≤ (if b then 1 else 0) + count f l → (1 ≤ count f l → (a : A) × Memᴰ a l × T (f a))
          → (a : A) × Memᴰ a (x ∷ l) × T (f a)
      by true e h rec = (x, Memᴰ.head refl, T_of (f x) e)
      by false e h rec = let (a, m, t) = rec (omega arith) in (a, Memᴰ.tail m, t)

  -- two that are counted, at different places
  pub counted_twice : (l : List A) (d : A) (i j : ℕ) → i < j → j < length l → T (f (get_or l i d)) → T (f (get_or l j d)) → 2 ≤ count f l
  unfolding sum
  counted_twice [] d i j h k t u = absurd (not-suc-le-zero k)
  counted_twice (x ∷ l) d zero zero h k t u = absurd (omega arith)
  counted_twice (x ∷ l) d zero (suc j) h k t u = rw (true_of (f x) t) (omega (arith, counted_in l (get_or l j d) (mem_at l j d (omega arith)) u))
  counted_twice (x ∷ l) d (suc i) zero h k t u = absurd (omega arith)
  counted_twice (x ∷ l) d (suc i) (suc j) h k t u = omega (arith, counted_twice l d i j (omega arith) (omega arith) t u)

  -- a place that is counted, where one is
  pub counted_at : (l : List A) (d : A) → 1 ≤ count f l → (i : ℕ) × (i < length l) × T (f (get_or l i d))
  unfolding sum
  counted_at [] d h = absurd (not-suc-le-zero h)
  counted_at (x ∷ l) d h = by (f x) refl h (λ k. counted_at l d k)
    where
      by : (b : Bool) → f x ≡ b → 1 ≤ (if b then 1 else 0) + count f l → (1 ≤ count f l → (i : ℕ) × (i < length l) × T (f (get_or l i d)))
          → (i : ℕ) × (i < length (x ∷ l)) × T (f (get_or (x ∷ l) i d))
      by true e h rec = (0, omega arith, T_of (f x) e)
      by false e h rec = let (i, k, t) = rec (omega arith) in (suc i, omega arith, t)

  -- and another than n, where two are
  pub counted_beside : (l : List A) (d : A) (n : ℕ) → 2 ≤ count f l → (i : ℕ) × (i < length l) × (i ≢ n) × T (f (get_or l i d))
  unfolding sum
  counted_beside [] d n h = absurd (not-suc-le-zero h)
  counted_beside (x ∷ l) d zero h = by (f x) h
    where
      by : (b : Bool) → 2 ≤ (if b then 1 else 0) + count f l → (i : ℕ) × (i < length (x ∷ l)) × (i ≢ 0) × T (f (get_or (x ∷ l) i d))
      by true h = let (i, k, t) = counted_at l d (omega arith) in (suc i, omega arith, (λ e. omega (arith, e)), t)
      by false h = let (i, k, t) = counted_at l d (omega arith) in (suc i, omega arith, (λ e. omega (arith, e)), t)
  counted_beside (x ∷ l) d (suc n) h = by (f x) refl h (λ k. counted_beside l d n k)
    where
      by : (b : Bool) → f x ≡ b → 2 ≤ (if b then 1 else 0) + count f l
          → (2 ≤ count f l → (i : ℕ) × (i < length l) × (i ≢ n) × T (f (get_or l i d)))
          → (i : ℕ) × (i < length (x ∷ l)) × (i ≢ suc n) × T (f (get_or (x ∷ l) i d))
      by true e h rec = (0, omega arith, (λ e. omega (arith, e)), T_of (f x) e)
      by false e h rec = let (i, k, g, t) = rec (omega arith) in (suc i, omega arith, (λ e. g (omega (arith, e))), t)

  -- where at most one is counted, two of them are the same
  pub only_one : (l : List A) → count f l ≤ 1 → (a b : A) → Memᴰ a l → T (f a) → Memᴰ b l → T (f b) → a ≡ b
  unfolding sum
  only_one [] h a b m t n u = absurd (Memᴰ.not-nil m)
  only_one (x ∷ l) h a b m t n u = by (Memᴰ.cases_cons m) (Memᴰ.cases_cons n) (λ k k'. only_one l (omega arith) a b k t k' u)
    where
      late : (c : A) → T (f c) → Memᴰ c l → (d : A) → T (f d) → d ≡ x → ⊥
      late c v k d w e = let one = rw (true_of (f x) (subst (λ y. T (f y)) e w)) at h in omega (arith, counted_in l c k v)

      by : (a ≡ x) ⊎ Memᴰ a l → (b ≡ x) ⊎ Memᴰ b l → (Memᴰ a l → Memᴰ b l → a ≡ b) → a ≡ b
      by (inl d) (inl e) rec = d ∙ sym e
      by (inl d) (inr k) rec = absurd (late b u k a t d)
      by (inr k) (inl e) rec = absurd (late a t k b u e)
      by (inr k) (inr k') rec = rec k k'

  pub count_none : (l : List A) → ((a : A) → Memᴰ a l → f a ≡ false) → count f l ≡ 0
  unfolding sum
  count_none [] h = refl
  count_none (x ∷ l) h = rw (h x (Memᴰ.head refl)) (omega (arith, count_none l (λ a m. h a (Memᴰ.tail m))))

  pub count_same : (g : A → Bool) (l : List A) → ((a : A) → Memᴰ a l → f a ≡ g a) → count f l ≡ count g l
  count_same g l h = sum_eq (λ a. if f a then 1 else 0) (λ a. if g a then 1 else 0) l (λ a m. ap (λ (b : Bool). if b then 1 else 0) (h a m))

  pub select_le : (l : List A) → length (select f l) ≤ length l
  unfolding select
  select_le [] = omega arith
  select_le (x ∷ l) = by (f x) (select_le l)
    where
      by : (b : Bool) → length (select f l) ≤ length l → length (if b then x ∷ select f l else select f l) ≤ length (x ∷ l)
      by true h = omega arith
      by false h = omega arith

pub count_map : {A B : Type 0} (f : B → Bool) (g : A → B) (l : List A) → count f (map g l) ≡ count (λ a. f (g a)) l
unfolding sum
count_map f g [] = refl
count_map f g (x ∷ l) = omega (arith, count_map f g l)

-- two counts that balance two others, entry by entry
pub count_balance : {A : Type 0} (f g h k : A → Bool) (l : List A)
    → ((a : A) → Memᴰ a l → (if f a then 1 else 0) + (if g a then 1 else 0) ≡ (if h a then 1 else 0) + (if k a then 1 else 0))
    → count f l + count g l ≡ count h l + count k l
unfolding sum
count_balance f g h k [] e = refl
count_balance f g h k (x ∷ l) e = omega (arith, e x (Memᴰ.head refl), count_balance f g h k l (λ a m. e a (Memᴰ.tail m)))

-- How often a number stands in a list -----------------------------------------------------------------------------------------

-- the weighing of which `times n` is the sum
abbrev pub only : ℕ → ℕ → ℕ
only n m = if eqb n m then 1 else 0

pub same_number : (n : ℕ) → eqb n n ≡ true
same_number n = true_of (eqb n n) (eqb_refl n)

pub times_other : (m n : ℕ) (l : List ℕ) → m ≢ n → times m (n ∷ l) ≡ times m l
unfolding sum
times_other m n l h = rw (ne_eqb m n h) (omega arith)

pub times_same : (n : ℕ) (l : List ℕ) → times n (n ∷ l) ≡ 1 + times n l
unfolding sum
times_same n l = rw (same_number n) refl

pub times_of : (n : ℕ) (l : List ℕ) → Memᴰ n l → 1 ≤ times n l
times_of n l m = counted_in (eqb n) l n m (eqb_refl n)

pub stands_in : (n : ℕ) (l : List ℕ) → 1 ≤ times n l → Memᴰ n l
stands_in n l h = let (x, m, e) = some_counted (eqb n) l h in subst (λ y. Memᴰ y l) (sym (eqb→eq n x e)) m

pub among_times : (n : ℕ) (l : List ℕ) → T (among n l) → 1 ≤ times n l
unfolding any? sum
among_times n [] t = absurd t
among_times n (x ∷ l) t = by (eqb n x) t (among_times n l)
  where
    by : (b : Bool) → T (b || among n l) → (T (among n l) → 1 ≤ times n l) → 1 ≤ (if b then 1 else 0) + times n l
    by true t rec = omega arith
    by false t rec = omega (arith, rec t)

pub times_among : (n : ℕ) (l : List ℕ) → 1 ≤ times n l → T (among n l)
unfolding any? sum
times_among n [] h = absurd (not-suc-le-zero h)
times_among n (x ∷ l) h = by (eqb n x) h (times_among n l)
  where
    by : (b : Bool) → 1 ≤ (if b then 1 else 0) + times n l → (1 ≤ times n l → T (among n l)) → T (b || among n l)
    by true h rec = tt
    by false h rec = rec (omega arith)

pub mem_reverse : (n : ℕ) (l : List ℕ) → Memᴰ n (reverse l) → Memᴰ n l
mem_reverse n l m = stands_in n l (omega (arith, times_of n (reverse l) m, sum_reverse (only n) l))
