-- Laws of tests and of lists that several crates cite.
use Rattle.std.specs.Prelude.{if◌then◌else◌}
use mathlib.Core.Path.{◌≡◌, refl, sym, ap, ap₂, ◌∙◌, subst}
use mathlib.Core.Logic.{inl, inr}
use Prim.Native.Nat.{ℕ, zero, suc, ◌+◌, ◌-◌}
use native.Mathlib.Omega.{arith}
use native.Mathlib.Nat.{suc-add}
use mathlib.Core.Bool.{Bool, true, false, ◌&&◌}
use mathlib.Core.List.Memᴰ
use mathlib.Core.List.{List, [], ◌∷◌, ◌++◌, Memᴰ}
use lib.Dec.{T, eqb, eqb→eq}
use lib.ListN.{length, take, drop, length-drop}
use lib.Seq.{take-nil, take_all}
use Rattle.plan.specs.Lists.{all?, select, sum, same}

-- What a passed test says --------------------------------------------------------------------------------------------------------

pub and_left : (a b : Bool) → T (a && b) → T a
and_left true b t = tt
and_left false b t = t

pub and_right : (a b : Bool) → T (a && b) → T b
and_right true b t = t
and_right false b t = absurd t

pub of_all : {A : Type 0} (f : A → Bool) (l : List A) → T (all? f l) → (a : A) → Memᴰ a l → T (f a)
unfolding all?
of_all f [] t a m = absurd (Memᴰ.not-nil m)
of_all f (x ∷ xs) t a m =
    elim (Memᴰ.cases_cons m) [
      | inl e ↦ subst (λ y. T (f y)) (sym e) (and_left (f x) (all? f xs) t)
      | inr m' ↦ of_all f xs (and_right (f x) (all? f xs) t) a m'
    ]

pub same→eq : (x y : List ℕ) → T (same x y) → x ≡ y
unfolding same
same→eq [] [] t = refl
same→eq [] (y ∷ ys) t = absurd t
same→eq (x ∷ xs) [] t = absurd t
same→eq (x ∷ xs) (y ∷ ys) t =
    ap₂ (λ (a : ℕ) (l : List ℕ). a ∷ l) (eqb→eq x y (and_left (eqb x y) (same xs ys) t)) (same→eq xs ys (and_right (eqb x y) (same xs ys) t))

-- Sums and parts -----------------------------------------------------------------------------------------------------------------

pub sum_append : {A : Type 0} (w : A → ℕ) (l m : List A) → sum w (l ++ m) ≡ sum w l + sum w m
unfolding sum
sum_append w [] m = omega arith
sum_append w (x ∷ l) m = omega (arith, sum_append w l m)

module _ {A : Type 0} (p : A → Bool) where
  pub select_append : (l m : List A) → select p (l ++ m) ≡ select p l ++ select p m
  unfolding select
  select_append [] m = refl
  select_append (x ∷ l) m = by (p x) (select_append l m)
    where
      by : (b : Bool) → select p (l ++ m) ≡ select p l ++ select p m
          → (if b then x ∷ select p (l ++ m) else select p (l ++ m)) ≡ (if b then x ∷ select p l else select p l) ++ select p m
      by true e = ap (λ r. x ∷ r) e
      by false e = e

pub drop_take : (a m : ℕ) (l : List ℕ) → drop a (take (a + m) l) ≡ take m (drop a l)
drop_take zero m l = let e : 0 + m ≡ m = omega arith in rw e
drop_take (suc a) m [] = ap (drop (suc a)) (take-nil (suc a + m)) ∙ sym (take-nil m)
drop_take (suc a) m (x ∷ l) = ap (λ n. drop (suc a) (take n (x ∷ l))) (suc-add a m) ∙ drop_take a m l

-- the part of a slice from a place on
pub part_from : (s : List ℕ) (a : ℕ) → take (length s - a) (drop a s) ≡ drop a s
part_from s a = take_all (length s - a) (drop a s) (omega (arith, length-drop a s))
