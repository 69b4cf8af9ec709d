-- A text held against another that begins with a known front, as the code does it: the front, then what stands behind it.
use mathlib.Core.Path.{◌≡◌, refl, sym, ap, ◌∙◌, subst}
use Prim.Native.Nat.{ℕ, ◌<◌}
use native.Mathlib.Omega.{arith}
use mathlib.Core.Bool.{Bool, true, false, ◌&&◌}
use mathlib.Core.List.{List, [], ◌∷◌, ◌++◌}
use lib.Dec.{T, eqb, eqb_refl}
use lib.ListN.{length, take, drop, length-append, take-append-drop}
use lib.Seq.{take_at}
use lib.Pointwise.{pointwise, bytes_decides}
use Rattle.plan.specs.Lists.{same}
use Rattle.plan.proofs.Booleans.{and_both, T_eq}
use Rattle.plan.proofs.ListLaws.{same→eq}

same_itself : (x : List ℕ) → T (same x x)
unfolding same
same_itself [] = tt
same_itself (x ∷ xs) = and_both (eqb x x) (same xs xs) (eqb_refl x) (same_itself xs)

pub same_if_equal : (x y : List ℕ) → x ≡ y → same x y ≡ true
same_if_equal x y e = T_eq (same x y) true (λ t. tt) (λ t. subst (λ (l : List ℕ). T (same x l)) e (same_itself x))

pub not_same : (x y : List ℕ) → ¬ (x ≡ y) → same x y ≡ false
not_same x y h = T_eq (same x y) false (λ t. h (same→eq x y t)) (λ t. absurd t)

same_behind : (front x y : List ℕ) → same (front ++ x) (front ++ y) ≡ same x y
unfolding same
same_behind [] x y = refl
same_behind (b ∷ front) x y = rw (T_eq (eqb b b) true (λ t. tt) (λ t. eqb_refl b)) (same_behind front x y)

module _ (text front : List ℕ) where
  pub front_same : pointwise eqb (take (length front) text) front ≡ true → (y : List ℕ) → same text (front ++ y) ≡ same (drop (length front) text) y
  front_same p y =
      let split : text ≡ front ++ drop (length front) text =
      sym (take-append-drop (length front) text) ∙ ap (λ (l : List ℕ). l ++ drop (length front) text) ((bytes_decides (take (length front) text) front).0 p) in
      ap (λ (l : List ℕ). same l (front ++ y)) split ∙ same_behind front (drop (length front) text) y

  -- so what stands behind it decides
  pub front_decides : (rest : List ℕ) → rest ≡ drop (length front) text → pointwise eqb (take (length front) text) front ≡ true → (y : List ℕ) (b : Bool)
      → b ≡ same rest y → b ≡ same text (front ++ y)
  front_decides rest is p y b e = e ∙ ap (λ (l : List ℕ). same l y) is ∙ sym (front_same p y)

  pub front_differs : pointwise eqb (take (length front) text) front ≡ false → (y : List ℕ) → same text (front ++ y) ≡ false
  front_differs f y =
      not_same text (front ++ y)
      (λ e.
      let same_front : take (length front) text ≡ front = ap (take (length front)) e ∙ take_at front y (length front) refl in
      subst T (sym ((bytes_decides (take (length front) text) front).1 same_front) ∙ f) tt)

  pub too_short : length text < length front → (y : List ℕ) → same text (front ++ y) ≡ false
  too_short h y = not_same text (front ++ y) (λ e. omega (arith, h, ap length e, length-append front y))

  -- so the tests of both parts decide: a of the front, b of what stands behind it
  pub both_decide : {start rest : List ℕ} (a b : Bool) → start ≡ take (length front) text → a ≡ pointwise eqb start front
      → rest ≡ drop (length front) text → (y : List ℕ) → b ≡ same rest y → (a && b) ≡ same text (front ++ y)
  both_decide {rest = rest} true b is p behind y q = front_decides rest behind (sym (rw is at p)) y b q
  both_decide false b is p behind y q = sym (front_differs (sym (rw is at p)) y)
