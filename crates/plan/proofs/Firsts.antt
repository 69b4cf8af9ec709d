-- The first entry of a list that is wrong, by a test that tells wrong entries from right ones.
use mathlib.Core.Path.{refl, ap, sym, subst}
use mathlib.Core.Logic.{inl, inr}
use mathlib.Core.Bool.{Bool, true, false, ◌&&◌, not}
use mathlib.Core.List.Memᴰ
use mathlib.Core.List.{List, [], ◌∷◌, Memᴰ}
use lib.Dec.{T, not_T}
use Rattle.plan.specs.Lists.{all?}
use Rattle.plan.specs.Conditions.{None, First}
use Rattle.plan.proofs.ListLaws.{of_all}

module _ {A : Type 0} (right : A → Bool) (Wrong : A → Type 0) where
  -- on the entries of l the test is right
  pub record Tells (l : List A) : Type 0 where
    pub fails : (x : A) → Memᴰ x l → T (not (right x)) → Wrong x
    pub passes : (x : A) → Memᴰ x l → T (right x) → ¬ Wrong x

  later : (x : A) (l : List A) → Tells (x ∷ l) → Tells l
  later x l k = record { fails = λ y m. k.fails y (Memᴰ.tail m); passes = λ y m. k.passes y (Memᴰ.tail m) }

  member : (l : List A) (x : A) → First Wrong l x → Memᴰ x l
  member l x k = subst (λ (y : List A). Memᴰ x y) (sym k.split) (Memᴰ.append_right k.before (Memᴰ.head refl))

  pub first_wrong : (l : List A) → Tells l → T (not (all? right l)) → (x : A) × First Wrong l x
  unfolding all?
  first_wrong [] k t = absurd t
  first_wrong (x ∷ l) k t = by (right x) (λ u. u) (λ u. u) t (λ u. first_wrong l (later x l k) u)
    where
      front : (y : A) → T (right x) → First Wrong l y → First Wrong (x ∷ l) y
      front y u f =
          record {
            before = x ∷ f.before;
            after = f.after;
            split = ap (λ (m : List A). x ∷ m) f.split;
            right =
                λ z m.
                elim (Memᴰ.cases_cons m) [
                  | inl e ↦ subst (λ (v : A). ¬ Wrong v) (sym e) (k.passes x (Memᴰ.head refl) u)
                  | inr n ↦ f.right z n
                ];
            wrong = f.wrong;
          }

      by : (b : Bool) → (T b → T (right x)) → (T (not b) → T (not (right x))) → T (not (b && all? right l)) → (T (not (all? right l)) → (y : A) × First Wrong l y)
          → (y : A) × First Wrong (x ∷ l) y
      by true f g t rec = let (y, first) = rec t in (y, front y (f tt) first)
      by false f g t rec =
          (x, record { before = []; after = l; split = refl; right = λ z m. absurd (Memᴰ.not-nil m); wrong = k.fails x (Memᴰ.head refl) (g tt) })

  module _ (l : List A) (k : Tells l) where
    pub none_wrong : T (all? right l) → None Wrong l
    none_wrong t x m = k.passes x m (of_all right l t x m)

    pub all_right : None Wrong l → T (all? right l)
    all_right n = by (all? right l) (λ t. first_wrong l k t)
      where
        by : (b : Bool) → (T (not b) → (x : A) × First Wrong l x) → T b
        by true f = tt
        by false f = let (x, first) = f tt in absurd (n x (member l x first) first.wrong)

    -- the first wrong entry and those before it, as the test has them
    pub first_fails : (x : A) → First Wrong l x → T (not (right x))
    first_fails x f = not_T (right x) (λ t. k.passes x (member l x f) t f.wrong)

  pub before_passes : (l : List A) → Tells l → (x : A) (f : First Wrong l x) → T (all? right f.before)
  before_passes l k x f = all_right f.before (record { fails = λ y m. k.fails y (there y m); passes = λ y m. k.passes y (there y m) }) f.right
    where
      there : (y : A) → Memᴰ y f.before → Memᴰ y l
      there y m = subst (λ (z : List A). Memᴰ y z) (sym f.split) (Memᴰ.append_left (x ∷ f.after) m)
