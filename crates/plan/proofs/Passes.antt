-- A pass of `checked` against the condition of its numbers: the first line that is wrong gives its own.
use Rattle.std.specs.Prelude.{if◌then◌else◌}
use mathlib.Core.Path.{◌≡◌, ap, sym, ◌∙◌}
use mathlib.Core.Logic.{◌⊎◌, inl, inr, ◌≢◌}
use Prim.Native.Nat.{ℕ}
use mathlib.Core.Bool.{Bool, true, false, not}
use mathlib.Core.List.{List, ◌∷◌, ◌++◌, map, map-append, append_assoc}
use lib.Dec.{T}
use Rattle.plan.specs.Lists.{all?}
use Rattle.plan.specs.Faults.{first_fault}
use Rattle.plan.specs.Conditions.{None, First}
use Rattle.plan.proofs.Counts.{true_of}
use Rattle.plan.proofs.FaultLaws.{first_of_two, first_given, all_right_is}
use Rattle.plan.proofs.Firsts.{Tells, first_wrong, none_wrong, all_right, first_fails, before_passes}

-- over the lines l: a test that tells the wrong ones, and their numbers
pub record Pass {A : Type 0} (right : A → Bool) (Wrong : A → Type 0) (number : A → ℕ) (l : List A) : Type 0 where
  pub tells : Tells right Wrong l
  pub given : (x : A) → number x ≢ 0

module _ {A : Type 0} (right : A → Bool) (number : A → ℕ) (given : (x : A) → number x ≢ 0) where
  abbrev fault : A → ℕ
  fault x = if right x then 0 else number x

  all_pass : (l : List A) (later : List ℕ) → T (all? right l) → first_fault (map fault l ++ later) ≡ first_fault later
  all_pass l later t =
      first_of_two (map fault l) later
      ∙ ap (λ (b : Bool). if b then first_fault later else first_fault (map fault l)) (sym (all_right_is right number given l) ∙ true_of (all? right l) t)

  one_fails : (before after : List A) (x : A) (later : List ℕ) → T (all? right before) → T (not (right x))
      → first_fault (map fault (before ++ (x ∷ after)) ++ later) ≡ number x
  one_fails before after x later t u =
      ap first_fault (ap (λ (ns : List ℕ). ns ++ later) (map-append fault before (x ∷ after)) ∙ append_assoc (map fault before) (map fault (x ∷ after)) later)
      ∙ all_pass before (map fault (x ∷ after) ++ later) t
      ∙ by (right x) u
    where
      by : (b : Bool) → T (not b) → first_fault ((if b then 0 else number x) ∷ (map fault after ++ later)) ≡ number x
      by true u = absurd u
      by false u = first_given (number x) (map fault after ++ later) (given x)

module _ {A : Type 0} {right : A → Bool} {Wrong : A → Type 0} {number : A → ℕ} {l : List A} (p : Pass right Wrong number l) (later : List ℕ) where
  abbrev comes_to : ℕ
  comes_to = first_fault (map (λ x. if right x then 0 else number x) l ++ later)

  pub pass_goes : None Wrong l → comes_to ≡ first_fault later
  pass_goes n = all_pass right number p.given l later (all_right right Wrong l p.tells n)

  pub pass_stops : (x : A) → First Wrong l x → comes_to ≡ number x
  pass_stops x f =
      ap (λ (z : List A). first_fault (map (λ x. if right x then 0 else number x) z ++ later)) f.split
      ∙ one_fails right number p.given f.before f.after x later (before_passes right Wrong l p.tells x f) (first_fails right Wrong l p.tells x f)

  -- it gave the number of its first wrong line, or no line is wrong
  pub pass_came : {n : ℕ} → comes_to ≡ n → ((x : A) × First Wrong l x × (number x ≡ n)) ⊎ (None Wrong l × (first_fault later ≡ n))
  pass_came {n} e = by (all? right l) (λ t. t) (λ t. t)
    where
      by : (b : Bool) → (T b → T (all? right l)) → (T (not b) → T (not (all? right l))) → ((x : A) × First Wrong l x × (number x ≡ n)) ⊎ (None Wrong l × (first_fault later ≡ n))
      by true f g = let none = none_wrong right Wrong l p.tells (f tt) in inr (none, sym (pass_goes none) ∙ e)
      by false f g = let (x, first) = first_wrong right Wrong l p.tells (g tt) in inl (x, first, sym (pass_stops x first) ∙ e)

  pub pass_none : comes_to ≡ 0 → None Wrong l × (first_fault later ≡ 0)
  pass_none e = elim (pass_came e) [ inl (x, _, z) ↦ absurd (p.given x z) | inr t ↦ t ]
