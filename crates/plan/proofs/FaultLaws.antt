-- The number that a pass of `checked` comes to, and the test of one line.
use Rattle.std.specs.Prelude.{if◌then◌else◌}
use mathlib.Core.Path.{◌≡◌, refl, ap, ap₂, sym, ◌∙◌, subst}
use mathlib.Core.Logic.{◌≢◌}
use Prim.Native.Nat.{ℕ, zero, suc, ◌<◌}
use mathlib.Core.Bool.{Bool, true, false, ◌&&◌, and_assoc}
use mathlib.Core.List.{List, [], ◌∷◌, ◌++◌, map, map-append, map-map}
use lib.Dec.{T, eqb, eqb-suc-zero}
use lib.ListN.{length}
use Rattle.plan.specs.Lists.{all?, numbered}
use Rattle.plan.specs.Sheet.{Sheet, no_expr, no_step, expr_at, step_at}
use Rattle.plan.specs.Faults.{Indexed, lines, first_fault}
use Rattle.plan.proofs.ListLaws.{and_left, and_right}
use Rattle.plan.proofs.Booleans.{entry_at}

-- of two lists of numbers the first decides, unless it has none
pub first_of_two : (ns ms : List ℕ) → first_fault (ns ++ ms) ≡ (if eqb (first_fault ns) 0 then first_fault ms else first_fault ns)
unfolding first_fault
first_of_two [] ms = refl
first_of_two (zero ∷ ns) ms = first_of_two ns ms
first_of_two (suc n ∷ ns) ms = rw (eqb-suc-zero n)

pub first_given : (k : ℕ) (ns : List ℕ) → k ≢ 0 → first_fault (k ∷ ns) ≡ k
unfolding first_fault
first_given zero ns h = absurd (h refl)
first_given (suc k) ns h = refl

-- a pass gives nothing exactly if all its lines pass their test
pub all_right_is : {A : Type 0} (right : A → Bool) (number : A → ℕ) → ((x : A) → number x ≢ 0) → (l : List A)
    → all? right l ≡ eqb (first_fault (map (λ x. if right x then 0 else number x) l)) 0
unfolding first_fault all?
all_right_is right number given [] = refl
all_right_is {A} right number given (x ∷ l) = by (right x) (number x) (given x) (all_right_is right number given l)
  where
    later : List ℕ
    later = map (λ (y : A). if right y then 0 else number y) l

    by : (b : Bool) (k : ℕ) → k ≢ 0 → all? right l ≡ eqb (first_fault later) 0 → (b && all? right l) ≡ eqb (first_fault ((if b then 0 else k) ∷ later)) 0
    by true k h e = e
    by false zero h e = absurd (h refl)
    by false (suc k) h e = sym (eqb-suc-zero k)

-- a pass that gives one number
pub one_number : {A : Type 0} (right : A → Bool) (k : ℕ) → k ≢ 0 → (l : List A) (later : List ℕ)
    → first_fault (map (λ x. if right x then 0 else k) l ++ later) ≡ (if all? right l then first_fault later else k)
unfolding first_fault all?
one_number right k h [] later = refl
one_number {A} right k h (x ∷ l) later = by (right x) (one_number right k h l later)
  where
    rest : List ℕ
    rest = map (λ (y : A). if right y then 0 else k) l ++ later

    by : (b : Bool) → first_fault rest ≡ (if all? right l then first_fault later else k)
        → first_fault ((if b then 0 else k) ∷ rest) ≡ (if b && all? right l then first_fault later else k)
    by true e = e
    by false e = first_given k rest h

-- a pass over all lines: the E lines decide, unless they have no fault
pub over_both : (f : Indexed → ℕ) (sh : Sheet)
    → let exprs = first_fault (map (λ x. f (Indexed.expr x)) (numbered 0 sh.exprs)) in
    first_fault (map f (lines sh)) ≡ (if eqb exprs 0 then first_fault (map (λ x. f (Indexed.step x)) (numbered 0 sh.steps)) else exprs)
unfolding lines
over_both f sh =
    ap first_fault
    (map-append f (map Indexed.expr (numbered 0 sh.exprs)) (map Indexed.step (numbered 0 sh.steps))
    ∙ ap₂ (λ a b. a ++ b) (map-map f Indexed.expr (numbered 0 sh.exprs)) (map-map f Indexed.step (numbered 0 sh.steps)))
    ∙ first_of_two (map (λ x. f (Indexed.expr x)) (numbered 0 sh.exprs)) _

-- The test of one line -------------------------------------------------------------------------------------------------------

module _ {A : Type 0} (f : A → Bool) where
  pub all_both : (l m : List A) → all? f (l ++ m) ≡ (all? f l && all? f m)
  unfolding all?
  all_both [] m = refl
  all_both (x ∷ l) m = ap (λ b. f x && b) (all_both l m) ∙ sym (and_assoc (f x) (all? f l) (all? f m))

  pub all_map : {B : Type 0} (g : B → A) (l : List B) → all? f (map g l) ≡ all? (λ x. f (g x)) l
  unfolding all?
  all_map g [] = refl
  all_map g (x ∷ l) = ap (λ b. f (g x) && b) (all_map g l)

  pub all_and : (g : A → Bool) (l : List A) → all? (λ x. f x && g x) l ≡ (all? f l && all? g l)
  unfolding all?
  all_and g [] = refl
  all_and g (x ∷ l) = ap (λ b. f x && g x && b) (all_and g l) ∙ by (f x) (g x) (all? f l) (all? g l)
    where
      by : (a b c d : Bool) → (a && b && (c && d)) ≡ (a && c && (b && d))
      by true true c d = refl
      by true false true d = refl
      by true false false d = refl
      by false b c d = refl

module _ (f : Indexed → Bool) (sh : Sheet) where
  abbrev pub exprs_pass : Bool
  exprs_pass = all? (λ x. f (Indexed.expr x)) (numbered 0 sh.exprs)

  abbrev pub steps_pass : Bool
  steps_pass = all? (λ x. f (Indexed.step x)) (numbered 0 sh.steps)

  pub over_lines : all? f (lines sh) ≡ (exprs_pass && steps_pass)
  unfolding lines
  over_lines =
      all_both f (map Indexed.expr (numbered 0 sh.exprs)) (map Indexed.step (numbered 0 sh.steps))
      ∙ ap₂ (λ a b. a && b) (all_map f Indexed.expr (numbered 0 sh.exprs)) (all_map f Indexed.step (numbered 0 sh.steps))

  module _ (t : T (all? f (lines sh))) where
    pub expr_passes : (i : ℕ) → i < length sh.exprs → T (f (Indexed.expr (i, expr_at sh.exprs i)))
    expr_passes i h = entry_at (λ x. f (Indexed.expr x)) sh.exprs no_expr (and_left exprs_pass steps_pass (subst T over_lines t)) i h

    pub step_passes : (n : ℕ) → n < length sh.steps → T (f (Indexed.step (n, step_at sh.steps n)))
    step_passes n h = entry_at (λ x. f (Indexed.step x)) sh.steps no_step (and_right exprs_pass steps_pass (subst T over_lines t)) n h
