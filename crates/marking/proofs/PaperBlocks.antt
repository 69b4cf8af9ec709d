-- A paper's two blocks: no P line has the letter G, and every G line begins with it.
use Rattle.std.specs.Prelude.{if◌then◌else◌}
use mathlib.Core.Path.{◌≡◌, refl, ap, sym, ◌∙◌}
use Prim.Native.Nat.{ℕ, ◌≤◌}
use native.Mathlib.Omega.{arith}
use mathlib.Core.Bool.{Bool, true, false, not}
use mathlib.Core.List.{List, [], ◌∷◌, ◌++◌, append-nil}
use lib.Dec.{T, eqb}
use lib.ListN.{length}
use Rattle.plan.specs.Lists.{all?, concat_map, select}
use Rattle.plan.specs.Text.{decimal, line, step_line, edge_line, steps_block}
use Rattle.plan.specs.Visit.{Run}
use Rattle.plan.proofs.ListLaws.{and_left, and_right}
use Rattle.plan.proofs.Without.{other, Without, without_append, without_all, without_decimal}
use Rattle.marking.specs.Marking.{examined, examined_block, right_paper, before_G, from_G}

-- Bytes without the letter G ------------------------------------------------------------------------------------------------------

abbrev free : ℕ → Bool
free = other 71

abbrev pub GFree : List ℕ → Type 0
GFree = Without 71

free_number : (n : ℕ) → GFree (44 ∷ decimal n)
unfolding all?
free_number n = without_decimal 71 (λ d h e. omega arith) n

pub free_fields : (ns : List ℕ) → GFree (concat_map (λ n. 44 ∷ decimal n) ns ++ (10 ∷ []))
unfolding all?
free_fields ns = without_append 71 (concat_map (λ n. 44 ∷ decimal n) ns) (10 ∷ []) (without_all 71 (λ n. 44 ∷ decimal n) free_number ns) tt

free_line : (ns : List ℕ) → GFree (line 80 ns)
unfolding line all?
free_line ns = free_fields ns

-- they stand before the first G
before_free : (x y : List ℕ) → GFree x → before_G (x ++ y) ≡ x ++ before_G y
unfolding all? before_G
before_free [] y p = refl
before_free (b ∷ x) y p = by (eqb b 71) (and_left (free b) (all? free x) p) (before_free x y (and_right (free b) (all? free x) p))
  where
    by : (t : Bool) → T (not t) → before_G (x ++ y) ≡ x ++ before_G y → (if t then [] else b ∷ before_G (x ++ y)) ≡ b ∷ x ++ before_G y
    by true h e = absurd h
    by false h e = ap (λ (l : List ℕ). b ∷ l) e

from_free : (x y : List ℕ) → GFree x → from_G (x ++ y) ≡ from_G y
unfolding all? from_G
from_free [] y p = refl
from_free (b ∷ x) y p = by (eqb b 71) (and_left (free b) (all? free x) p) (from_free x y (and_right (free b) (all? free x) p))
  where
    by : (t : Bool) → T (not t) → from_G (x ++ y) ≡ from_G y → (if t then b ∷ x ++ y else from_G (x ++ y)) ≡ from_G y
    by true h e = absurd h
    by false h e = e

-- the two blocks are the paper
pub both_blocks : (x : List ℕ) → before_G x ++ from_G x ≡ x
unfolding before_G from_G
both_blocks [] = refl
both_blocks (b ∷ x) = by (eqb b 71) (both_blocks x)
  where
    by : (t : Bool) → before_G x ++ from_G x ≡ x → (if t then [] else b ∷ before_G x) ++ (if t then b ∷ x else from_G x) ≡ b ∷ x
    by true e = refl
    by false e = ap (λ (l : List ℕ). b ∷ l) e

-- Blocks of lines, by the numbers that stand on them -----------------------------------------------------------------------------

module _ {A : Type 0} (row : A → List ℕ) where
  pub before_lines : (l : List A) → before_G (concat_map (λ a. line 71 (row a)) l) ≡ []
  unfolding concat_map line before_G
  before_lines [] = refl
  before_lines (a ∷ l) = refl

  from_lines : (l : List A) → from_G (concat_map (λ a. line 71 (row a)) l) ≡ concat_map (λ a. line 71 (row a)) l
  unfolding concat_map line from_G
  from_lines [] = refl
  from_lines (a ∷ l) = refl

  free_lines : (l : List A) → GFree (concat_map (λ a. line 80 (row a)) l)
  free_lines l = without_all 71 (λ a. line 80 (row a)) (λ a. free_line (row a)) l

  pub from_steps : (l : List A) → from_G (concat_map (λ a. line 80 (row a)) l) ≡ []
  unfolding from_G
  from_steps l =
      let x : List ℕ = concat_map (λ a. line 80 (row a)) l in ap from_G (sym (append-nil x)) ∙ from_free x [] (free_lines l)

  pub some_byte : (letter : ℕ) (l : List A) → 1 ≤ length l → [] ≡ concat_map (λ a. line letter (row a)) l → ⊥
  unfolding concat_map line
  some_byte letter [] h e = absurd (omega arith)
  some_byte letter (a ∷ l) h e = let z = ap length e in absurd (omega arith)

-- those of the right paper
module _ (r : Run) where
  pub free_steps : GFree (steps_block r)
  unfolding steps_block step_line
  free_steps = free_lines _ r.steps

  pub right_before : before_G (right_paper r) ≡ steps_block r
  unfolding right_paper examined_block edge_line
  right_before =
      before_free (steps_block r) (examined_block r) free_steps
      ∙ ap (λ (l : List ℕ). steps_block r ++ l) (before_lines _ (select (examined r) r.edges)) ∙ append-nil (steps_block r)

  pub right_from : from_G (right_paper r) ≡ examined_block r
  unfolding right_paper examined_block edge_line
  right_from = from_free (steps_block r) (examined_block r) free_steps ∙ from_lines _ (select (examined r) r.edges)
