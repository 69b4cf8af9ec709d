-- The texts of a formula's lines.
use mathlib.Core.Path.{◌≡◌, refl, ◌∙◌}
use mathlib.Core.Bool.{Bool, true, false}
use mathlib.Core.List.{List, [], ◌∷◌, ◌++◌, append_assoc, append-nil}
use Prim.Native.Nat.{ℕ}
use Rattle.plan.specs.Lists.{concat_map}
use Rattle.plan.specs.Text.{digits, line, expr_line}
use Rattle.writing.specs.Wrote.{field, Wrote}
use Rattle.formula.specs.LineFront.{front}
use Rattle.formula.specs.Formula.{column, literal, binary}

pub column_text : expr_line column ≡ 69 ∷ 44 ∷ 48 ∷ 44 ∷ 48 ∷ 44 ∷ 49 ∷ 44 ∷ 48 ∷ 10 ∷ []
unfolding expr_line line concat_map digits
column_text = refl

pub literal_text : expr_line literal ≡ 69 ∷ 44 ∷ 49 ∷ 44 ∷ 49 ∷ 44 ∷ 48 ∷ 44 ∷ 48 ∷ 10 ∷ []
unfolding expr_line line concat_map digits
literal_text = refl

front_text : (s l : Bool) (a b : ℕ) → front s l ++ ((field a ++ (field b ++ [])) ++ (10 ∷ [])) ≡ expr_line (binary s l a b)
unfolding expr_line line concat_map digits
front_text true true a b = refl
front_text true false a b = refl
front_text false true a b = refl
front_text false false a b = refl

regroup : (f p q e : List ℕ) → ((f ++ p) ++ q) ++ e ≡ f ++ ((p ++ (q ++ [])) ++ e)
regroup f p q e = simp (append_assoc, append-nil)

operator_text : (s l : Bool) (a b : ℕ) → ((front s l ++ field a) ++ field b) ++ (10 ∷ []) ≡ expr_line (binary s l a b)
operator_text s l a b = regroup (front s l) (field a) (field b) (10 ∷ []) ∙ front_text s l a b

-- part by part
pub operator_wrote : (s l : Bool) (a b : ℕ) (o x : List ℕ) (r : ℕ) → Wrote (((front s l ++ field a) ++ field b) ++ (10 ∷ [])) o x r
    → Wrote (expr_line (binary s l a b)) o x r
operator_wrote s l a b o x r w = rw (operator_text s l a b) at w
