use mathlib.Core.Logic.{inl, inr}
use mathlib.Core.Path.{refl, sym}
use native.Mathlib.Omega.{arith}
use borrow.Author.Rules.{rules}
use Rattle.formula.specs.Tokens.{class, level}
use Rattle.formula.proofs.Classes.{class_letter, class_digit, class_middle, other}
use Rattle.formula.proofs.token.class_of.Goals as goal

pub returns-then-is_ascii_lowercase : goal.returns-then-is_ascii_lowercase
returns-then-is_ascii_lowercase c = let h = c.if-is_ascii_lowercase.ensures.cases in sym (class_letter _ (omega arith) (omega arith))

pub returns-then-is_ascii_digit : goal.returns-then-is_ascii_digit
returns-then-is_ascii_digit c = let h = c.if-is_ascii_digit.ensures.cases in sym (class_digit _ (omega arith) (omega arith))

pub returns-in-60 : goal.returns-in-60
returns-in-60 c = class_middle _ (search rules) (search rules)

pub returns-in-32 : goal.returns-in-32
unfolding class level
returns-in-32 c = rw c.in-32.is refl

pub returns-in-40 : goal.returns-in-40
unfolding class level
returns-in-40 c = rw c.in-40.is refl

pub returns-in-41 : goal.returns-in-41
unfolding class level
returns-in-41 c = rw c.in-41.is refl

pub returns-in-124 : goal.returns-in-124
unfolding class level
returns-in-124 c = rw c.in-124.is refl

pub returns-in-38 : goal.returns-in-38
unfolding class level
returns-in-38 c = rw c.in-38.is refl

pub returns-in-43 : goal.returns-in-43
unfolding class level
returns-in-43 c = elim c.in-43.is [ inl e ↦ rw e refl | inr e ↦ rw e refl ]

pub returns-in-42 : goal.returns-in-42
unfolding class level
returns-in-42 c = elim c.in-42.is [ inl e ↦ rw e refl | inr e ↦ rw e refl ]

pub returns-in_default : goal.returns-in_default
returns-in_default c =
    let letter = c.if-is_ascii_lowercase.ensures.cases in
    let digit = c.if-is_ascii_digit.ensures.cases in
    other _ (search rules) (search rules) (search rules) (search rules) (search rules) (search rules) (search rules) (λ h k. grind (arith, letter)) (λ h k. grind (arith, digit)) (inl (search rules))

pub returns-in_default-2 : goal.returns-in_default-2
returns-in_default-2 c =
    let letter = c.if-is_ascii_lowercase.ensures.cases in
    let digit = c.if-is_ascii_digit.ensures.cases in
    other _ (search rules) (search rules) (search rules) (search rules) (search rules) (search rules) (search rules) (λ h k. grind (arith, letter)) (λ h k. grind (arith, digit)) (inr (search rules))
