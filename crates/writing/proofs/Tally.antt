-- The T line, number by number.
use mathlib.Core.Path.{◌≡◌, sym, ap, ◌∙◌}
use mathlib.Core.List.{List, [], ◌∷◌, ◌++◌, append_assoc, append-nil}
use Prim.Native.Nat.{ℕ}
use Rattle.plan.specs.Lists.{concat_map}
use Rattle.plan.specs.Text.{line}
use Rattle.writing.specs.Wrote.{Wrote, field}

regrouped : (l : ℕ) (x y z e : List ℕ) → ((((l ∷ []) ++ x) ++ y) ++ z) ++ e ≡ l ∷ ((x ++ (y ++ (z ++ []))) ++ e)
regrouped l x y z e =
    ap (λ (t : List ℕ). l ∷ (t ++ e)) (append_assoc x y z ∙ ap (λ (t : List ℕ). x ++ (y ++ t)) (sym (append-nil z)))

three_fields : (l a b c : ℕ) → ((((l ∷ []) ++ field a) ++ field b) ++ field c) ++ (10 ∷ []) ≡ line l (a ∷ b ∷ c ∷ [])
unfolding line concat_map
three_fields l a b c = regrouped l (field a) (field b) (field c) (10 ∷ [])

pub tally_line : (a b c : ℕ) (o x : List ℕ) (r : ℕ) → Wrote (((((84 ∷ []) ++ field a) ++ field b) ++ field c) ++ (10 ∷ [])) o x r
    → Wrote (line 84 (a ∷ b ∷ c ∷ [])) o x r
tally_line a b c o x r w = rw (three_fields 84 a b c) at w
