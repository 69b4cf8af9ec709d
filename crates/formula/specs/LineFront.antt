-- How an operator's line begins: all before its two children.
use Rattle.std.specs.Prelude.{ℕ, ◌+◌, Bool, List, [], ◌∷◌}
use Rattle.plan.specs.Lists.{digit}

-- the kind, S, L and the option
abbrev pub front : Bool → Bool → List ℕ
front s l = 69 ∷ 44 ∷ 53 ∷ 44 ∷ (48 + digit s) ∷ 44 ∷ (48 + digit l) ∷ 44 ∷ 48 ∷ []
