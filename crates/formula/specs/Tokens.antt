-- The bytes of a formula: the signs and their levels, what else a byte may be, and the space between two tokens.
use Rattle.std.specs.Prelude.{ℕ, Bool, true, false, List, [], ◌∷◌, eqb, ltb, if◌then◌else◌}
use Rattle.formula.specs.declared.token.Class.{Class}

-- The level of a sign, from the loosest to the tightest. Any other byte has 5: it is no sign
unfoldable pub level : ℕ → ℕ
level b =
    if eqb b 124 then 0  -- |
    else if eqb b 38 then 1  -- &
    else if eqb b 60 then 2  -- <
    else if eqb b 62 then 2  -- >
    else if eqb b 61 then 2  -- =
    else if eqb b 43 then 3  -- +
    else if eqb b 45 then 3  -- -
    else if eqb b 42 then 4  -- *
    else if eqb b 47 then 4  -- /
    else 5

-- what a byte is, a sign with its level
unfoldable pub class : ℕ → Class
class b =
    if ltb (level b) 5 then Class.Sign (level b)
    else if eqb b 32 then Class.Space
    else if eqb b 40 then Class.Opens
    else if eqb b 41 then Class.Closes
    else if ltb b 48 then Class.Other
    else if ltb b 58 then Class.Digit  -- 0 to 9
    else if ltb b 97 then Class.Other
    else if ltb b 123 then Class.Letter  -- a to z
    else Class.Other

-- a single space, or none
abbrev pub gap : Bool → List ℕ
gap true = 32 ∷ []
gap false = []
