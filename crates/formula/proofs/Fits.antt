-- Which trees a derivation has, level by level.
use Rattle.std.specs.Prelude.{ℕ, suc, ◌<◌, ◌≤◌}
use Rattle.formula.specs.Tokens.{level}
use Rattle.formula.specs.Formula.{Tree}
use Tree.{letter, number, bracket, operator}

-- t is a formula whose outermost sign, if it stands in no bracket, is of level k or tighter
unfoldable pub Fits : ℕ → Tree → Type 0
Fits k (letter b) = (97 ≤ b) × (b < 123)
Fits k (number v) = v < 256
Fits k (bracket s t s') = Fits 0 t
Fits k (operator l s b s' r) = (k ≤ level b) × (level b < 5) × Fits (level b) l × Fits (suc (level b)) r
