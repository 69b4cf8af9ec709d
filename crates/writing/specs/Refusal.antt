-- The line that tells a refusal.
use Rattle.std.specs.Prelude.{ℕ, List, [], ◌∷◌}
use Rattle.plan.specs.Text.{line}

-- `R,`, the number and byte 10
unfoldable pub refusal_line : ℕ → List ℕ
refusal_line n = line 82 (n ∷ [])
