-- What it is to write a text over the front of a buffer.
use Rattle.std.specs.Prelude.{◌≡◌, ℕ, List, ◌∷◌, ◌++◌, length, drop}
use Rattle.plan.specs.Text.{decimal}

-- a number behind its comma
abbrev pub field : ℕ → List ℕ
field n = 44 ∷ decimal n

-- the buffer was `entry` and is `exit`: the text stands at its front, what stood behind is untouched, and r is the text's length
pub record Wrote (text entry exit : List ℕ) (r : ℕ) : Type 0 where
  pub len : r ≡ length text
  pub bytes : exit ≡ text ++ drop (length text) entry
