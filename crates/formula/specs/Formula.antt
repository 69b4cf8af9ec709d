-- The language of formulas: what derives one, the bytes that a derivation yields, and its E lines.
use Rattle.std.specs.Prelude.{ℕ, suc, ◌+◌, ◌<◌, ◌≤◌, Bool, true, false, ◌&&◌, ◌||◌, List, [], ◌∷◌, ◌++◌}
use Rattle.plan.specs.declared.aexpr.AExpr.{AExpr}
use Rattle.plan.specs.Sheet.{Expr}
use Rattle.plan.specs.Text.{decimal}
use Rattle.formula.specs.Tokens.{level, gap}

-- A derivation, by level. `Formula k` is a formula whose outermost sign, if one stands outside of all brackets, is of level k or tighter. A
-- sign of level j has a `Formula j` on its left and a `Formula (suc j)` on its right: so tighter signs bind first, and those of one level
-- group to the left. Nothing else decides the grouping.
pub data Formula : ℕ → Type 0 where
  -- a to z: its byte
  letter : {k : ℕ} (b : ℕ) → 97 ≤ b → b < 123 → Formula k
  -- 0 to 255: its value
  number : {k : ℕ} (v : ℕ) → v < 256 → Formula k
  -- round brackets: is there a space after the first, and one before the last?
  bracket : {k : ℕ} (after : Bool) → Formula 0 → (before : Bool) → Formula k
  -- a sign, its byte; the left operand, is there a space before the sign and one after it, the right operand
  operator : {k : ℕ} (b : ℕ) → k ≤ level b → level b < 5
      → Formula (level b) → (before after : Bool) → Formula (suc (level b)) → Formula k

-- a formula, its outermost sign of any level
abbrev pub Whole : Type 0
Whole = Formula 0

-- What is written, whatever the levels: a derivation without its conditions. Bytes and lines are said of it
pub data Tree : Type 0 where
  letter : ℕ → Tree
  number : ℕ → Tree
  bracket : Bool → Tree → Bool → Tree
  operator : Tree → Bool → ℕ → Bool → Tree → Tree

unfoldable pub tree : {k : ℕ} → Formula k → Tree
tree (Formula.letter b _ _) = Tree.letter b
tree (Formula.number v _) = Tree.number v
tree (Formula.bracket after d before) = Tree.bracket after (tree d) before
tree (Formula.operator b _ _ l before after r) = Tree.operator (tree l) before b after (tree r)

-- Its bytes -----------------------------------------------------------------------------------------------------------------

unfoldable pub bytes : Tree → List ℕ
bytes (Tree.letter b) = b ∷ []
bytes (Tree.number v) = decimal v
bytes (Tree.bracket after t before) = 40 ∷ (gap after ++ (bytes t ++ (gap before ++ (41 ∷ []))))
bytes (Tree.operator l before b after r) = bytes l ++ (gap before ++ (b ∷ (gap after ++ bytes r)))

abbrev pub yield : {k : ℕ} → Formula k → List ℕ
yield d = bytes (tree d)

-- how many operands it has: letters and numbers
unfoldable pub operands : Tree → ℕ
operands (Tree.letter b) = 1
operands (Tree.number v) = 1
operands (Tree.bracket _ t _) = operands t
operands (Tree.operator l _ b _ r) = operands l + operands r

-- Its E lines ---------------------------------------------------------------------------------------------------------------

-- S: it is made of numbers alone. An operator has it if both of its operands have
unfoldable pub scalar : Tree → Bool
scalar (Tree.letter b) = false
scalar (Tree.number v) = true
scalar (Tree.bracket _ t _) = scalar t
scalar (Tree.operator l _ b _ r) = scalar l && scalar r

-- L: there is a letter in it. An operator has it if either of its operands has
unfoldable pub length_preserving : Tree → Bool
length_preserving (Tree.letter b) = true
length_preserving (Tree.number v) = false
length_preserving (Tree.bracket _ t _) = length_preserving t
length_preserving (Tree.operator l _ b _ r) = length_preserving l || length_preserving r

-- how many lines stand before its own, which is its last: all those of its operands
unfoldable pub before_own : Tree → ℕ
before_own (Tree.letter b) = 0
before_own (Tree.number v) = 0
before_own (Tree.bracket _ t _) = before_own t
before_own (Tree.operator l _ b _ r) = suc (before_own l) + suc (before_own r)

abbrev pub column : Expr
column = record { kind = AExpr.Column; scalar = false; length_preserving = true; option = 0; children = [] }

abbrev pub literal : Expr
literal = record { kind = AExpr.Literal; scalar = true; length_preserving = false; option = 0; children = [] }

-- an operator's line: its S and L, and the indices of its operands' lines
abbrev pub binary : Bool → Bool → ℕ → ℕ → Expr
binary s l left right = record { kind = AExpr.BinaryExpr; scalar = s; length_preserving = l; option = 0; children = left ∷ right ∷ [] }

-- The lines, the first of which has index n: all of the left operand's, then all of the right one's, then the operator's own. Brackets
-- have none
unfoldable pub lines : ℕ → Tree → List Expr
lines n (Tree.letter b) = column ∷ []
lines n (Tree.number v) = literal ∷ []
lines n (Tree.bracket _ t _) = lines n t
lines n (Tree.operator l before b after r) =
    let m = n + suc (before_own l) in
    let whole = Tree.operator l before b after r in
    lines n l ++ (lines m r ++ (binary (scalar whole) (length_preserving whole) (n + before_own l) (m + before_own r) ∷ []))

-- the E lines of a formula, from index 0
abbrev pub e_lines : Whole → List Expr
e_lines d = lines 0 (tree d)
