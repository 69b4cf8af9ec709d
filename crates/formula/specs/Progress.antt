-- The second pass: how operands and operators, one by one, come to lines.
use Rattle.std.specs.Prelude.{ℕ, ◌+◌, ◌*◌, Bool, true, false, not, ◌&&◌, ◌||◌, List, [], ◌∷◌, ◌++◌, leb, length, if◌then◌else◌}
use Rattle.plan.specs.Sheet.{Expr}
use Rattle.formula.specs.declared.items.Kind.{Kind}
use Rattle.formula.specs.declared.items.Item.{Item}
use Rattle.formula.specs.declared.writer.Operand.{Operand}
use Rattle.formula.specs.declared.writer.Waiting.{Waiting}
use Rattle.formula.specs.Formula.{column, literal, binary}

-- the operand that came last, the operators that wait for their right operands, the last one first, and the lines that are complete
pub record Progress : Type 0 where
  pub last : Operand
  pub waiting : List Waiting
  pub lines : List Expr

abbrev pub progress : Operand → List Waiting → List Expr → Progress
progress v ps es = record { last = v; waiting = ps; lines = es }

abbrev pub no_operand : Operand
no_operand = record { index = 0; scalar = false; length_preserving = false }

abbrev pub start : Progress
start = progress no_operand [] []

-- An operand ------------------------------------------------------------------------------------------------------------------

-- a letter or a number, its line of index n
abbrev pub operand_of : ℕ → Bool → Operand
operand_of n number = record { index = n; scalar = number; length_preserving = not number }

abbrev pub with_operand : Bool → Progress → Progress
with_operand number p =
    progress (operand_of (length p.lines) number) p.waiting (p.lines ++ ((if number then literal else column) ∷ []))

-- An operator -----------------------------------------------------------------------------------------------------------------

-- the operand that an operator and its two operands are, its line of index n
abbrev pub joined : ℕ → Operand → Operand → Operand
joined n l r =
    record { index = n; scalar = l.scalar && r.scalar; length_preserving = l.length_preserving || r.length_preserving }

abbrev pub joined_line : Operand → Operand → Expr
joined_line l r = binary (l.scalar && r.scalar) (l.length_preserving || r.length_preserving) l.index r.index

-- those that wait with weight w or more get their right operands, the last one first
unfoldable pub settle : ℕ → Operand → List Waiting → List Expr → Progress
settle w v [] es = progress v [] es
settle w v (p ∷ ps) es =
    elim (leb w p.weight) [
      | true ↦ settle w (joined (length es) p.left v) ps (es ++ (joined_line p.left v ∷ []))
      | false ↦ progress v (p ∷ ps) es
    ]

abbrev pub settled : ℕ → Progress → Progress
settled w p = settle w p.last p.waiting p.lines

-- it waits, what stands before it being its left operand
abbrev pub waits : ℕ → Progress → Progress
waits w p = progress p.last (record { weight = w; left = p.last } ∷ p.waiting) p.lines

-- by its weight it binds before what stands looser behind it, and before what stands in fewer brackets
abbrev pub weight : ℕ → ℕ → ℕ
weight d level = 5 * d + level

-- All of them -----------------------------------------------------------------------------------------------------------------

unfoldable pub taken_by : Kind → ℕ → Progress → Progress
taken_by Kind.Letter d p = with_operand false p
taken_by Kind.Number d p = with_operand true p
taken_by (Kind.Operator level) d p = waits (weight d level) (settled (weight d level) p)

abbrev pub taken : Item → Progress → Progress
taken x p = taken_by x.kind x.depth p

unfoldable pub all_taken : List Item → Progress → Progress
all_taken [] p = p
all_taken (x ∷ xs) p = all_taken xs (taken x p)

-- at the end no operator waits any more
abbrev pub lines_of : List Item → List Expr
lines_of xs = (settled 0 (all_taken xs start)).lines
