-- What the second pass stores, and what it has written.
use Rattle.std.specs.Prelude.{◌≡◌, ℕ, zero, suc, ◌+◌, ◌-◌, ◌≤◌, List, [], ◌∷◌, ◌++◌, length, get_or}
use Rattle.plan.specs.Sheet.{Expr}
use Rattle.writing.specs.Wrote.{Wrote}
use Rattle.formula.specs.declared.items.Item.{Item}
use Rattle.formula.specs.declared.writer.Operand.{Operand}
use Rattle.formula.specs.declared.writer.Waiting.{Waiting}
use Rattle.formula.specs.declared.writer.Writer.{Writer}
use Rattle.formula.specs.Converted.{text}
use Rattle.formula.specs.Items.{as_operator}
use Rattle.formula.specs.Progress.{Progress, progress, no_operand, joined, joined_line, settled, waits, taken}

abbrev pub no_waiting : Waiting
no_waiting = record { weight = 0; left = no_operand }

-- the first n of the operators that wait, the last one first
unfoldable pub stack : List Waiting → ℕ → List Waiting
stack ws zero = []
stack ws (suc n) = get_or ws n no_waiting ∷ stack ws n

abbrev pub last_waiting : List Waiting → Writer → Operand
last_waiting ws k = (get_or ws (k.count - 1) no_waiting).left

-- the lines es were written over the front of a buffer that was `entry`
pub record Stand (entry : List ℕ) (es : List Expr) (k : Writer) (now : List ℕ) : Type 0 where
  pub wrote : Wrote (text es) entry now k.written
  pub lines : k.lines ≡ length es

-- how far k is with the operators ws, if the lines es are complete
abbrev pub progress_of : Writer → List Waiting → List Expr → Progress
progress_of k ws es = progress k.last (stack ws k.count) es

-- it is as far as p, and the buffer has the lines
pub record Holds (entry : List ℕ) (p : Progress) (k : Writer) (ws : List Waiting) (now : List ℕ) : Type 0 where
  pub is : progress_of k ws p.lines ≡ p
  pub stand : Stand entry p.lines k now

-- A line e more, that of the operand v
pub record LineMore (e : Expr) (v : Operand) (k k' : Writer) (before now : List ℕ) : Type 0 where
  pub last : k'.last ≡ v
  pub lines : k'.lines ≡ k.lines + 1
  pub size : length now ≡ length before
  pub stand : (entry : List ℕ) (es : List Expr) → Stand entry es k before → Stand entry (es ++ (e ∷ [])) k' now

-- that of the operator that waits last, which has got its right operand
abbrev pub Joins : List Waiting → Writer → Writer → List ℕ → List ℕ → Type 0
Joins ws k = LineMore (joined_line (last_waiting ws k) k.last) (joined k.lines (last_waiting ws k) k.last) k

-- The operators that wait with weight w or more have got their right operands
pub record Settles (w : ℕ) (ws : List Waiting) (k k' : Writer) (before now : List ℕ) : Type 0 where
  pub fewer : k'.count ≤ k.count
  pub load : k'.lines + k'.count ≡ k.lines + k.count
  pub size : length now ≡ length before
  pub holds : (entry : List ℕ) (p : Progress) → Holds entry p k ws before → Holds entry (settled w p) k' ws now

-- One item more was taken, by which p comes to f p; n operators more may wait
pub record Moves (n : ℕ) (f : Progress → Progress) (k : Writer) (ws : List Waiting) (k' : Writer) (ws' : List Waiting) (before now : List ℕ) : Type 0 where
  pub more : k'.count ≤ k.count + n
  pub load : k'.lines + k'.count ≡ k.lines + k.count + 1
  pub places : length ws' ≡ length ws
  pub size : length now ≡ length before
  pub holds : (entry : List ℕ) (p : Progress) → Holds entry p k ws before → Holds entry (f p) k' ws' now

-- those that wait with weight w or more have got their right operands, and an operator of that weight waits
abbrev pub Waits : ℕ → Writer → List Waiting → Writer → List Waiting → List ℕ → List ℕ → Type 0
Waits w = Moves 1 (λ p. waits w (settled w p))

-- an operand or an operator x
abbrev pub Takes : Item → Writer → List Waiting → Writer → List Waiting → List ℕ → List ℕ → Type 0
Takes x = Moves (as_operator x.kind) (taken x)
