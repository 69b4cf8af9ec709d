-- The converter: the E lines of a formula, or the number that turns it back, and every byte of the output that is lent.
use Rattle.std.specs.Prelude.{ℕ, Option, None, Some, Result, Ok, Err, List, ◌++◌, ltb, length, drop}
use Rattle.plan.specs.Lists.{concat_map}
use Rattle.plan.specs.Sheet.{Expr, Outcome, refused, done, ◌then◌, refuse◌when◌else◌, too_long}
use Rattle.plan.specs.Finished.{too_short}
use Rattle.plan.specs.Text.{expr_line}
use Rattle.formula.specs.declared.refusal.Refusal.{Refusal}
use Rattle.formula.specs.Formula.{Tree, lines}
use Rattle.formula.specs.Parse.{parse}

-- 14 --
abbrev pub a_formula : Option Tree → Outcome Tree
a_formula None = refused 14
a_formula (Some t) = done t

-- 15 --
abbrev pub within_limit : List Expr → Outcome (List Expr)
within_limit es = refuse 15 when ltb 128 (length es) else done es

-- whatever the length of w
unfoldable pub judged : List ℕ → Outcome (List Expr)
judged w = a_formula (parse w) then λ t. within_limit (lines 0 t)

-- the E lines of a formula w, from index 0, or the number that turns it back: 2, 14 or 15
unfoldable pub converted : List ℕ → Outcome (List Expr)
converted w = refuse 2 when too_long w else judged w

-- The call ---------------------------------------------------------------------------------------------------------------

-- what a call answers, the length of the lines, and the bytes of the output at its exit
pub record Called : Type 0 where
  pub answer : Outcome ℕ
  pub output : List ℕ

abbrev pub call : Outcome ℕ → List ℕ → Called
call r output = record { answer = r; output = output }

-- E lines as they stand on a sheet
unfoldable pub text : List Expr → List ℕ
text es = concat_map expr_line es

-- a refusal alters no byte; the lines stand at the front, and what stood behind them stays
unfoldable pub called : List ℕ → Outcome (List Expr) → Called
called output (refused n) = call (refused n) output
called output (done es) = call (done (length (text es))) (text es ++ drop (length (text es)) output)

-- a formula w and an output lent
unfoldable pub convert : List ℕ → List ℕ → Called
convert w output = called output (refuse 1 when too_short output else converted w)

-- The numbers ------------------------------------------------------------------------------------------------------------

abbrev pub refusal_number : Refusal → ℕ
refusal_number Refusal.ShortOutput = 1
refusal_number Refusal.LongFormula = 2
refusal_number Refusal.NoFormula = 14
refusal_number Refusal.ManyLines = 15

-- a result of the code is the definition's outcome: a refusal goes by its number
abbrev pub outcome_of : {A : Type 0} → Result A Refusal → Outcome A
outcome_of (Ok x) = done x
outcome_of (Err e) = refused (refusal_number e)

-- the number that turns back, 0 for none
abbrev pub answer_number : {A : Type 0} → Outcome A → ℕ
answer_number (done x) = 0
answer_number (refused n) = n

-- the length of the lines, 0 for a refusal
abbrev pub answer_length : Outcome ℕ → ℕ
answer_length (done n) = n
answer_length (refused n) = 0
