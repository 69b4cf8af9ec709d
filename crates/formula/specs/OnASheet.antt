-- A formula's lines on a sheet: behind them a Scan, a Select of the last of them, and a Sink.
use Rattle.std.specs.Prelude.{◌≡◌, ℕ, ◌-◌, ◌≤◌, Bool, List, [], ◌∷◌, ◌++◌, length}
use Rattle.plan.specs.declared.ir.IR.{IR}
use Rattle.plan.specs.Lists.{digit, concat_map}
use Rattle.plan.specs.Sheet.{Expr, Step, Sheet, done}
use Rattle.plan.specs.Text.{step_line}
use Rattle.plan.specs.Visit.{Run}
use Rattle.plan.specs.Finished as plan
use Rattle.claims.specs.WellFormed.{Accepted}
use Rattle.formula.specs.Formula.{Whole, e_lines}
use Rattle.formula.specs.Converted.{text}

abbrev pub scan : Step
scan = record { kind = IR.Scan; a = 0; b = 0; c = 0; inputs = []; exprs = []; aggs = [] }

-- it selects the expression q
abbrev pub select : ℕ → Step
select q = record { kind = IR.Select; a = 0; b = 0; c = 0; inputs = 0 ∷ []; exprs = q ∷ []; aggs = [] }

-- does it keep the order?
abbrev pub sink : Bool → Step
sink keeps = record { kind = IR.Sink; a = digit keeps; b = 0; c = 0; inputs = 1 ∷ []; exprs = []; aggs = [] }

-- the index of the last line
abbrev pub last : List Expr → ℕ
last es = length es - 1

-- the sheet, and its bytes
abbrev pub sheet : List Expr → Bool → Sheet
sheet es keeps = record { exprs = es; steps = scan ∷ select (last es) ∷ sink keeps ∷ [] }

abbrev pub sheet_text : List Expr → Bool → List ℕ
sheet_text es keeps = text es ++ concat_map step_line (sheet es keeps).steps

-- The lines of any formula that has few enough make an accepted sheet, and it is finished
pub record OnASheet : Type 0 where
  pub accepted : (d : Whole) → length (e_lines d) ≤ 128 → (keeps : Bool)
      → Accepted (sheet_text (e_lines d) keeps) (sheet (e_lines d) keeps)
  pub finished : (d : Whole) → length (e_lines d) ≤ 128 → (keeps : Bool)
      → (whole : Run) × (plan.run (sheet_text (e_lines d) keeps) ≡ done whole)
