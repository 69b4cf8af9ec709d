-- The lines as the code stores them.
use Rattle.std.specs.Prelude.{◌≡◌, ℕ, ◌+◌, ◌<◌, ◌≤◌, List, length, if◌then◌else◌, Result, Ok, Err}
use Rattle.std.proofs.Math.Seq.{paste}
use Rattle.plan.specs.declared.ir.IR.{IR}
use Rattle.plan.specs.declared.refusal.Refusal.{Refusal}
use Rattle.plan.specs.Refusals.{refusal_number}
use Rattle.plan.specs.Kinds.{same_ir}
use Rattle.plan.specs.Lists.{sum}
use Rattle.plan.specs.Sheet.{Sheet, Step, refused, done, parts, read_lines, no_lines}
use Rattle.storage.specs.Stored.{stored_exprs, stored_steps, ExprFormed, StepFormed}
use Rattle.reading.specs.declared.lines.LineCounts.{LineCounts}

-- d, with the n bytes from at on replaced by the first n of v
unfoldable pub pasted : List ℕ → ℕ → List ℕ → ℕ → List ℕ
pasted d at v n = paste d at v n

-- the E lines, agg entries and P lines taken so far
abbrev pub sheet_of : List ℕ → List ℕ → LineCounts → Sheet
sheet_of es ps t = record { exprs = stored_exprs es t.exprs; steps = stored_steps ps t.steps }

-- the n3 entries of GroupBy lines
unfoldable pub agg_entries : List Step → ℕ
agg_entries ss = sum (λ (s : Step). if same_ir s.kind IR.GroupBy then length s.aggs else 0) ss

abbrev pub aggs_of : IR → ℕ → ℕ
aggs_of kind n3 = if same_ir kind IR.GroupBy then n3 else 0

-- what holds of the bytes, whatever lines they hold
pub record Sound (es ps : List ℕ) (t : LineCounts) : Type 0 where
  pub exprs : (i : ℕ) → i < t.exprs → ExprFormed es i
  pub steps : (i : ℕ) → i < t.steps → StepFormed ps i
  pub aggs : t.aggs ≡ agg_entries (stored_steps ps t.steps)
  pub few_exprs : t.exprs + t.aggs ≤ 128
  pub few_steps : t.steps ≤ 32

-- all lines of s were read
pub record AllTaken (s es ps : List ℕ) (t : LineCounts) : Type 0 where
  pub taken : read_lines (parts 10 s) no_lines ≡ done (sheet_of es ps t)
  pub sound : Sound es ps t

abbrev pub LinesRead : List ℕ → List ℕ → List ℕ → Result LineCounts Refusal → Type 0
LinesRead s es ps (Err e) = read_lines (parts 10 s) no_lines ≡ refused (refusal_number e)
LinesRead s es ps (Ok t) = AllTaken s es ps t
