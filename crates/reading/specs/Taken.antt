-- A line that is read on top of those taken.
use Rattle.std.specs.Prelude.{◌≡◌, ℕ, suc, true, List, length, Result, Ok, Err}
use Rattle.std.proofs.Math.Option.{Option}
use Rattle.plan.specs.declared.refusal.Refusal.{Refusal}
use Rattle.plan.specs.Refusals.{refusal_number}
use Rattle.plan.specs.Sheet.{Line, refused, done, parts, read_line, read_lines}
use Rattle.reading.specs.Line.{line, ended}
use Rattle.reading.specs.Lines.{sheet_of}
use Rattle.reading.specs.declared.lines.LineCounts.{LineCounts}
use Rattle.reading.specs.declared.lines.Taken.{Taken}

-- the buffers are those that were lent
abbrev pub SameBuffers : Taken → Taken → Type 0
SameBuffers a b = (b.exprs.ghost_name ≡ a.exprs.ghost_name) × (b.steps.ghost_name ≡ a.steps.ghost_name)

-- a line of n bytes was taken: es, ps before, es', ps' after it; s are the bytes at whose front the line o stands
pub record LineTaken (o : Option Line) (s es ps es' ps' : List ℕ) (t t' : LineCounts) (n : ℕ) : Type 0 where
  pub taken : read_line o (sheet_of es ps t) ≡ done (sheet_of es' ps' t')
  pub whole : ended s ≡ true
  pub long : n ≡ suc (length (line s))

abbrev pub LineRead : Option Line → List ℕ → Taken → Taken → Result ℕ Refusal → Type 0
LineRead o s a b (Err e) = read_line o (sheet_of a.exprs.now a.steps.now a.counts) ≡ refused (refusal_number e)
LineRead o s a b (Ok n) = LineTaken o s a.exprs.now a.steps.now b.exprs.now b.steps.now a.counts b.counts n

-- the same of all lines of s
abbrev pub AllRead : List ℕ → Taken → Taken → Result Unit Refusal → Type 0
AllRead s a b (Err e) = read_lines (parts 10 s) (sheet_of a.exprs.now a.steps.now a.counts) ≡ refused (refusal_number e)
AllRead s a b (Ok _) = read_lines (parts 10 s) (sheet_of a.exprs.now a.steps.now a.counts) ≡ done (sheet_of b.exprs.now b.steps.now b.counts)
