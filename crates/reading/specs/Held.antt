-- What holds of the bytes of stored lines: their numbers fit.
use Rattle.std.specs.Prelude.{ℕ, ◌+◌, ◌*◌, ◌<◌, ◌≤◌, List, ◌++◌, Bool, ◌&&◌, not, ltb, get_or}
use Rattle.plan.specs.declared.ir.IR.{IR}
use Rattle.plan.specs.Kinds.{same_ir}
use Rattle.plan.specs.Sheet.{Step, Sheet}
use Rattle.storage.specs.Stored.{stored_step, stored_exprs, stored_steps, ExprFormed, StepFormed}

-- the counts in the bytes of a P line
abbrev pub count_of : ℕ → List ℕ → ℕ → ℕ
count_of k ps i = get_or ps (i * 32 + k) 0

pub record ExprsHeld (es : List ℕ) (n : ℕ) : Type 0 where
  pub few : n ≤ 128
  pub formed : (i : ℕ) → i < n → ExprFormed es i

pub record StepHeld (ps : List ℕ) (i : ℕ) : Type 0 where
  pub few : i < 32
  pub formed : StepFormed ps i

-- the lines held
abbrev pub sheet : List ℕ → ℕ → List ℕ → ℕ → Sheet
sheet es n ps m = record { exprs = stored_exprs es n; steps = stored_steps ps m }

-- the expressions that a step names
abbrev pub both : Step → List ℕ
both s = s.exprs ++ s.aggs

-- an input that stands before line i and is no Sink
abbrev pub before_no_sink : List ℕ → ℕ → ℕ → Bool
before_no_sink ps i m = ltb m i && not (same_ir (stored_step ps m).kind IR.Sink)
