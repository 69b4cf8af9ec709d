-- Each id of a well-formed sheet has one Cache line.
use mathlib.Core.Path.{◌≡◌, ap}
use Prim.Native.Nat.{ℕ}
use native.Mathlib.Decide.{ℕ_discrete}
use mathlib.Core.List.{List, Memᴰ}
use Rattle.plan.specs.declared.ir.IR.{IR}
use Rattle.plan.specs.Kinds.{ir_number}
use Rattle.plan.specs.Lists.{numbered}
use Rattle.plan.specs.Sheet.{Step, Sheet, no_step, step_at}
use Rattle.plan.specs.Faults.{id_right}
use Rattle.plan.specs.Conditions.{SharesId}
use Rattle.plan.proofs.ListLaws.{of_all}
use Rattle.plan.proofs.Booleans.{entry_in}
use Rattle.plan.proofs.KindNumbers.{in_range}
use Rattle.plan.proofs.LineFaults.{ids_right}
use Rattle.claims.specs.WellFormed.{WellFormed}

module _ (sh : Sheet) (w : WellFormed sh) where
  abbrev ps : List Step
  ps = sh.steps

  -- Two Cache lines with one id are one line: a step's line can stand for the Rust's IRNodeKey
  pub one_line_each_id : (m n : ℕ) → (step_at ps m).kind ≡ IR.Cache → (step_at ps n).kind ≡ IR.Cache → (step_at ps m).a ≡ (step_at ps n).a → m ≡ n
  one_line_each_id m n c d e = by (ℕ_discrete m n)
    where
      there : Memᴰ (n, step_at ps n) (numbered 0 ps)
      there = entry_in ps no_step n (in_range ps n (ap ir_number d))

      by : Dec (m ≡ n) → m ≡ n
      by (yes h) = h
      by (no h) = absurd (ids_right ps (n, step_at ps n) there (of_all (id_right ps) (numbered 0 ps) w.tested.ids (n, step_at ps n) there) (SharesId.cache d h c e))
