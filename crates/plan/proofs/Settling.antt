-- The parts of a visit that removes nothing, by step and run: `settle` binds its looks once, and proofs speak of these.
use Prim.Native.Nat.{ℕ}
use Rattle.plan.specs.declared.rules.Ruled.{Ruled}
use Rattle.plan.specs.Sheet.{Step}
use Rattle.plan.specs.Visit.{Run, options_of, with_options, refusal_number, looked_in, ruling_of, settled_by}

abbrev pub ruling : ℕ → Run → Ruled
ruling n r = ruling_of (looked_in n r)

abbrev pub ruled_step : ℕ → Run → Step
ruled_step n r = with_options (ruling n r).options (looked_in n r).step

abbrev pub settled : ℕ → Run → Run
settled n r = settled_by (looked_in n r) n r

-- 10, 11, or 0 for neither
abbrev pub refusal_in : ℕ → Run → ℕ
refusal_in n r = refusal_number (options_of (looked_in n r).step) (looked_in n r).observable
