-- Stored records that were read from a sheet.
use Rattle.std.specs.Prelude.{◌≡◌, ℕ, ◌≤◌, ◌<◌, List}
use Rattle.plan.specs.Sheet.{Sheet}
use Rattle.storage.specs.Stored.{stored_exprs, ExprFormed}
use Rattle.claims.specs.WellFormed.{WellFormed}

-- the n stored records are those of a well-formed sheet
pub record ReadExprs (recs : List ℕ) (n : ℕ) : Type 0 where
  pub few : n ≤ 128
  pub each : (l : ℕ) → l < n → ExprFormed recs l
  pub sheet : Sheet
  pub well_formed : WellFormed sheet
  pub same : stored_exprs recs n ≡ sheet.exprs
