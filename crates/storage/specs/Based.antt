-- What holds of the base records of an arena.
use Rattle.std.specs.Prelude.{◌≡◌, ℕ, ◌*◌, ◌≤◌, ◌<◌, Bool, true, ◌||◌, List, length, get_or}
use Rattle.plan.specs.declared.aexpr.AExpr.{AExpr}
use Rattle.plan.specs.Kinds.{same_aexpr}
use Rattle.storage.specs.Stored.{stored_expr, ExprFormed}

-- every child is below m
pub record Falls (m : ℕ) (children : List ℕ) : Type 0 where
  pub child : (k : ℕ) → k < length children → get_or children k 0 < m

abbrev pub sorts : AExpr → Bool
sorts kind = same_aexpr kind AExpr.Sort || same_aexpr kind AExpr.SortBy

-- the bytes hold n records: children are on earlier lines, and what sorts has a child
pub record Based (recs : List ℕ) (n : ℕ) : Type 0 where
  pub few : n ≤ 128
  pub room : n * 16 ≤ length recs
  pub formed : (l : ℕ) → l < n → ExprFormed recs l
  pub falls : (l : ℕ) → l < n → Falls l (stored_expr recs l).children
  pub sorted : (l : ℕ) → l < n → sorts (stored_expr recs l).kind ≡ true → 0 < length (stored_expr recs l).children
