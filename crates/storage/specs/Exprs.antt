-- What is read of a stored expression, the record of the definition that an ExprRecord is, and what is changed.
use Rattle.std.specs.Prelude.{◌≡◌, ◌≢◌, ℕ, ◌+◌, ◌*◌, ◌≤◌, ◌<◌, Bool, List, length, get_or, if◌then◌else◌}
use Rattle.plan.specs.Sheet.{Expr}
use Rattle.plan.specs.Look.{switched_off}
use Rattle.storage.specs.Stored.{stored_expr, ExprFormed}
use Rattle.storage.specs.Entries.{list_of, Shaped}
use Rattle.storage.specs.declared.exprs.ExprRecord.{ExprRecord}

abbrev pub record_of : ExprRecord → Expr
record_of e =
    record {
      kind = e.kind;
      scalar = e.scalar;
      length_preserving = e.length_preserving;
      option = e.option;
      children = list_of e.children;
    }

-- what was stored as line l, switched off where off says so
unfoldable pub held : List ℕ → ℕ → Bool → Expr
held bytes l off = if off then switched_off (stored_expr bytes l) else stored_expr bytes l

pub record IsHeld (bytes : List ℕ) (l : ℕ) (off : Bool) (e : ExprRecord) : Type 0 where
  pub is : record_of e ≡ held bytes l off
  pub shaped : Shaped e.children

-- record l can be read
pub record RecordHeld (bytes : List ℕ) (l : ℕ) : Type 0 where
  pub few : l < 128
  pub room : l * 16 + 16 ≤ length bytes
  pub formed : ExprFormed bytes l

-- record l can be copied over record p, which is behind it
pub record Copyable (recs : List ℕ) (l p : ℕ) : Type 0 where
  pub lower : l < p
  pub few : p < 128
  pub records : length recs ≡ 2048
  pub formed : ExprFormed recs l

-- line p holds its own record or a lower one
pub record LineHeld (recs line : List ℕ) (p : ℕ) : Type 0 where
  pub few : p < 128
  pub records : length recs ≡ 2048
  pub below : get_or line p 0 ≤ p
  pub formed : ExprFormed recs (get_or line p 0)

-- record i is e now, and of the others each that was formed is as it was
pub record ExprStored (entry : List ℕ) (i : ℕ) (e : Expr) (exit : List ℕ) : Type 0 where
  pub size : length exit ≡ length entry
  pub is : stored_expr exit i ≡ e
  pub formed : ExprFormed exit i
  pub others : (j : ℕ) → j ≢ i → ExprFormed entry j → (stored_expr exit j ≡ stored_expr entry j) × ExprFormed exit j
