-- The state of the looks as the definition has it, and what a look asks of it.
use Rattle.plan.specs.declared.orders.ObservableOrders.{ObservableOrders}
use Rattle.std.specs.Prelude.{Option, ◌≡◌, ℕ, suc, ◌+◌, ◌-◌, ◌≤◌, ◌<◌, Bool, ◌&&◌, ◌||◌, List, [], ◌∷◌, length, get_or}
use Rattle.plan.specs.declared.aexpr.AExpr.{AExpr}
use Rattle.plan.specs.Kinds.{same_aexpr}
use Rattle.plan.specs.Lists.{all?}
use Rattle.plan.specs.Sheet.{Expr}
use Rattle.plan.specs.Look as look
use Rattle.storage.specs.Stored.{stored_expr, arena_of}
use Rattle.storage.specs.declared.stored.Arena.{Arena}
use Rattle.plan.specs.declared.tally.Tally.{Tally}
use Rattle.plan.specs.Tally.{looks_more}
use Rattle.expr.specs.declared.eos.Eos.{Eos}
use Rattle.expr.specs.Cache.{cache_of}
use Rattle.expr.specs.Eos.{Own, own_of}

-- the lines and the cache that are lent, and what the looks own beside them
pub record State : Type 0 where
  pub line : List ℕ
  pub off : List Bool
  pub cache : List (Option ObservableOrders)
  pub own : Own

abbrev pub state : List ℕ → List Bool → List (Option ObservableOrders) → Eos → State
state line off cache s = record { line = line; off = off; cache = cache; own = own_of s }

abbrev pub state_in : Arena → List (Option ObservableOrders) → Eos → State
state_in a cache s = state a.lines.holds a.lines.off cache s

-- as the definition has it; the run's tally before the visit goes on by the looks of the visit
unfoldable pub eos_of : Tally → List ℕ → ℕ → State → look.Eos
eos_of tally recs n s =
    record {
      expr_arena = arena_of recs s.line s.off n;
      revisit_cache = cache_of s.cache;
      struct_field_ordering = s.own.field;
      internally_observed = s.own.observed;
      tally = looks_more s.own.looks tally;
    }

-- Children ------------------------------------------------------------------------------------------------------------------------

-- the least number that every child is below
unfoldable pub above : List ℕ → ℕ
above [] = 0
above (c ∷ cs) = suc c + (above cs - suc c)

-- The lines ----------------------------------------------------------------------------------------------------------------------

pub record Sized (s : State) : Type 0 where
  pub line : length s.line ≡ 128
  pub off : length s.off ≡ 128
  pub cache : length s.cache ≡ 128

-- no line holds a base record above the one that it held before
pub record Kept (s r : State) : Type 0 where
  pub sized : Sized s → Sized r
  pub lower : (q : ℕ) → get_or r.line q 0 ≤ get_or s.line q 0

-- The test for a replacement, over the lines -------------------------------------------------------------------------------------

abbrev pub preserves : List ℕ → List ℕ → ℕ → Bool
preserves recs line q = (stored_expr recs (get_or line q 0)).length_preserving

abbrev pub is_replaced_line : List ℕ → List ℕ → Expr → Bool → Bool
is_replaced_line recs line e allow =
    allow
    && (same_aexpr e.kind AExpr.Sort
    || (same_aexpr e.kind AExpr.SortBy && all? (preserves recs line) e.children))

-- each line that is read holds one of 128 records
pub record Readable (line children : List ℕ) : Type 0 where
  pub child : (k : ℕ) → k < length children → get_or children k 0 < 128
  pub held : (k : ℕ) → k < length children → get_or line (get_or children k 0) 0 < 128
