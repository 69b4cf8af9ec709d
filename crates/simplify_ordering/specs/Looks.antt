-- What the looks of a visit ask and give: the lists of a step, looked at one after the other.
use Rattle.std.specs.Prelude.{◌≡◌, ℕ, ◌≤◌, ◌<◌, ◌^◌, Bool, false, length, set}
use mathlib.Core.List.{List, Memᴰ}
use Rattle.plan.specs.declared.orders.ObservableOrders.{ObservableOrders}
use Rattle.plan.specs.Sheet.{Expr, Step}
use Rattle.plan.specs.Look.{Eos, simplify_projected_exprs}
use Rattle.plan.specs.Visit.{expr_order_simplifier}
use Rattle.plan.specs.Visit as Visit
use Rattle.plan.specs.declared.tally.Tally.{Tally}
use Rattle.plan.specs.declared.rules.Observable.{Observable}
use Rattle.storage.specs.declared.entries.Entries.{Entries}
use Rattle.storage.specs.declared.stored.Arena.{Arena}
use Rattle.storage.specs.Held.{arena_in}
use Rattle.storage.specs.Steps.{IsList}

-- The two lists xs and ys, from an arena and a tally -----------------------------------------------------------------------------------

abbrev pub first : List ℕ → Bool → List Expr → Tally → ObservableOrders × Eos
first xs allow es tally = simplify_projected_exprs xs allow (expr_order_simplifier es tally)

abbrev pub second : List ℕ → List ℕ → Bool → List Expr → Tally → ObservableOrders × Eos
second xs ys allow es tally = simplify_projected_exprs ys false (first xs allow es tally).1

pub record ListsAsk (a : Arena) (tally : Tally) (xs ys : List ℕ) (exprs aggs : Entries) (allow : Bool) : Type 0 where
  pub exprs_are : IsList xs exprs
  pub aggs_are : IsList ys aggs
  pub exprs_there : (q : ℕ) → Memᴰ q xs → q < a.records.count
  pub aggs_there : (q : ℕ) → Memᴰ q ys → q < a.records.count
  pub between : (first xs allow (arena_in a) tally).1.tally.looks < 2 ^ 58
  pub end : (second xs ys allow (arena_in a) tally).1.tally.looks < 2 ^ 58

-- es and tally are as before the looks, and the rest as after them
pub record ListsGive (es : List Expr) (tally : Tally) (xs ys : List ℕ) (allow : Bool) (es' : List Expr) (tally' : Tally) (o : Observable) : Type 0 where
  pub arena : es' ≡ (second xs ys allow es tally).1.expr_arena
  pub exprs : o.exprs ≡ (first xs allow es tally).0
  pub aggs : o.aggs ≡ (second xs ys allow es tally).0
  pub internal : o.internal ≡ (second xs ys allow es tally).1.internally_observed
  pub tally_is : tally' ≡ (second xs ys allow es tally).1.tally

-- The lists of step i, the Implodes appended -------------------------------------------------------------------------------------------

-- what the definition's looks lean on
pub record Listed (l : Visit.Looked) : Type 0 where
  pub exprs : (q : ℕ) → Memᴰ q l.step.exprs → q < length l.start.expr_arena
  pub aggs : (q : ℕ) → Memᴰ q l.step.aggs → q < length l.start.expr_arena
  pub room : length l.start.expr_arena ≤ 128
  pub between : l.between.tally.looks < 2 ^ 58
  pub end : l.end.tally.looks < 2 ^ 58

-- l is the definition's looks, ps are the steps before, and the rest is as they leave it
pub record LooksGive (l : Visit.Looked) (i : ℕ) (ps ps' : List Step) (es : List Expr) (tally : Tally) (o : Observable) : Type 0 where
  pub arena : es ≡ l.end.expr_arena
  pub steps_are : ps' ≡ set ps i l.step
  pub observable : o ≡ l.observable
  pub tally_is : tally ≡ l.end.tally
