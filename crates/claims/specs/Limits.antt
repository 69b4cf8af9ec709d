-- What the code leans on: how large the parts of a run can get.
use Rattle.std.specs.Prelude.{◌≡◌, ℕ, ◌≤◌, ◌<◌, ◌^◌, length}
use mathlib.Core.List.{List, Memᴰ}
use Rattle.plan.specs.Sheet.{Expr, Sheet, done, expr_at}
use Rattle.plan.specs.Graph.{Edge, graph}
use Rattle.plan.specs.Visit.{Run, looked_in}
use Rattle.plan.specs.Walks.{down}
use Rattle.plan.specs.Finished.{run, finished}
use Rattle.claims.specs.WellFormed.{Accepted}
use Rattle.plan.specs.Conditions.{Down, Up}

-- every record's children are earlier, so that their trees are lower
abbrev pub ChildrenEarlier : List Expr → Type 0
ChildrenEarlier es = (p q : ℕ) → Memᴰ q (expr_at es p).children → q < p

pub record RunLimits (r : Run) : Type 0 where
  pub exprs : length r.arena ≤ 128
  pub earlier : ChildrenEarlier r.arena
  pub steps : length r.steps ≤ 32
  pub edges : length r.edges ≤ 256
  pub visits : r.tally.visits < 2 ^ 64
  pub looks : r.tally.looks < 2 ^ 64

-- in the state of any visit, and after its looks
pub record VisitLimits (n : ℕ) (r : Run) : Type 0 where
  pub before : RunLimits r
  pub exprs : length (looked_in n r).end.expr_arena ≤ 128
  pub earlier : ChildrenEarlier (looked_in n r).end.expr_arena
  pub looks : (looked_in n r).end.tally.looks < 2 ^ 58

-- an edge into one of 32 steps, by one of its eight slots: on its G line the consumer has one digit or two, and the slot one
pub record ShortEdge (d : Edge) : Type 0 where
  pub consumer : d.consumer < 32
  pub slot : d.slot < 8

pub record Limits (s : List ℕ) (sh : Sheet) : Type 0 where
  pub places : length (graph sh.steps).0 ≤ 288
  pub visited_down : (n : ℕ) (r : Run) → Down sh n r → VisitLimits n r
  pub visited_up : (half : Run) → down sh ≡ done half → (n : ℕ) (r : Run) → Up half n r → VisitLimits n r
  pub text : (out : List ℕ) → finished s ≡ done out → length out ≤ 14080
  pub edges : (whole : Run) → run s ≡ done whole → (d : Edge) → Memᴰ d whole.edges → ShortEdge d

abbrev pub WithinLimits : Type 0
WithinLimits = (s : List ℕ) (sh : Sheet) → Accepted s sh → Limits s sh
