-- Demand 3, of a sheet of bytes and of what is printed for it.
use Rattle.std.specs.Prelude.{◌≡◌, ◌↔◌, ◌⊎◌, ℕ, suc, ◌+◌, ◌*◌, ◌≤◌, ◌<◌, Bool, true, false, not, T, length, get_or}
use mathlib.Core.List.{List, [], ◌∷◌, ◌++◌, Memᴰ}
use Rattle.plan.specs.declared.ir.IR.{IR}
use Rattle.plan.specs.Lists.{yes?, concat_map, times}
use Rattle.plan.specs.Sheet.{Expr, Sheet, done, step_at}
use Rattle.plan.specs.Faults.{tree}
use Rattle.plan.specs.Look.{Eos}
use Rattle.plan.specs.Graph.{Edge, build_ir_traversal_graph, graph, sinks}
use Rattle.plan.specs.Visit.{Run, simplify_ir_node_orders, looked_in, around, options_of, allow_deordering_top, is_out_of, no_edge}
use Rattle.plan.specs.Walks.{begin, down, up, trace}
use Rattle.plan.specs.Text.{line, edge_line, exprs_block, steps_block}
use Rattle.plan.specs.Finished.{finished}
use Rattle.plan.specs.Conditions.{Down, Up}
use Rattle.claims.specs.WellFormed.{Accepted}
use Rattle.claims.specs.LooksMade.{made_in_list}

-- Visits: the step n is visited in the state r, on the way down or, after a downward walk that ended in the state `half`, on the way up ---

abbrev pub Visited : Sheet → Run → ℕ → Run → Type 0
Visited sh half n r = Down sh n r ⊎ Up half n r

-- Sorts ------------------------------------------------------------------------------------------------------------------------

-- the number of the edge leaving n (past the last number, if none leaves it)
unfoldable pub leaving_among : ℕ → List Edge → ℕ
leaving_among n [] = 0
leaving_among n (d ∷ ds) = elim (is_out_of n d) [ true ↦ 0 | false ↦ suc (leaving_among n ds) ]

abbrev pub leaving : ℕ → Run → ℕ
leaving n r = leaving_among n r.edges

abbrev pub UnorderedAt : ℕ → Run → Type 0
UnorderedAt k r = T (get_or r.edges k no_edge).unordered

-- x stands after y in a list: it has a place later than y's
abbrev pub StandsAfter : ℕ → ℕ → List ℕ → Type 0
StandsAfter x y l = (i j : ℕ) × (i < j) × (j < length l) × (get_or l i 0 ≡ y) × (get_or l j 0 ≡ x)

-- the visit to n in the state r removes it
abbrev pub RemovedAt : ℕ → Run → Type 0
RemovedAt n r = (r' : Run) × (simplify_ir_node_orders n r ≡ done r') × (r'.removed ≡ n ∷ r.removed)

module _ (sh : Sheet) where
  abbrev pub IsSort : ℕ → Type 0
  IsSort n = (step_at sh.steps n).kind ≡ IR.Sort

  abbrev pub NoSlice : ℕ → Type 0
  NoSlice n = T (not (yes? (step_at sh.steps n).b))

  -- a Cache line naming n, on the sheet as sent, stands after it in the visiting list
  abbrev pub CacheAfter : ℕ → Type 0
  CacheAfter n =
      (c : ℕ) × ((step_at sh.steps c).kind ≡ IR.Cache) × ((step_at sh.steps c).inputs ≡ n ∷ [])
      × StandsAfter c n (build_ir_traversal_graph sh.steps).0

  -- a downward visit removes n
  abbrev pub RemovedDown : ℕ → Type 0
  RemovedDown n = (r : Run) × Down sh n r × RemovedAt n r

  module _ (half : Run) where
    abbrev pub Removed : ℕ → Type 0
    Removed n = (r : Run) × Visited sh half n r × RemovedAt n r

    -- k is the edge leaving n when the downward walk ends; for a removed sort, the edge that left it just before its removal
    abbrev pub EdgeOf : ℕ → ℕ → Type 0
    EdgeOf n k =
        ((r : Run) × Visited sh half n r × RemovedAt n r × (k ≡ leaving n r)) ⊎ ((¬ Removed n) × (k ≡ leaving n half))

pub record SortsRemoved (sh : Sheet) (half whole : Run) : Type 0 where
  -- every sort has such an edge
  pub has_edge : (n : ℕ) → IsSort sh n → (k : ℕ) × EdgeOf sh half n k × (k < length half.edges)
  -- a sort after which no Cache line naming it stands is removed exactly if, when the downward walk ends, its edge is unordered
  -- and it has no slice
  pub no_cache : (n : ℕ) → IsSort sh n → ¬ CacheAfter sh n → (k : ℕ) → EdgeOf sh half n k
      → Removed sh half n ↔ (UnorderedAt k half × NoSlice sh n)
  -- the upward walk removes none of these
  pub none_up : (n : ℕ) → ¬ CacheAfter sh n → (r : Run) → Up half n r → ¬ RemovedAt n r
  -- a sort after which such a Cache stands is removed exactly if, at one of its visits in either walk, the edge then leaving it is
  -- unordered and it has no slice
  pub under_cache : (n : ℕ) → IsSort sh n → CacheAfter sh n
      → Removed sh half n ↔ ((r : Run) × Visited sh half n r × UnorderedAt (leaving n r) r × NoSlice sh n)
  -- the r of the count of visits: `half.removed` are the sorts that a downward visit removes, each once
  pub removed_down : (n : ℕ) → Memᴰ n half.removed ↔ RemovedDown sh n
  pub down_once : (n : ℕ) → times n half.removed ≤ 1
  pub down_sorts : (n : ℕ) → Memᴰ n half.removed → IsSort sh n
  -- the sorts that T counts are those that a visit removed, each once
  pub counted : (n : ℕ) → Memᴰ n whole.removed ↔ Removed sh half n
  pub counted_once : (n : ℕ) → times n whole.removed ≤ 1

-- The second half has no instance: the list as built never has such a Cache
abbrev pub NoCacheAfter : Type 0
NoCacheAfter = (s : List ℕ) (sh : Sheet) → Accepted s sh → (n : ℕ) → IsSort sh n → ¬ CacheAfter sh n

-- Looks ------------------------------------------------------------------------------------------------------------------------

-- the records of a list: those reached from its entries through children
abbrev pub records : List Expr → List ℕ → List ℕ
records es qs = concat_map (tree es) qs

-- of one list qs, whose looks begin in the state s and end in the state s'
pub record ListBounded (qs : List ℕ) (allow : Bool) (s s' : Eos) : Type 0 where
  -- at most n × (n + 5) ÷ 2 looks, where n is the number of its records when they begin
  pub few :
      let n = length (records s.expr_arena qs) in
      2 * s'.tally.looks ≤ 2 * s.tally.looks + n * (n + 5)
  -- no record stands twice among them, so that n is their number
  pub apart : (p : ℕ) → times p (records s.expr_arena qs) ≤ 1
  -- each look made is at one of them
  pub counted : s'.tally.looks ≡ s.tally.looks + length (made_in_list qs allow s)
  pub own : (p : ℕ) → Memᴰ p (made_in_list qs allow s) → Memᴰ p (records s.expr_arena qs)

-- of the two lists of a visit to n in the state r; an Implode that the visit appends is there when they begin
pub record LooksBounded (n : ℕ) (r : Run) : Type 0 where
  pub exprs :
      let l = looked_in n r in
      ListBounded l.step.exprs (allow_deordering_top (options_of l.step) (around n r.edges)) l.start l.between
  pub aggs : let l = looked_in n r in ListBounded l.step.aggs false l.between l.end
  -- no record stands in the trees of both, when the looks begin nor when those of the n3 list do: a look belongs to one list only
  pub apart :
      let l = looked_in n r in
      (p : ℕ) → Memᴰ p (records l.start.expr_arena l.step.exprs) → ¬ Memᴰ p (records l.start.expr_arena l.step.aggs)
  pub apart_later :
      let l = looked_in n r in
      (p : ℕ) → Memᴰ p (records l.start.expr_arena l.step.exprs) → ¬ Memᴰ p (records l.between.expr_arena l.step.aggs)

-- Demand 3 ---------------------------------------------------------------------------------------------------------------------

-- of a finished sheet: the bytes s are sent, and out is printed
pub record FinishedRun (s out : List ℕ) : Type 0 where
  pub sheet : Sheet
  pub half : Run  -- as the downward walk leaves it
  pub whole : Run  -- as the upward walk leaves it
  pub accepted : Accepted s sheet
  pub down_ends : down sheet ≡ done half
  pub up_ends : up half ≡ done whole
  -- what is printed: E and P lines, a G line for each edge, and the T line with the figures of the run
  pub prints :
      out
      ≡ exprs_block whole ++ steps_block whole ++ concat_map edge_line whole.edges
      ++ line 84 (length whole.removed ∷ whole.tally.visits ∷ whole.tally.looks ∷ [])
  -- the visits printed are those that were made: the entries of both traces
  pub took : whole.tally.visits ≡ length (trace (graph sheet.steps).0 (begin sheet)) + length (trace half.back half)
  -- with s sinks, e edges and r sorts removed by the downward walk, 2 × (s + e) − r visits
  pub visits : whole.tally.visits + length half.removed ≡ 2 * (length (sinks sheet.steps) + length whole.edges)
  pub sorts : SortsRemoved sheet half whole

pub record Demand3 (s : List ℕ) : Type 0 where
  pub finishes : (out : List ℕ) → finished s ≡ done out → FinishedRun s out
  -- at any visit of a run, one that ends in a refusal included
  pub looks_down : (sh : Sheet) → Accepted s sh → (n : ℕ) (r : Run) → Down sh n r → LooksBounded n r
  pub looks_up : (sh : Sheet) → Accepted s sh → (half : Run) → down sh ≡ done half → (n : ℕ) (r : Run) → Up half n r
      → LooksBounded n r
