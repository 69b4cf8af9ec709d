-- What the walks ask and give.
use Rattle.std.specs.Prelude.{◌≡◌, ℕ, ◌+◌, ◌≤◌, List, [], ◌∷◌, ◌++◌, length, drop, Result, Ok, Err}
use Rattle.plan.specs.declared.refusal.Refusal.{Refusal}
use Rattle.plan.specs.Refusals.{refusal_number}
use Rattle.plan.specs.Sheet.{Sheet, Outcome, refused, done}
use Rattle.plan.specs.Graph.{graph}
use Rattle.plan.specs.Visit.{Run, simplify_ir_node_orders}
use Rattle.plan.specs.Walks.{walk, begin, down, simplify_and_fetch_orderings}
use Rattle.claims.specs.WellFormed.{WellFormed}
use Rattle.claims.specs.Visitable.{AllVisitable}
use Rattle.storage.specs.Edges.{InRows}
use Rattle.simplify_ordering.specs.declared.back.Back.{Back}
use Rattle.simplify_ordering.specs.declared.run.StoredRun.{StoredRun}
use Rattle.simplify_ordering.specs.declared.visit.Visited.{Visited}
use Rattle.storage.specs.Held.{arena_in, steps_in, edges_in}
use Rattle.storage.specs.Removed.{RemovedAre, OneMore}
use Rattle.storage.specs.declared.removed.Removed.{Removed}
use Rattle.simplify_ordering.specs.Run.{stopped_at}

-- One place ----------------------------------------------------------------------------------------------------------------------------

-- the places to go back along
abbrev pub places : Back → List ℕ
places b = drop b.at b.places

-- the visit to n is noted: b before, b' after
abbrev pub Noted : ℕ → Visited → Back → Back → Type 0
Noted n Visited.Settled b b' = (places b' ≡ n ∷ places b) × (b'.at + 1 ≡ b.at) × (b'.removed ≡ b.removed)
Noted n Visited.Removed b b' = (places b' ≡ places b) × (b'.at ≡ b.at) × OneMore n b.removed b'.removed

-- A walk along the places ns ------------------------------------------------------------------------------------------------------------

-- at each of its visits what the code leans on holds. `before` gives the run from the two lists that the code does not hold
pub record WalkAsks (ns : List ℕ) (before : List ℕ → List ℕ → Run) : Type 0 where
  pub back : List ℕ
  pub removed : List ℕ
  pub visitable : AllVisitable ns (before back removed)

-- the run that a walk leaves which is refused: the visits before that one are made, and its looks
abbrev pub or_stopped : ℕ → Run → Outcome Run → (Run → Run) → Run
or_stopped n r (refused k) on = stopped_at n r
or_stopped n r (done r') on = on r'

unfoldable pub walk_stopped : List ℕ → Run → Run
walk_stopped [] r = r
walk_stopped (n ∷ ns) r = or_stopped n r (simplify_ir_node_orders n r) (λ r'. walk_stopped ns r')

-- It came to its end, and b is what it answers: `gone` are the sorts that it removed, and were `earlier` those removed before it (as m
-- says), then b has both;
pub record WalkEnds (ns : List ℕ) (m : Removed) (before after : List ℕ → List ℕ → Run) (b : Back) : Type 0 where
  pub gone : List ℕ
  pub removed : (earlier : List ℕ) → RemovedAre earlier m → RemovedAre (gone ++ earlier) b.removed
  pub few : b.removed.count ≤ m.count + length ns
  pub is : (back removed : List ℕ) → walk ns (before back removed) ≡ done (after (places b ++ back) (gone ++ removed))

-- or it was refused: `pushed` are the places that it would have gone back along
pub record WalkStops (ns : List ℕ) (before after : List ℕ → List ℕ → Run) (e : Refusal) : Type 0 where
  pub pushed : List ℕ
  pub gone : List ℕ
  pub is : (back removed : List ℕ) → walk ns (before back removed) ≡ refused (refusal_number e)
  pub stop : (back removed : List ℕ) → walk_stopped ns (before back removed) ≡ after (pushed ++ back) (gone ++ removed)

abbrev pub WalkGives : List ℕ → Removed → (before after : List ℕ → List ℕ → Run) → Result Back Refusal → Type 0
WalkGives ns m before after (Ok b) = WalkEnds ns m before after b
WalkGives ns m before after (Err e) = WalkStops ns before after e

-- Both walks ------------------------------------------------------------------------------------------------------------------------------

abbrev pub sheet_of : StoredRun → Sheet
sheet_of r = record { exprs = arena_in r.arena; steps = steps_in r.steps }

-- a well-formed sheet, its visiting list and its edges as they are made
pub record FetchAsks (r : StoredRun) (ends list : List ℕ) : Type 0 where
  pub formed : WellFormed (sheet_of r)
  pub few : length list ≤ 288
  pub places_are : list ≡ (graph (steps_in r.steps)).0
  pub edges_are : edges_in ends r.edges ≡ (graph (steps_in r.steps)).1
  pub rows : InRows ends r.edges.count r.steps.count

-- the run that both walks leave where one of them is refused: from the outcome of the downward walk
abbrev pub stopped_by : Sheet → Outcome Run → Run
stopped_by sh (refused k) = walk_stopped (graph sh.steps).0 (begin sh)
stopped_by sh (done half) = walk_stopped half.back half

unfoldable pub fetch_stopped : Sheet → Run
fetch_stopped sh = stopped_by sh (down sh)

-- The downward walk against the definition's. It came to its end: `gone` are the sorts that it removed, and b has the places to go back
-- along. `half` gives the run that it leaves from the two lists that the code does not hold;
pub record DownEnds (sh : Sheet) (half : List ℕ → List ℕ → Run) (b : Back) : Type 0 where
  pub gone : List ℕ
  pub removed : RemovedAre gone b.removed
  pub few : b.removed.count ≤ 288
  pub is : down sh ≡ done (half (places b) gone)

-- or it was refused: `pushed` are the places that would have been gone back along
pub record DownStops (sh : Sheet) (half : List ℕ → List ℕ → Run) (e : Refusal) : Type 0 where
  pub pushed : List ℕ
  pub gone : List ℕ
  pub is : down sh ≡ refused (refusal_number e)
  pub stop : walk_stopped (graph sh.steps).0 (begin sh) ≡ half pushed gone

abbrev pub DownGives : Sheet → (List ℕ → List ℕ → Run) → Result Back Refusal → Type 0
DownGives sh half (Ok b) = DownEnds sh half b
DownGives sh half (Err e) = DownStops sh half e

-- the code's answer against the definition's outcome: which sorts were removed, or a refusal, and what the walks leave then.
-- `after` gives the run that they leave from the two lists that the code does not hold
abbrev pub FetchGives : Sheet → (List ℕ → List ℕ → Run) → Result Removed Refusal → Type 0
FetchGives sh after (Ok m) = (back : List ℕ) × (gone : List ℕ) × (simplify_and_fetch_orderings sh ≡ done (after back gone)) × RemovedAre gone m
FetchGives sh after (Err e) =
    (simplify_and_fetch_orderings sh ≡ refused (refusal_number e)) × ((back : List ℕ) × (removed : List ℕ) × (after back removed ≡ fetch_stopped sh))
