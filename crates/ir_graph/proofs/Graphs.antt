-- The second pass over the arrays: its loop begins, goes on and ends.
use mathlib.Core.Path.{◌≡◌, sym, ap, ap₂, ◌∙◌}
use Prim.Native.Nat.{ℕ, ◌+◌, ◌-◌, ◌≤◌, ◌<◌}
use native.Mathlib.Omega.{arith}
use mathlib.Core.List.{List, ◌++◌}
use lib.ListN.{length, get_or, set, drop, length-drop}
use lib.Seq.{get_or-drop}
use Rattle.plan.specs.Sheet.{Step}
use Rattle.plan.specs.Faults.{named}
use Rattle.plan.specs.Graph.{Edge, sinks}
use Rattle.storage.specs.Edges.{stored_edges}
use Rattle.storage.specs.Stored.{table}
use Rattle.storage.specs.Held.{steps_in}
use Rattle.storage.specs.declared.stored.Steps.{Steps}
use Rattle.claims.specs.Plan.{Plan}
use Rattle.storage.proofs.Laws.{length_steps}
use Rattle.plan.proofs.Counts.{mem_at}
use Rattle.claims.proofs.ByLine.{edges_into}
use Rattle.ir_graph.specs.Turns.{followed_by, used}
use Rattle.ir_graph.specs.Hits.{HitsCounted}
use Rattle.ir_graph.specs.Edges.{Linked}
use Rattle.ir_graph.specs.Built.{Built}
use Rattle.ir_graph.proofs.Bounds.{namings}
use Rattle.ir_graph.proofs.Linking.{length_edges, same_into}
use Rattle.ir_graph.proofs.There.{place_there, consumer_there, slot_there, producer_there}
use Rattle.ir_graph.proofs.SecondPass.{Growing, Turn, past_of, begins, turn, turns_left, gone, just_pushed, growing_next, grown}
use Rattle.ir_graph.proofs.Rows.{Rows, no_rows, rows_next, all_rows, in_a_row}

-- what the loop keeps, of the list, the arrays and the counters
pub record Placing (ps : List Step) (places counts ends edges : List ℕ) (made i : ℕ) : Type 0 where
  pub growing : Growing ps places counts (stored_edges ends edges made) i
  pub rows : Rows ps (past_of places i) (stored_edges ends edges made) (drop 512 ends)

module _ (stored : Steps) (plan : Plan (steps_in stored)) where
  abbrev ps : List Step
  ps = steps_in stored

  pub placing : {places counts ends edges : List ℕ} → length ends ≡ 544 → ((m : ℕ) → get_or ends m 0 ≡ 0) → HitsCounted ps counts
      → places ≡ sinks ps → Placing ps places counts ends edges 0 0
  unfolding stored_edges table
  placing {ends = ends} k z hits q =
      record {
        growing = begins stored plan hits q;
        rows = no_rows ps plan (drop 512 ends) (simp length-drop (omega arith)) (λ m. get_or-drop 512 ends m 0 ∙ z (512 + m));
      }

  module _ {places counts ends edges : List ℕ} {made i : ℕ} (g : Placing ps places counts ends edges made i) where
    abbrev es : List Edge
    es = stored_edges ends edges made

    module _ (h : i < length places) where
      abbrev here : ℕ
      here = get_or places i 0

      pub turn_at : Turn stored.bytes counts places made here
      turn_at = turn stored plan places counts es i g.growing h made (length_edges ends edges made)

      pub places_left : i < length (sinks ps) + length (named ps)
      places_left = turns_left stored plan places counts es i g.growing h

      module _ {places' counts' : List ℕ} (q : places' ≡ places ++ followed_by stored.bytes counts here) (u : counts' ≡ used stored.bytes counts here) where
        abbrev pushed : List ℕ
        pushed = drop (length places) places'

        new_pushed : pushed ≡ followed_by stored.bytes counts here
        new_pushed = just_pushed stored plan places counts es i g.growing h places' counts' q

        pub few_pushed : length pushed ≡ length (followed_by stored.bytes counts here)
        few_pushed = ap length new_pushed

        -- what is pushed are lines of the sheet
        pub pushed_there : (k : ℕ) → k < length pushed → get_or pushed k 0 < 255
        pushed_there k l =
            let g' = growing_next stored plan places counts es i g.growing h places' counts' q u in
            let waiting = drop (i + 1) places' in
            let j = length places + k - (i + 1) in
            let same : i + 1 + j ≡ length places + k = omega arith in
            let at : get_or waiting j 0 ≡ get_or pushed k 0 =
            get_or-drop (i + 1) places' j 0 ∙ ap (λ (x : ℕ). get_or places' x 0) same ∙ sym (get_or-drop (length places) places' k 0) in
            let size : length waiting ≡ length places' - (i + 1) = length-drop (i + 1) places' in
            let whole : length pushed ≡ length places' - length places = length-drop (length places) places' in
            omega (arith, g'.there (get_or waiting j 0) (mem_at waiting j 0 (omega arith)), at, length_steps stored.bytes stored.count)

        -- ends₁ has the number of the first in-edge
        pub placing_next : {ends₁ ends' edges' : List ℕ} {made' : ℕ} → ((d : List ℕ) (m : ℕ) → m ≤ 256 → stored_edges ends₁ d m ≡ stored_edges ends d m)
            → drop 512 ends₁ ≡ set (drop 512 ends) here made → Linked here pushed ends₁ edges made ends' edges' made'
            → Placing ps places' counts' ends' edges' made' (i + 1)
        placing_next {ends' = ends'} {edges'} {made'} same first l =
            let new = followed_by stored.bytes counts here in
            let now : stored_edges ends' edges' made' ≡ es ++ edges_into here new =
            l.linked
            ∙ ap₂ (λ (x y : List Edge). x ++ y) (same edges made (omega (arith, turn_at.edges)))
            (same_into here pushed ∙ ap (edges_into here) new_pushed) in
            let firsts : drop 512 ends' ≡ set (drop 512 ends) here (length es) =
            l.firsts ∙ first ∙ ap (set (drop 512 ends) here) (sym (length_edges ends edges made)) in
            record {
              growing = rw now (growing_next stored plan places counts es i g.growing h places' counts' q u);
              rows =
                  rw (now, firsts)
                  (rows_next stored plan places counts es i g.growing h (drop 512 ends) (past_of places' (i + 1))
                  (gone stored plan places counts es i g.growing h places' counts' q) g.rows);
            }

    pub built : length places ≤ i → Built ps places ends edges made
    built h =
        let (a, b) = grown stored plan g.growing h in
        record {
          places_are = a;
          edges_are = b;
          few_places = g.growing.fits;
          few_edges = omega (arith, g.growing.made, length_edges ends edges made, few, namings stored plan);
          place_there = place_there ps plan places a;
          consumer_there = consumer_there ps ends edges made b plan;
          slot_there = slot_there ps ends edges made b plan;
          producer_there = producer_there ps ends edges made b plan;
          in_rows =
              λ m l.
              in_a_row ps ends edges made m
              (rw (get_or-drop 512 ends m 0) at (all_rows stored plan places counts (drop 512 ends) es i g.growing h g.rows m l));
        }
      where
        few : length places ≤ length (sinks ps) + length (named ps)
        few = omega (arith, g.growing.left)
