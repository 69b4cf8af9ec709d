-- Both walks, one after the other: the definition's run, or the number of the visit that was refused.
use mathlib.Core.Path.{◌≡◌, sym, ap, ◌∙◌, subst}
use Prim.Native.Nat.{ℕ, ◌-◌}
use native.Mathlib.Omega.{arith}
use mathlib.Core.List.{List, [], ◌++◌, append-nil}
use Rattle.std.specs.Prelude.{Result, Ok, Err}
use lib.ListN.{length, take, length-drop}
use lib.Seq.{take_all}
use Rattle.plan.specs.declared.refusal.Refusal.{Refusal}
use Rattle.plan.specs.Sheet.{Sheet, Outcome, refused, done, ◌then◌}
use Rattle.plan.specs.Graph.{graph}
use Rattle.plan.specs.Visit.{Run}
use Rattle.plan.specs.Walks.{walk, begin, down, up, updated, simplify_and_fetch_orderings}
use Rattle.claims.specs.Visitable.{AllVisitable}
use Rattle.claims.proofs.Ends.{walks_alone}
use Rattle.claims.proofs.Visitables.{visitable_down, visitable_up}
use Rattle.simplify_ordering.specs.declared.back.Back.{Back}
use Rattle.simplify_ordering.specs.declared.run.StoredRun.{StoredRun}
use Rattle.storage.specs.Held.{arena_in, steps_in, edges_in}
use Rattle.storage.specs.Removed.{RemovedAre}
use Rattle.storage.specs.declared.removed.Removed.{Removed}
use Rattle.simplify_ordering.specs.Walks.{places, WalkAsks, walk_stopped, WalkEnds, WalkStops, WalkGives, sheet_of, stopped_by, fetch_stopped, FetchAsks, DownEnds, DownStops, DownGives, FetchGives}

-- the part of an array from `at` on, as the code lends it
pub to_the_end : (b : Back) → take (length b.places - b.at) (places b) ≡ places b
to_the_end b = take_all (length b.places - b.at) (places b) (omega (arith, length-drop b.at b.places))

module _ (r : StoredRun) (ends list : List ℕ) (ask : FetchAsks r ends list) where
  abbrev sh : Sheet
  sh = sheet_of r

  -- the run as the walks set out: nothing is counted yet
  abbrev pub start : List ℕ → List ℕ → Run
  start back removed =
      record {
        arena = arena_in r.arena;
        steps = steps_in r.steps;
        edges = edges_in ends r.edges;
        back = back;
        removed = removed;
        tally = record { visits = 0; looks = 0 };
      }

  begins : start [] [] ≡ begin sh
  unfolding begin
  begins = rw ask.edges_are

  pub down_asks : WalkAsks list start
  down_asks = record { back = []; removed = []; visitable = rw (ask.places_are, begins) (visitable_down sh ask.formed) }

  down_is : walk list (start [] []) ≡ down sh
  unfolding down
  down_is = rw (ask.places_are, begins)

  stop_is : walk_stopped list (start [] []) ≡ walk_stopped (graph sh.steps).0 (begin sh)
  stop_is = rw (ask.places_are, begins)

  -- `half` is the run as the downward walk leaves it
  module _ (half : List ℕ → List ℕ → Run) where
    -- m are the sorts that had been removed before it: none
    pub down_given : (m : Removed) → RemovedAre [] m → (o : Result Back Refusal) → WalkGives list m start half o → DownGives sh half o
    down_given m none (Ok b) g =
        record {
          gone = g.gone ++ [];
          removed = g.removed [] none;
          few = omega (arith, g.few, none.count, ask.few);
          is = sym down_is ∙ g.is [] [] ∙ ap (λ (l : List ℕ). done (half l (g.gone ++ []))) (append-nil (places b));
        }
    down_given m none (Err e) g =
        record {
          pushed = g.pushed ++ [];
          gone = g.gone ++ [];
          is = sym down_is ∙ g.is [] [];
          stop = sym stop_is ∙ g.stop [] [];
        }

    pub down_stopped : (e : Refusal) → DownStops sh half e → FetchGives sh half (Err e)
    unfolding simplify_and_fetch_orderings fetch_stopped ◌then◌
    down_stopped e g = (
      ap (λ (o : Outcome Run). o then up then λ q. done (updated sh q)) g.is,
      (g.pushed, g.gone, sym (ap (stopped_by sh) g.is ∙ g.stop)),
    )

    module _ (backs : (back gone : List ℕ) → (half back gone).back ≡ back) (b : Back) (g : DownEnds sh half b) where
      abbrev h : Run
      h = half (places b) g.gone

      goes_back : h.back ≡ places b
      goes_back = backs (places b) g.gone

      pub up_asks : WalkAsks (take (length b.places - b.at) (places b)) half
      up_asks =
          record {
            back = places b;
            removed = g.gone;
            visitable = subst (λ (x : List ℕ). AllVisitable x h) (goes_back ∙ sym (to_the_end b)) (visitable_up sh ask.formed h g.is);
          }

      -- the upward walk goes along ns; `after` is the run as it leaves it
      module _ (after : List ℕ → List ℕ → Run) (ns : List ℕ) (are : ns ≡ places b) where
        up_is : simplify_and_fetch_orderings sh ≡ walk ns h
        unfolding ◌then◌ up
        up_is = walks_alone sh ask.formed ∙ ap (λ (o : Outcome Run). o then up) g.is ∙ ap (λ (x : List ℕ). walk x h) (goes_back ∙ sym are)

        pub up_stopped : (e : Refusal) → WalkStops ns half after e → FetchGives sh after (Err e)
        unfolding fetch_stopped
        up_stopped e g' = (
          up_is ∙ g'.is (places b) g.gone,
          (
            g'.pushed ++ places b,
            g'.gone ++ g.gone,
            sym (ap (stopped_by sh) g.is ∙ ap (λ (x : List ℕ). walk_stopped x h) (goes_back ∙ sym are) ∙ g'.stop (places b) g.gone),
          ),
        )

        pub up_ended : (b' : Back) → WalkEnds ns b.removed half after b' → FetchGives sh after (Ok b'.removed)
        up_ended b' g' = (
          places b' ++ places b,
          g'.gone ++ g.gone,
          up_is ∙ g'.is (places b) g.gone,
          g'.removed g.gone g.removed,
        )
