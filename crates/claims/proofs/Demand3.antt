-- Demand 3, of every sequence of bytes.
use mathlib.Core.Path.{◌≡◌, ap, sym, ◌∙◌}
use mathlib.Core.List.{List}
use Prim.Native.Nat.{ℕ}
use Rattle.plan.specs.Sheet.{done, ◌then◌, read}
use Rattle.plan.specs.Faults.{checked}
use Rattle.plan.specs.Walks.{simplify_and_fetch_orderings}
use Rattle.plan.specs.Text.{printed, edges_block, tally_line, blocks, joined}
use Rattle.plan.specs.Finished.{run, finished}
use Rattle.claims.specs.Demand3.{FinishedRun, Demand3}
use Rattle.plan.proofs.Outcomes.{both_done, same_value}
use Rattle.claims.proofs.Taken.{well_formed}
use Rattle.claims.proofs.MergedPlan.{updated_own}
use Rattle.claims.proofs.Ends.{ends}
use Rattle.claims.proofs.Visits.{visits_counted, visits_taken}
use Rattle.claims.proofs.Removals.{removal}
use Rattle.claims.proofs.LooksBounded.{looks_down, looks_up}

finished_run : (s out : List ℕ) → finished s ≡ done out → FinishedRun s out
unfolding finished run blocks joined printed edges_block tally_line
finished_run s out e =
    let (whole, runs, prints) = both_done (run s) (λ r. done (printed r)) e in
    let (sh, accepted, walks) = both_done (read s then checked) simplify_and_fetch_orderings runs in
    let x = ends sh whole walks in
    let own : whole ≡ x.whole = x.updates ∙ updated_own sh (well_formed s sh accepted) x.whole in
    record {
      sheet = sh;
      half = x.half;
      whole = x.whole;
      accepted = accepted;
      down_ends = x.down_ends;
      up_ends = x.up_ends;
      prints = sym (same_value prints) ∙ ap printed own;
      took = visits_taken sh x.half x.whole x.down_ends x.up_ends;
      visits = visits_counted sh x.half x.whole x.down_ends x.up_ends;
      sorts = removal s sh x.half x.whole accepted x.down_ends x.up_ends;
    }

pub demand_3 : (s : List ℕ) → Demand3 s
demand_3 s = record { finishes = finished_run s; looks_down = looks_down s; looks_up = looks_up s }
