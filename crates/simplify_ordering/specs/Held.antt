-- A run of the code as the definition's.
use Rattle.std.specs.Prelude.{ℕ, List}
use Rattle.plan.specs.Visit.{Run}
use Rattle.storage.specs.Held.{arena_in, steps_in, edges_in}
use Rattle.simplify_ordering.specs.declared.run.StoredRun.{StoredRun}

-- `ends` has what does not change of the edges. The places gone back along and the sorts removed are lists of the definition alone: a
-- visit does not read them
abbrev pub run_of : StoredRun → List ℕ → (back removed : List ℕ) → Run
run_of r ends back removed =
    record {
      arena = arena_in r.arena;
      steps = steps_in r.steps;
      edges = edges_in ends r.edges;
      back = back;
      removed = removed;
      tally = r.tally;
    }
