-- The edges as they are made: an edge into each slot of a step.
use Rattle.std.specs.Prelude.{◌≡◌, ℕ, ◌+◌, List, ◌++◌, length, drop}
use Rattle.plan.specs.Graph.{edges_into}
use Rattle.storage.specs.Edges.{stored_edges}

-- edges from `ms` into n were made behind the first e, and now there are r; the numbers of first in-edges are as they were
pub record Linked (n : ℕ) (ms ends edges : List ℕ) (e : ℕ) (ends' edges' : List ℕ) (r : ℕ) : Type 0 where
  pub count : r ≡ e + length ms
  pub linked : stored_edges ends' edges' r ≡ stored_edges ends edges e ++ edges_into (λ k. k) n ms
  pub firsts : drop 512 ends' ≡ drop 512 ends
