-- The edge that unlink_node goes by.
use Rattle.std.specs.Prelude as rust
use Rattle.std.specs.Prelude.{None, Some, if◌then◌else◌}
use Rattle.std.specs.Option.{unwrap_or, IsSome}
use mathlib.Core.Path.{◌≡◌, refl, sym, ap, ◌∙◌}
use Prim.Native.Nat.{ℕ, ◌<◌}
use native.Mathlib.Omega.{arith}
use native.Mathlib.Decide.{dec_lt}
use mathlib.Core.Bool.{Bool, true, false}
use mathlib.Core.Option.{none, some}
use Rattle.std.proofs.Math.Option.{some-ne-none}
use lib.Dec.{eqb}
use mathlib.Core.List.{List}
use lib.ListN.{length, get_or, get_or-eq_default}
use Rattle.plan.specs.Graph.{Edge}
use Rattle.storage.proofs.Laws.{length_table, table_at}
use Rattle.plan.specs.Visit.{no_edge, in_edge, out_edge}
use Rattle.claims.specs.Demand3.{leaving_among}
use Rattle.claims.proofs.Edges.{out_edge_at}
use Rattle.plan.specs.Refusals.{option_of}
use Rattle.storage.specs.Edges.{byte_of, producer_of, stored_edge, stored_edges}
use Rattle.node_rules.specs.declared.in_edges.InEdges.{InEdges}
use Rattle.node_rules.specs.Held.{InRun}
use Rattle.node_rules.proofs.InEdges.{first_in, no_first_in}

-- a number below the last is one that was found
pub found_below : (r : rust.Option ℕ) (len : ℕ) → unwrap_or r len < len → IsSome r
found_below None len h = absurd (omega arith)
found_below (Some k) len h = refl

module _ (ends edges : List ℕ) (len n k : ℕ)
    (leaves : k ≡ leaving_among n (stored_edges ends edges len))
    (loose : (out_edge n (stored_edges ends edges len)).unordered ≡ true) where
  abbrev ds : List Edge
  ds = stored_edges ends edges len

  at_number : out_edge n ds ≡ get_or ds k no_edge
  at_number = sym (out_edge_at n ds) ∙ ap (λ (m : ℕ). get_or ds m no_edge) (sym leaves)

  -- there is such an edge
  pub edge_there : k < len
  unfolding stored_edges
  edge_there = by (dec_lt k len)
    where
      by : Dec (k < len) → k < len
      by (yes h) = h
      by (no h) =
          let none : get_or ds k no_edge ≡ no_edge =
          get_or-eq_default ds no_edge (omega (arith, length_table (stored_edge ends edges) 0 len)) in
          let clash : false ≡ true = sym (ap (λ (d : Edge). d.unordered) (at_number ∙ none)) ∙ loose in
          let z : ◌≡◌ {A = ℕ} 0 1 = cc in
          absurd (omega arith)

  pub entry_is : get_or ds k no_edge ≡ stored_edge ends edges k
  unfolding stored_edges
  entry_is = table_at (stored_edge ends edges) len k no_edge edge_there

  pub entry_there : k < length ds
  unfolding stored_edges
  entry_there = omega (arith, edge_there, length_table (stored_edge ends edges) 0 len)

  pub edge_is : out_edge n ds ≡ stored_edge ends edges k
  edge_is = at_number ∙ entry_is

-- The producer that is told of a stored edge is never step 255: it is stored as it was told -------------------------------------------

told_of : (o : rust.Option ℕ) (x : ℕ) → option_of o ≡ producer_of x → producer_of (byte_of o) ≡ option_of o
told_of None x e = refl
told_of (Some p) x e = by (eqb x 255) e refl
  where
    by : (b : Bool) → some p ≡ (if b then none else some x) → eqb x 255 ≡ b → producer_of p ≡ some p
    by true e t = absurd (some-ne-none p e)
    by false e t = let same : p ≡ x = cc in rw (same, t)

pub told_again : (ends edges : List ℕ) (len : ℕ) (d : InEdges) → InRun ends len d → (o : rust.Option ℕ)
    → option_of o ≡ (in_edge d.of (stored_edges ends edges len)).producer → producer_of (byte_of o) ≡ option_of o
unfolding stored_edge
told_again ends edges len d run o e = by (dec_lt d.from d.to)
  where
    by : Dec (d.from < d.to) → producer_of (byte_of o) ≡ option_of o
    by (yes h) = told_of o (get_or edges d.from 0) (e ∙ sym (first_in ends edges len d run h))
    by (no h) = told_of o 255 (e ∙ sym (no_first_in ends edges len d run (omega (arith, h))))
