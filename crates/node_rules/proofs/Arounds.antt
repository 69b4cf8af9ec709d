-- A step's edges as a visit finds them, from those into it and those out of it.
use Rattle.std.specs.Prelude.{Option, None, Some, if◌then◌else◌}
use Rattle.std.specs.Option.{unwrap_or, IfSome, MatchOption}
use mathlib.Core.Path.{◌≡◌}
use Prim.Native.Nat.{ℕ, ◌+◌, ◌<◌}
use native.Mathlib.Omega.{arith}
use mathlib.Core.Bool.{Bool, false}
use mathlib.Core.List.{List}
use lib.Dec.{ltb}
use borrow.Author.Tests.{lt-ltb, le-ltb}
use Rattle.plan.specs.Lists.{all?}
use Rattle.plan.specs.Visit.{around, outs_unordered}
use Rattle.claims.specs.Demand3.{leaving_among}
use Rattle.node_rules.specs.declared.in_edges.InEdges.{InEdges}
use Rattle.storage.specs.Edges.{mark, stored_edges}
use Rattle.node_rules.specs.Held.{InRun, run_marks}
use Rattle.node_rules.proofs.InEdges.{ins_are, mark_of}
use Rattle.node_rules.proofs.OutEdges.{out_is}

-- the mark of the edge that is found, if one is
pub out_found : (edges : List ℕ) (len : ℕ) (r : Option ℕ) (out : Bool) (Asked : ℕ → Type 0) → IfSome r (λ k. k < len) → MatchOption r (out ≡ false) Asked
    → ((k : ℕ) → Asked k → out ≡ mark edges k) → out ≡ (if ltb (unwrap_or r len) len then mark edges (unwrap_or r len) else false)
out_found edges len None out Asked h e asked = rw (le-ltb len len (omega arith)) e
out_found edges len (Some k) out Asked h e asked = rw (lt-ltb k len h) (asked k e)

module _ (ends edges : List ℕ) (len : ℕ) (d : InEdges) (run : InRun ends len d) where
  abbrev is_unordered : ℕ → ℕ → Bool
  is_unordered k to = if ltb k to then mark edges k else false

  pub around_is : (k : ℕ) → k ≡ leaving_among d.of (stored_edges ends edges len)
      → {ins in0 in1 out outs : Bool} → ins ≡ all? (λ b. b) (run_marks edges d) → in0 ≡ is_unordered d.from d.to
      → in1 ≡ is_unordered (d.from + 1) d.to → out ≡ is_unordered k len
      → outs ≡ outs_unordered d.of (stored_edges ends edges len)
      → record { ins = ins; in0 = in0; in1 = in1; out = out; outs = outs } ≡ around d.of (stored_edges ends edges len)
  unfolding around
  around_is k leaves a b c e f =
      let first : d.from + 0 ≡ d.from = omega arith in
      let ins = ins_are ends edges len d run in
      let in0 = rw first at (mark_of edges d 0 d.order) in
      rw (a, b, c, e, f, ins, in0, mark_of edges d 1 d.order, ← (out_is ends edges len d.of k leaves))
