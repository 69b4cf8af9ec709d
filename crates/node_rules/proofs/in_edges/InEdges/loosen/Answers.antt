use Rattle.std.specs.Prelude.{if◌then◌else◌}
use mathlib.Core.Path.{refl, ap, ◌∙◌}
use mathlib.Core.Bool.{Bool, not}
use Prim.Native.Nat.{ℕ}
use lib.Dec.{eqb}
use Rattle.storage.specs.Edges.{stored_edge, loosened_if}
use Rattle.node_rules.specs.Held.{ins_of}
use Rattle.node_rules.proofs.EdgeChanges.{none_changed, one_changed, neither, none_loosened, in_loosened, ins_loosened}
use native.Mathlib.Omega.{arith}
use Rattle.node_rules.proofs.in_edges.InEdges.loosen.Goals as goal

pub returns-then-not-l-clause-edges_after : goal.returns-then-not-l-clause-edges_after
returns-then-not-l-clause-edges_after c = let (a, b) = neither c.args.l (ap not c.if-not-l.true) in
    λ run. none_loosened c.args.self.of (ins_of c.args.l) a b refl _

pub loop-k-init : goal.loop-k-init
loop-k-init c = (refl, none_changed _ c.args.ends.now c.args.edges.now.bytes c.args.self.from)

pub loop-k-preserved : goal.loop-k-preserved
loop-k-preserved c =
    let slot = c.slot_of.ensures c.loop-k.edges.bytes in
    let b = c.loosened_in.ensures ∙ ap (λ (s : ℕ). if eqb s 0 then c.args.l.in0 else c.args.l.later) slot in
    let d = stored_edge c.args.ends.now c.loop-k.edges.bytes c.loop-k.k in (
      c.loop-k.invariant.0,
      one_changed (in_loosened c.args.l) c.args.ends.now c.args.edges.now.bytes c.args.self.from c.loop-k.edges.bytes _ c.loop-k.k (omega arith) (omega arith) _ (c.loosen_if.ensures.0 c.args.ends.now) (ap (λ (x : Bool). loosened_if x d) b) c.loop-k.invariant.1,
    )

pub returns-clause-edges_after : goal.returns-clause-edges_after
returns-clause-edges_after c = λ run. rw c.loop-k.invariant.0 (ins_loosened c.args.ends.now c.args.edges.now.bytes c.loop-k.edges.bytes c.args.edges.now.count c.args.edges.now.few c.args.self run c.loop-k.k (omega arith) (omega arith) c.args.l c.loop-k.invariant.1)
