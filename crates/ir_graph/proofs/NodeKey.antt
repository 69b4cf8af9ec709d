-- IRNodeKey: that a step's line can stand for its key.
use Rattle.std.specs.Prelude.{if◌then◌else◌}
use mathlib.Core.Path.{◌≡◌}
use Prim.Native.Nat.{ℕ}
use mathlib.Core.Bool.{Bool, true, false}
use lib.Dec.{T}
use Rattle.plan.specs.declared.ir.IR.{IR}
use Rattle.plan.specs.Kinds.{same_ir}
use Rattle.plan.specs.Sheet.{Step, Sheet, step_at}
use Rattle.claims.specs.WellFormed.{WellFormed}
use Rattle.plan.proofs.KindNumbers.{same_kind}
use Rattle.claims.proofs.CacheIds.{one_line_each_id}
use Rattle.ir_graph.specs.declared.ir_node_key.IRNodeKey.{IRNodeKey}
use Rattle.ir_graph.specs.NodeKey.{node_key}

-- Two steps with one key are one line
pub one_line_each_key : (sh : Sheet) → WellFormed sh → (m n : ℕ) → node_key (step_at sh.steps m) m ≡ node_key (step_at sh.steps n) n → m ≡ n
one_line_each_key sh w m n k = by (same_ir a.kind IR.Cache) (same_ir b.kind IR.Cache) (same_kind a.kind IR.Cache) (same_kind b.kind IR.Cache) k
  where
    a : Step
    a = step_at sh.steps m

    b : Step
    b = step_at sh.steps n

    by : (p q : Bool) → (T p → a.kind ≡ IR.Cache) → (T q → b.kind ≡ IR.Cache)
        → (if p then IRNodeKey.CacheId a.a else IRNodeKey.Node m) ≡ (if q then IRNodeKey.CacheId b.a else IRNodeKey.Node n) → m ≡ n
    by true true f g e = let same : a.a ≡ b.a = cc in one_line_each_id sh w m n (f tt) (g tt) same
    by true false f g e = cc
    by false true f g e = cc
    by false false f g e = cc
