-- What a rule leaves of a step's options: the kind, unless it becomes a Union, and that each fits a byte.
use Rattle.std.specs.Prelude.{if◌then◌else◌}
use mathlib.Core.Path.{◌≡◌, refl}
use mathlib.Core.Logic.{◌⊎◌, inl, inr}
use Prim.Native.Nat.{ℕ, ◌≤◌}
use native.Mathlib.Omega.{arith}
use mathlib.Core.Bool.{Bool, true, false, ◌||◌}
use Rattle.plan.specs.declared.ir.IR.{IR}
use Rattle.plan.specs.declared.distinct.UniqueKeepStrategy.{UniqueKeepStrategy}
use Rattle.plan.specs.declared.join.JoinType.{JoinType}
use Rattle.plan.specs.declared.join.MaintainOrderJoin.{MaintainOrderJoin}
use Rattle.plan.specs.declared.rules.Options.{Options}
use Rattle.plan.specs.declared.rules.Around.{Around}
use Rattle.plan.specs.declared.rules.Observable.{Observable}
use Rattle.plan.specs.declared.rules.Ruled.{Ruled}
use Rattle.plan.specs.Kinds.{keep_strategy_number, maintain_order_number, join_type, same_join_type}
use Rattle.plan.specs.FunctionIR.{Functions, rust_functions}
use Rattle.plan.specs.Visit.{Run, looked_in, arm, options_of, unmaintained_if, unordered_union, merge_sorted_all, kept_by_rhs, distinct_out, distinct_in, distinct_keeps, sink_in, sort_in, group_by_out, union_all, ruling_of}
use Rattle.plan.proofs.Settling.{ruling}

-- the options as they are printed
pub record Small (s : Options) : Type 0 where
  pub a : s.a ≤ 255
  pub b : s.b ≤ 255
  pub c : s.c ≤ 255

pub record AfterRule (s s' : Options) : Type 0 where
  pub kind : (s'.kind ≡ s.kind) ⊎ (s'.kind ≡ IR.Union)
  pub small : Small s → Small s'

module _ (s : Options) where
  itself : AfterRule s s
  itself = record { kind = inl refl; small = λ k. k }

  less : (l : Bool) → Small s → (if l then 0 else s.a) ≤ 255
  less true k = omega arith
  less false k = k.a

  -- maintain_order off, or not
  off : (l : Bool) → AfterRule s (unmaintained_if l s)
  off l = record { kind = inl refl; small = λ k. record { a = less l k; b = k.b; c = k.c } }

strategy_small : (u : UniqueKeepStrategy) → keep_strategy_number u ≤ 255
strategy_small UniqueKeepStrategy.First = omega arith
strategy_small UniqueKeepStrategy.Last = omega arith
strategy_small UniqueKeepStrategy.Any = omega arith
strategy_small UniqueKeepStrategy.None = omega arith

maintain_small : (m : MaintainOrderJoin) → maintain_order_number m ≤ 255
maintain_small MaintainOrderJoin.None = omega arith
maintain_small MaintainOrderJoin.Left = omega arith
maintain_small MaintainOrderJoin.Right = omega arith
maintain_small MaintainOrderJoin.LeftRight = omega arith
maintain_small MaintainOrderJoin.RightLeft = omega arith

module _ (s : Options) (e : Around) (o : Observable) where
  either : (b : Bool) (x y : Ruled) → AfterRule s x.options → AfterRule s y.options → AfterRule s (if b then x else y).options
  either true x y f g = f
  either false x y f g = g

  merged : (b : Bool) → AfterRule s (if b then unordered_union s e o else s)
  merged true = record { kind = inr refl; small = λ k. record { a = omega arith; b = omega arith; c = omega arith } }
  merged false = itself s

  after : (functions : Functions) (k : IR) → AfterRule s (arm s e o functions k).options
  unfolding arm
  after functions IR.Scan = itself s
  after functions IR.UnoptimizedDispatch = itself s
  after functions IR.Sink = off s (sink_in s e o)
  after functions IR.Select = itself s
  after functions IR.HStack = itself s
  after functions IR.Sort = off s (sort_in s e o)
  after functions IR.Filter = itself s
  after functions IR.GroupBy = off s (group_by_out s e o)
  after functions IR.Distinct =
      record {
        kind = inl refl;
        small =
            λ k. record { a = less s (distinct_out s e o || distinct_in s e o) k; b = k.b; c = strategy_small (distinct_keeps s e o) };
      }
  after functions IR.Join =
      either (same_join_type (join_type s.a) JoinType.AsOf) _ _ (itself s)
      (record { kind = inl refl; small = λ k. record { a = k.a; b = maintain_small (kept_by_rhs s e o); c = k.c } })
  after functions IR.Gather = itself s
  after functions IR.Union = off s (union_all s e o)
  after functions IR.MergeSorted = merged (merge_sorted_all s e o)
  after functions IR.MapFunction = itself s
  after functions IR.HConcat = itself s
  after functions IR.Slice = itself s
  after functions IR.ExtContext = itself s
  after functions IR.SimpleProjection = itself s
  after functions IR.Cache = itself s

-- the rule of a visit
pub ruled_by : (n : ℕ) (r : Run) → AfterRule (options_of (looked_in n r).step) (ruling n r).options
unfolding ruling_of
ruled_by n r =
    let l = looked_in n r in
    after (options_of l.step) l.around l.observable rust_functions l.step.kind
