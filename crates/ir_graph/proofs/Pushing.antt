-- The roots, step by step.
use Rattle.std.specs.Prelude.{if◌then◌else◌}
use mathlib.Core.Path.{◌≡◌, refl, ap, ◌∙◌}
use mathlib.Core.List.{List, [], ◌∷◌, ◌++◌, map}
use Prim.Native.Nat.{ℕ, suc, ◌+◌, ◌≤◌}
use native.Mathlib.Omega.{arith}
use mathlib.Core.Bool.{Bool, true, false}
use lib.ListN.{length}
use Rattle.plan.specs.declared.ir.IR.{IR}
use Rattle.plan.specs.Kinds.{same_ir}
use Rattle.plan.specs.Lists.{select, numbered}
use Rattle.plan.specs.Sheet.{Step}
use Rattle.plan.specs.Graph.{sinks}
use Rattle.storage.specs.Stored.{table, stored_step, stored_steps}
use Rattle.storage.proofs.Laws.{length_table, one_entry_more}
use Rattle.claims.proofs.Plans.{sinks_from}
use Rattle.ir_graph.specs.Turns.{root}

abbrev one_if : Bool → ℕ → List ℕ
one_if b k = if b then k ∷ [] else []

sinks_more : (k : ℕ) (ps : List Step) (s : Step) → sinks_from k (ps ++ (s ∷ [])) ≡ sinks_from k ps ++ one_if (same_ir s.kind IR.Sink) (k + length ps)
unfolding numbered select
sinks_more k [] s = let e : k ≡ k + 0 = omega arith in by (same_ir s.kind IR.Sink) ∙ ap (λ (j : ℕ). one_if (same_ir s.kind IR.Sink) j) e
  where
    by : (b : Bool) → map (λ (n, s). n) (if b then (k, s) ∷ [] else []) ≡ one_if b k
    by true = refl
    by false = refl
sinks_more k (x ∷ ps) s =
    let e : suc k + length ps ≡ k + suc (length ps) = omega arith in
    by (same_ir x.kind IR.Sink) (sinks_more (suc k) ps s ∙ ap (λ (j : ℕ). sinks_from (suc k) ps ++ one_if (same_ir s.kind IR.Sink) j) e)
  where
    later : List Step → List (ℕ × Step)
    later l = select (λ (n, s). same_ir s.kind IR.Sink) (numbered (suc k) l)

    by : (b : Bool) → map (λ (n, s). n) (later (ps ++ (s ∷ []))) ≡ map (λ (n, s). n) (later ps) ++ one_if (same_ir s.kind IR.Sink) (k + suc (length ps))
        → map (λ (n, s). n) (if b then (k, x) ∷ later (ps ++ (s ∷ [])) else later (ps ++ (s ∷ [])))
        ≡ map (λ (n, s). n) (if b then (k, x) ∷ later ps else later ps) ++ one_if (same_ir s.kind IR.Sink) (k + suc (length ps))
    by true e = ap (λ (l : List ℕ). k ∷ l) e
    by false e = e

module _ (bytes : List ℕ) where
  pub root_more : (i : ℕ) → sinks (stored_steps bytes (i + 1)) ≡ sinks (stored_steps bytes i) ++ root bytes i
  unfolding sinks stored_steps
  root_more i =
      rw (one_entry_more (stored_step bytes) i)
      (sinks_more 0 (table (stored_step bytes) 0 i) (stored_step bytes i)
      ∙ ap (λ (j : ℕ). sinks_from 0 (table (stored_step bytes) 0 i) ++ one_if (same_ir (stored_step bytes i).kind IR.Sink) j) (at i))
    where
      at : (i : ℕ) → 0 + length (table (stored_step bytes) 0 i) ≡ i
      at i = omega (arith, length_table (stored_step bytes) 0 i)

  pub no_roots : [] ≡ sinks (stored_steps bytes 0)
  unfolding sinks stored_steps table numbered select
  no_roots = refl

  pub few_roots : (i : ℕ) → length (root bytes i) ≤ 1
  few_roots i = by (same_ir (stored_step bytes i).kind IR.Sink)
    where
      by : (b : Bool) → length (one_if b i) ≤ 1
      by true = omega arith
      by false = omega arith
