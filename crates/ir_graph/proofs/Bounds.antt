-- How many places and edges there can be, by the steps that are stored: one has no input, and the others have at most 8.
use mathlib.Core.Path.{◌≡◌, refl, ap, sym, subst}
use Prim.Native.Nat.{ℕ, zero, suc, ◌+◌, ◌*◌, ◌≤◌, ◌<◌}
use native.Mathlib.Decide.{dec_lt}
use native.Mathlib.Omega.{arith}
use native.Mathlib.Nat.{not-suc-le-zero}
use mathlib.Core.List.{List, [], ◌∷◌, Memᴰ}
use lib.ListN.{length, length-append}
use Rattle.plan.specs.Lists.{concat_map}
use Rattle.plan.specs.Sheet.{Step, no_step, step_at}
use Rattle.plan.specs.Faults.{named}
use Rattle.plan.specs.declared.ir.IR.{IR}
use Rattle.plan.specs.Kinds.{same_ir}
use Rattle.plan.specs.Graph.{sinks, is_cache}
use Rattle.storage.specs.Stored.{stored_step, stored_steps}
use Rattle.storage.specs.Held.{steps_in}
use Rattle.storage.specs.declared.stored.Steps.{Steps}
use Rattle.storage.proofs.Laws.{table_at, length_steps}
use Rattle.claims.specs.Plan.{Plan}
use Rattle.claims.proofs.Sizes.{few_sinks}
use Rattle.ir_graph.specs.Turns.{cached}
use Rattle.ir_graph.proofs.Inputs.{few_inputs}

named_from : (ps : List Step) → ((i : ℕ) → i < length ps → length (step_at ps i).inputs ≤ 8) → length (named ps) ≤ 8 * length ps
unfolding named concat_map
named_from [] h = omega arith
named_from (x ∷ ps) h = simp length-append (omega (arith, h 0 (omega arith), named_from ps (λ i l. h (suc i) (omega arith))))

-- with one step that names none
named_but : (ps : List Step) (k : ℕ) → k < length ps → (step_at ps k).inputs ≡ [] → ((i : ℕ) → i < length ps → length (step_at ps i).inputs ≤ 8)
    → length (named ps) + 8 ≤ 8 * length ps
unfolding named concat_map
named_but [] k l e h = absurd (not-suc-le-zero l)
named_but (x ∷ ps) zero l e h = simp length-append (omega (arith, ap length e, named_from ps (λ i j. h (suc i) (omega arith))))
named_but (x ∷ ps) (suc k) l e h =
    simp length-append (omega (arith, h 0 (omega arith), named_but ps k (omega arith) e (λ i j. h (suc i) (omega arith))))

-- some step names none: from any, its first input, that one's first, and so on
source : (ps : List Step) (plan : Plan ps) (f n : ℕ) → n < length ps → plan.rank n < f → (k : ℕ) × (k < length ps) × ((step_at ps k).inputs ≡ [])
source ps plan zero n h l = absurd (not-suc-le-zero l)
source ps plan (suc f) n h l = by (step_at ps n).inputs refl (λ m i. source ps plan f m (plan.input_there n m i) (omega (arith, plan.lower n m i)))
  where
    by : (ms : List ℕ) → (step_at ps n).inputs ≡ ms → ((m : ℕ) → Memᴰ m (step_at ps n).inputs → (k : ℕ) × (k < length ps) × ((step_at ps k).inputs ≡ []))
        → (k : ℕ) × (k < length ps) × ((step_at ps k).inputs ≡ [])
    by [] e rec = (n, h, e)
    by (m ∷ ms) e rec = rec m (subst (Memᴰ m) (sym e) (Memᴰ.head refl))

few_named : (ps : List Step) → Plan ps → length ps ≤ 32 → ((i : ℕ) → i < length ps → length (step_at ps i).inputs ≤ 8) → length (named ps) ≤ 248
few_named ps plan n h = by (dec_lt 0 (length ps))
  where
    by : Dec (0 < length ps) → length (named ps) ≤ 248
    by (yes l) = let (k, there, e) = source ps plan (suc (plan.rank 0)) 0 l (omega arith) in omega (arith, named_but ps k there e h)
    by (no l) = omega (arith, named_from ps h)

-- Of the steps that are stored ---------------------------------------------------------------------------------------------------

module _ (bytes : List ℕ) (n : ℕ) where
  pub step_there : (i : ℕ) → i < n → step_at (stored_steps bytes n) i ≡ stored_step bytes i
  unfolding stored_steps
  step_there i h = table_at (stored_step bytes) n i no_step h

  pub cache_there : (i : ℕ) → i < n → is_cache (stored_steps bytes n) i ≡ cached bytes i
  cache_there i h = ap (λ (s : Step). same_ir s.kind IR.Cache) (step_there i h)

module _ (stored : Steps) (plan : Plan (steps_in stored)) where
  size : length (steps_in stored) ≡ stored.count
  size = length_steps stored.bytes stored.count

  pub namings : length (named (steps_in stored)) ≤ 248
  namings =
      few_named (steps_in stored) plan (omega (arith, size, stored.held.few))
      (λ i h.
      let l : i < stored.count = omega (arith, size) in
      rw (step_there stored.bytes stored.count i l) (few_inputs stored.bytes i (stored.held.formed i l)))

  pub roots : length (sinks (steps_in stored)) ≤ 32
  roots = omega (arith, few_sinks (steps_in stored), size, stored.held.few)
