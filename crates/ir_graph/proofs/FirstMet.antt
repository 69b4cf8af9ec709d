-- The line of an id that is met first: going through the steps met, and the table of them.
use mathlib.Core.Path.{◌≡◌, refl, sym, ap₂, ◌∙◌}
use mathlib.Core.List.{List, [], ◌∷◌, ◌++◌}
use Prim.Native.Nat.{ℕ, suc, ◌+◌, ◌≤◌, ◌<◌}
use native.Mathlib.Numerals.{add-one}
use mathlib.Core.Bool.{true, false, ◌&&◌}
use lib.Dec.{eqb}
use lib.ListN.{length, get_or, drop, drop_of_length-le}
use lib.Seq.{drop-cons}
use Rattle.plan.specs.Sheet.{Step}
use Rattle.plan.specs.Graph.{one_id, first_met, popped, key}
use Rattle.storage.specs.Stored.{table, stored_step, stored_steps}
use Rattle.storage.proofs.Laws.{length_steps, same_table}
use Rattle.claims.specs.Plan.{Plan}
use Rattle.claims.proofs.MergedPlan.{key_first}
use Rattle.ir_graph.specs.Turns.{cached}
use Rattle.ir_graph.specs.UpdateCaches.{first_lines}
use Rattle.ir_graph.proofs.Bounds.{step_there}
use Rattle.storage.proofs.Laws.{one_entry_more}

-- Two lines with one id ----------------------------------------------------------------------------------------------------------

module _ (bytes : List ℕ) (n : ℕ) where
  abbrev ps : List Step
  ps = stored_steps bytes n

  module _ (k m : ℕ) (here : k < n) (there : m < n) where
    pub by_kinds : one_id ps k m ≡ (cached bytes k && cached bytes m && eqb (stored_step bytes k).a (stored_step bytes m).a)
    by_kinds = rw (step_there bytes n k here, step_there bytes n m there)

-- Going through the steps met ----------------------------------------------------------------------------------------------------

module _ (ps : List Step) (met : List ℕ) (m : ℕ) where
  next : (k : ℕ) → k < length met → drop k met ≡ get_or met k 0 ∷ drop (suc k) met
  next k h = drop-cons met k 0 h

  pub met_here : (k : ℕ) → k < length met → one_id ps (get_or met k 0) m ≡ true → first_met ps (drop k met) m ≡ get_or met k 0
  unfolding first_met
  met_here k h e = rw (next k h, e)

  pub met_later : (k : ℕ) → k < length met → one_id ps (get_or met k 0) m ≡ false → first_met ps (drop (k + 1) met) m ≡ first_met ps (drop k met) m
  unfolding first_met
  met_later k h e = rw (add-one, next k h, e)

  pub none_met : (k : ℕ) → length met ≤ k → first_met ps (drop k met) m ≡ m
  unfolding first_met
  none_met k h = rw (drop_of_length-le met {i = k} h)

-- The table ----------------------------------------------------------------------------------------------------------------------

pub none_noted : (f : ℕ → ℕ) → [] ≡ table f 0 0
unfolding table
none_noted f = refl

pub one_noted : (f : ℕ → ℕ) {first : List ℕ} (m v : ℕ) → first ≡ table f 0 m → v ≡ f m → first ++ (v ∷ []) ≡ table f 0 (m + 1)
one_noted f m v e q = ap₂ (λ (l : List ℕ) (x : ℕ). l ++ (x ∷ [])) e q ∙ sym (one_entry_more f m)

pub all_noted : (bytes : List ℕ) (n : ℕ) → Plan (stored_steps bytes n) → (met first : List ℕ) (m : ℕ) → met ≡ popped (stored_steps bytes n) → m ≡ n
    → first ≡ table (first_met (stored_steps bytes n) met) 0 m → first ≡ first_lines (stored_steps bytes n)
unfolding first_lines
all_noted bytes n plan met first m o e t =
    t
    ∙ ap₂ (λ (l : List ℕ) (k : ℕ). table (first_met (stored_steps bytes n) l) 0 k) o (e ∙ sym (length_steps bytes n))
    ∙ same_table (first_met (stored_steps bytes n) (popped (stored_steps bytes n))) (key (stored_steps bytes n)) (length (stored_steps bytes n))
    (λ k h. sym (key_first (stored_steps bytes n) plan k))
