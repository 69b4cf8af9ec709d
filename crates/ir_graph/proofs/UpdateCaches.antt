-- update_cache_nodes: the ways through it, and its loop, which comes to the definition's.
use Rattle.std.specs.Prelude.{if◌then◌else◌}
use mathlib.Core.Path.{◌≡◌, refl, sym, ap, ◌∙◌, subst}
use mathlib.Core.Logic.{◌≢◌}
use mathlib.Core.List.{List, [], ◌∷◌}
use Prim.Native.Nat.{ℕ, zero, suc, ◌+◌, ◌≤◌, ◌<◌}
use native.Mathlib.Omega.{arith}
use native.Mathlib.Numerals.{add-one}
use native.Mathlib.Nat.{not-suc-le-zero, le_refl}
use native.Mathlib.Decide.{ℕ_discrete, dec_lt}
use mathlib.Core.Bool.{Bool, true, false}
use lib.Dec.{T}
use lib.ListN.{length, get_or, set, length-map, length-set}
use lib.Seq.{get_or-set_same, get_or-set_other, ext_get_or}
use Rattle.plan.specs.declared.ir.IR.{IR}
use Rattle.plan.specs.Kinds.{ir_number, same_ir}
use Rattle.plan.specs.Sheet.{Step, no_step, step_at}
use Rattle.plan.specs.Graph.{is_cache, key, update_cache_nodes}
use Rattle.storage.specs.Held.{steps_in}
use Rattle.storage.specs.declared.stored.Steps.{Steps}
use Rattle.storage.proofs.Laws.{table_at, length_steps}
use Rattle.plan.specs.Visit.{with_input}
use Rattle.claims.proofs.Stays.{reads_kept}
use Rattle.claims.proofs.StepTable.{has_inputs}
use Rattle.plan.proofs.KindNumbers.{same_kind, in_range}
use Rattle.claims.proofs.Visits.{length_numbered}
use Rattle.claims.proofs.Keys.{key_key, key_cache}
use Rattle.claims.proofs.Merged.{at_numbered}
use Rattle.ir_graph.specs.Turns.{cached}
use Rattle.ir_graph.specs.UpdateCaches.{first_lines, line_met, update_cache_node, Updatable}
use Rattle.ir_graph.proofs.Bounds.{cache_there}

-- One line -----------------------------------------------------------------------------------------------------------------------

module _ (first : List ℕ) (ps : List Step) (m : ℕ) where
  abbrev updated_input : ℕ
  updated_input = get_or (step_at ps (get_or first m 0)).inputs 0 0

  pub not_updated : is_cache ps m ≡ false → ps ≡ update_cache_node first ps m
  unfolding update_cache_node
  not_updated e = rw e

  updated : is_cache ps m ≡ true → set ps m (with_input 0 updated_input (step_at ps m)) ≡ update_cache_node first ps m
  unfolding update_cache_node
  updated e = rw e

  -- whatever does not depend on the inputs themselves
  kept : {A : Type 0} (f : Step → A) → ((v : ℕ) (s : Step) → f (with_input 0 v s) ≡ f s) → (n : ℕ)
      → f (step_at (update_cache_node first ps m) n) ≡ f (step_at ps n)
  unfolding update_cache_node
  kept f e n = by (is_cache ps m)
    where
      by : (b : Bool) → f (step_at (if b then set ps m (with_input 0 updated_input (step_at ps m)) else ps) n) ≡ f (step_at ps n)
      by true = reads_kept f ps m (with_input 0 updated_input (step_at ps m)) (e updated_input (step_at ps m)) n
      by false = refl

  cache_kept : (n : ℕ) → is_cache (update_cache_node first ps m) n ≡ is_cache ps n
  cache_kept = kept (λ s. same_ir s.kind IR.Cache) (λ v s. refl)

  updatable_still : Updatable first ps → Updatable first (update_cache_node first ps m)
  updatable_still u =
      record {
        input = λ n t. kept (λ s. length s.inputs) (λ v s. length-set s.inputs 0 v) n ∙ u.input n (subst T (cache_kept n) t);
        cache = λ n t. subst T (sym (cache_kept (get_or first n 0))) (u.cache n (subst T (cache_kept n) t));
        own = λ n t. u.own n (subst T (cache_kept n) t);
      }

-- where it is stored
module _ (stored : Steps) (first : List ℕ) (m : ℕ) (here : m < stored.count) (u : Updatable first (steps_in stored))
    (e : cached stored.bytes m ≡ true) where
  abbrev ps : List Step
  ps = steps_in stored

  abbrev line : ℕ
  line = get_or first m 0

  caches : T (is_cache ps m) × T (is_cache ps line)
  caches =
      let t = subst T (sym (cache_there stored.bytes stored.count m here ∙ e)) tt in
      (t, u.cache m t)

  pub line_there : line < stored.count
  line_there = omega (arith, length_steps stored.bytes stored.count, has_inputs ps line (omega (arith, u.input line caches.1)))

  pub have_inputs : (1 ≤ length (step_at ps m).inputs) × (1 ≤ length (step_at ps line).inputs)
  have_inputs = (omega (arith, u.input m caches.0), omega (arith, u.input line caches.1))

  pub input_updated : {v : ℕ} {qs : List Step} → v ≡ get_or (step_at ps line).inputs 0 0 → qs ≡ set ps m (with_input 0 v (step_at ps m))
      → qs ≡ update_cache_node first ps m
  input_updated same is =
      is ∙ ap (λ (v : ℕ). set ps m (with_input 0 v (step_at ps m))) same ∙ updated first ps m (cache_there stored.bytes stored.count m here ∙ e)

one_entry : (xs ys : List ℕ) → length xs ≡ 1 → length ys ≡ 1 → set xs 0 (get_or ys 0 0) ≡ ys
one_entry (x ∷ []) (y ∷ []) e f = refl
one_entry [] ys e f = absurd (omega (arith, e))
one_entry (x ∷ x' ∷ xs) ys e f = absurd (omega (arith, e))
one_entry (x ∷ []) [] e f = absurd (omega (arith, f))
one_entry (x ∷ []) (y ∷ y' ∷ ys) e f = absurd (omega (arith, f))

-- The loop -----------------------------------------------------------------------------------------------------------------------

-- k lines
unfoldable pub update_lines : List ℕ → List Step → ℕ → List Step
update_lines first ps zero = ps
update_lines first ps (suc k) = update_cache_node first (update_lines first ps k) k

module _ (first : List ℕ) (ps : List Step) where
  pub no_lines : ps ≡ update_lines first ps 0
  unfolding update_lines
  no_lines = refl

  -- qs are the steps with m lines updated, rs those with one more
  pub next_line : (m : ℕ) (qs rs : List Step) → Updatable first qs → qs ≡ update_lines first ps m → rs ≡ update_cache_node first qs m
      → Updatable first rs × (rs ≡ update_lines first ps (m + 1))
  unfolding update_lines
  next_line m qs rs u e f = (rw f (updatable_still first qs m u), rw (f, add-one, e))

  length_lines : (k : ℕ) → length (update_lines first ps k) ≡ length ps
  unfolding update_lines update_cache_node
  length_lines zero = refl
  length_lines (suc k) = by (is_cache qs k) ∙ length_lines k
    where
      qs : List Step
      qs = update_lines first ps k

      by : (b : Bool) → length (if b then set qs k (with_input 0 (updated_input first qs k) (step_at qs k)) else qs) ≡ length qs
      by true = length-set qs k _
      by false = refl

  -- Line by line or all at once: a line that others take from was met first, so it takes its own input, updated or not --------------

  module _ (u : Updatable first ps) where
    -- line n with the inputs of the line met first
    abbrev after : ℕ → Step → Step
    after n s =
        let met = if same_ir s.kind IR.Cache then step_at ps (line_met first n) else s in
        record { kind = s.kind; a = s.a; b = s.b; c = s.c; inputs = met.inputs; exprs = s.exprs; aggs = s.aggs }

    -- the first k lines are so already, the others as they were
    Lines : ℕ → List Step → Type 0
    Lines k qs = (n : ℕ) → (n < k → step_at qs n ≡ after n (step_at ps n)) × (k ≤ n → step_at qs n ≡ step_at ps n)

    module _ (k : ℕ) (qs : List Step) (size : length qs ≡ length ps) (lines : Lines k qs) where
      abbrev s : Step
      s = step_at ps k

      abbrev first_line : ℕ
      first_line = line_met first k

      taken : T (is_cache ps k) → (step_at qs first_line).inputs ≡ (step_at ps first_line).inputs
      unfolding Lines
      taken t = by (dec_lt first_line k)
        where
          own : (b : Bool) → T b → (if b then step_at ps (line_met first first_line) else step_at ps first_line).inputs ≡ (step_at ps first_line).inputs
          own true c = ap (λ (n : ℕ). (step_at ps n).inputs) (u.own k t)
          own false c = absurd c

          by : Dec (first_line < k) → (step_at qs first_line).inputs ≡ (step_at ps first_line).inputs
          by (yes h) = ap (λ (x : Step). x.inputs) ((lines first_line).0 h) ∙ own (is_cache ps first_line) (u.cache k t)
          by (no h) = ap (λ (x : Step). x.inputs) ((lines first_line).1 (omega arith))

      line_now : step_at (update_cache_node first qs k) k ≡ after k s
      unfolding update_cache_node Lines
      line_now =
          ap (λ (x : Step). step_at (if same_ir x.kind IR.Cache then set qs k (with_input 0 (updated_input first qs k) x) else qs) k) ((lines k).1 (le_refl k))
          ∙ by (is_cache ps k) (λ t. t)
        where
          by : (b : Bool) → (T b → T (is_cache ps k))
              → step_at (if b then set qs k (with_input 0 (updated_input first qs k) s) else qs) k
              ≡ record { kind = s.kind; a = s.a; b = s.b; c = s.c; inputs = (if b then step_at ps first_line else s).inputs; exprs = s.exprs; aggs = s.aggs }
          by true f =
              let t = f tt in
              let there = in_range ps k (ap ir_number (same_kind s.kind IR.Cache t)) in
              get_or-set_same qs k (with_input 0 (updated_input first qs k) s) no_step (omega (arith, size))
              ∙ ap (λ (l : List ℕ). record { kind = s.kind; a = s.a; b = s.b; c = s.c; inputs = l; exprs = s.exprs; aggs = s.aggs })
              (ap (λ (l : List ℕ). set s.inputs 0 (get_or l 0 0)) (taken t) ∙ one_entry s.inputs (step_at ps first_line).inputs (u.input k t) (u.input first_line (u.cache k t)))
          by false f = (lines k).1 (le_refl k)

      other_now : (n : ℕ) → n ≢ k → step_at (update_cache_node first qs k) n ≡ step_at qs n
      unfolding update_cache_node
      other_now n h = by (is_cache qs k)
        where
          by : (b : Bool) → step_at (if b then set qs k (with_input 0 (updated_input first qs k) (step_at qs k)) else qs) n ≡ step_at qs n
          by true = get_or-set_other qs k n (with_input 0 (updated_input first qs k) (step_at qs k)) no_step h
          by false = refl

      lines_next : Lines (suc k) (update_cache_node first qs k)
      unfolding Lines
      lines_next n = by (ℕ_discrete n k)
        where
          by : Dec (n ≡ k) → (n < suc k → step_at (update_cache_node first qs k) n ≡ after n (step_at ps n))
              × (suc k ≤ n → step_at (update_cache_node first qs k) n ≡ step_at ps n)
          by (yes e) = (
            λ h. subst (λ x. step_at (update_cache_node first qs k) x ≡ after x (step_at ps x)) (sym e) line_now,
            λ h. absurd (omega (arith, e)),
          )
          by (no h) = (λ l. other_now n h ∙ (lines n).0 (omega arith), λ l. other_now n h ∙ (lines n).1 (omega arith))

    lines_after : (k : ℕ) → Lines k (update_lines first ps k)
    unfolding update_lines Lines
    lines_after zero n = (λ h. absurd (not-suc-le-zero h), λ h. refl)
    lines_after (suc k) n = lines_next k (update_lines first ps k) (length_lines k) (lines_after k) n

    pub all_lines : (m : ℕ) {qs : List Step} → m ≡ length ps → qs ≡ update_lines first ps m → qs ≡ update_cache_nodes (line_met first) ps
    unfolding update_cache_nodes Lines
    all_lines m e q =
        q ∙ ap (update_lines first ps) e
        ∙ ext_get_or no_step (update_lines first ps (length ps)) (update_cache_nodes (line_met first) ps)
        (length_lines (length ps) ∙ sym (simp (length-map, length_numbered)))
        (λ n h.
        let l : n < length ps = omega (arith, length_lines (length ps)) in
        (lines_after (length ps) n).0 l ∙ sym (at_numbered (λ (k, s). after k s) 0 ps no_step no_step n l ∙ ap (λ (k : ℕ). after k (step_at ps n)) (omega arith)))

-- The line met first -------------------------------------------------------------------------------------------------------------

module _ (sent : List Step) where
  pub line_at : (m : ℕ) → T (is_cache sent m) → line_met (first_lines sent) m ≡ key sent m
  unfolding first_lines
  line_at m t = table_at (key sent) (length sent) m 0 (in_range sent m (ap ir_number (same_kind (step_at sent m).kind IR.Cache t)))

  -- it is a Cache, and was itself met first
  pub first_cache : (m : ℕ) → T (is_cache sent m) → T (is_cache sent (line_met (first_lines sent) m))
  first_cache m t = rw (line_at m t, key_cache sent m) t

  pub first_own : (m : ℕ) → T (is_cache sent m) → line_met (first_lines sent) (line_met (first_lines sent) m) ≡ line_met (first_lines sent) m
  first_own m t = line_at (line_met (first_lines sent) m) (first_cache m t) ∙ ap (key sent) (line_at m t) ∙ key_key sent m ∙ sym (line_at m t)
