-- In a plan every Cache line's id is met by the first pass: the key of a step is the line of its id that is met first.
use Rattle.std.specs.Prelude.{if◌then◌else◌}
use mathlib.Core.Path.{◌≡◌, refl, sym, ◌∙◌, subst}
use mathlib.Core.Logic.{inl, inr}
use Prim.Native.Nat.{ℕ}
use native.Mathlib.Omega.{arith}
use mathlib.Core.Bool.{Bool, true, false}
use mathlib.Core.List.Memᴰ
use mathlib.Core.List.{List, [], ◌∷◌, ◌++◌, map, Memᴰ}
use lib.Dec.{T}
use Rattle.plan.specs.Sheet.{Step}
use Rattle.plan.specs.Graph.{is_cache, one_id, first_met, all_steps, popped, key}
use Rattle.plan.proofs.Counts.{T_of, not_both, stands_in, only}
use Rattle.claims.specs.Plan.{Plan}
use Rattle.claims.proofs.Keys.{same_key, met_other}
use Rattle.claims.proofs.Hits.{popped_all}
use Rattle.claims.proofs.Merged.{merged, merged_cache, popped_keys}
use Rattle.claims.proofs.ByLine as by_line

-- one of n's id stands in the first list: what follows it does not matter
met_front : (ps : List Step) (n m : ℕ) → T (one_id ps m n) → (l later : List ℕ) → Memᴰ m l → first_met ps (l ++ later) n ≡ first_met ps l n
unfolding first_met
met_front ps n m t [] later i = absurd (Memᴰ.not-nil i)
met_front ps n m t (k ∷ l) later i = by (one_id ps k n) refl (λ j. met_front ps n m t l later j)
  where
    by : (b : Bool) → one_id ps k n ≡ b → (Memᴰ m l → first_met ps (l ++ later) n ≡ first_met ps l n)
        → (if b then k else first_met ps (l ++ later) n) ≡ (if b then k else first_met ps l n)
    by true e rec = refl
    by false e rec =
        elim (Memᴰ.cases_cons i) [
          | inl j ↦ absurd (not_both (one_id ps k n) (subst (λ x. T (one_id ps x n)) j t) e)
          | inr j ↦ rec j
        ]

mem_map : (f : ℕ → ℕ) (l : List ℕ) (m : ℕ) → Memᴰ m (map f l) → (q : ℕ) × Memᴰ q l × (m ≡ f q)
mem_map f [] m i = absurd (Memᴰ.not-nil i)
mem_map f (x ∷ l) m i =
    elim (Memᴰ.cases_cons i) [
      | inl e ↦ (x, Memᴰ.head refl, e)
      | inr j ↦ let (q, k, e) = mem_map f l m j in (q, Memᴰ.tail k, e)
    ]

module _ (ps : List Step) (plan : Plan (merged ps)) where
  -- a line of n's id is popped
  met : (n : ℕ) → T (is_cache ps n) → (m : ℕ) × Memᴰ m (popped ps) × T (one_id ps m n)
  met n t =
      let used = plan.cache_used (key ps n) (subst T (sym (merged_cache ps n)) t) in
      let i = stands_in (key ps n) (by_line.popped (merged ps)) (omega (arith, popped_all (merged ps) plan (only (key ps n)), used)) in
      let (m, j, e) = mem_map (key ps) (popped ps) (key ps n) (subst (Memᴰ (key ps n)) (sym (popped_keys ps plan)) i) in
      (m, j, same_key ps m n t (sym e))

  pub key_met : (n : ℕ) → key ps n ≡ first_met ps (popped ps) n
  unfolding key
  key_met n = by (is_cache ps n) refl
    where
      by : (b : Bool) → is_cache ps n ≡ b → first_met ps (popped ps ++ all_steps ps) n ≡ first_met ps (popped ps) n
      by true e = let (m, j, t) = met n (T_of (is_cache ps n) e) in met_front ps n m t (popped ps) (all_steps ps) j
      by false e = met_other ps (popped ps ++ all_steps ps) n e ∙ sym (met_other ps (popped ps) n e)
