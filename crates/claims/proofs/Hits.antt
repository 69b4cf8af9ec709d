-- The first pass pops every root and every naming, so that a cache is met as often as it is named.
use Rattle.std.specs.Prelude.{if◌then◌else◌}
use mathlib.Core.Path.{◌≡◌, refl}
use mathlib.Core.Logic.{inl, inr, ◌≢◌}
use Prim.Native.Nat.{ℕ, zero, suc, ◌+◌, ◌≤◌, ◌<◌}
use native.Mathlib.Omega.{arith}
use mathlib.Core.Bool.{Bool, true, false, ◌&&◌, not}
use mathlib.Core.List.Memᴰ
use mathlib.Core.List.{List, [], ◌∷◌, ◌++◌, reverse, Memᴰ}
use lib.Dec.{T}
use lib.ListN.{length, length-append}
use Rattle.plan.specs.Lists.{any?, sum, among, times}
use Rattle.plan.specs.Sheet.{Step, step_at}
use Rattle.plan.specs.Faults.{named}
use Rattle.plan.specs.Graph.{sinks, is_cache, most_places}
use Rattle.plan.proofs.ListLaws.{sum_append}
use Rattle.plan.proofs.Booleans.{T_eq}
use Rattle.plan.proofs.Counts.{true_of, sum_reverse, sum_ones, times_other, times_same, mem_reverse, only, among_times, times_among}
use Rattle.claims.proofs.ByLine.{pushes, pop, popped, hits}
use Rattle.claims.specs.Plan.{Plan}
use Rattle.claims.proofs.Plans.{root_there, input_there, cache_named}
use Rattle.claims.proofs.Reached.{followed, followed_le, followed_none, followed_next, all_placed}

-- The pass ----------------------------------------------------------------------------------------------------------------------

-- what is popped and what waits: the roots, and the inputs of what is popped
abbrev pub Counted : List Step → List ℕ → List ℕ → Type 0
Counted ps met stack = (w : ℕ → ℕ) → sum w met + sum w stack ≡ sum w (sinks ps) + followed w ps (λ n. among n met)

module _ (ps : List Step) (plan : Plan ps) where
  -- a step that was popped before and is no Cache is not popped again
  pushed_once : (met stack : List ℕ) (n : ℕ) → Counted ps met (n ∷ stack) → (w : ℕ → ℕ)
      → sum w (pushes ps met n) + (if among n met then sum w (step_at ps n).inputs else 0) ≡ sum w (step_at ps n).inputs
  unfolding pushes sum
  pushed_once met stack n c w = by (is_cache ps n) (among n met) (plan.once n) (among_times n met)
    where
      inputs : List ℕ
      inputs = (step_at ps n).inputs

      by : (a b : Bool) → (T (not a) → times n (sinks ps) + times n (named ps) ≤ 1) → (T b → 1 ≤ times n met)
          → sum w (if a && b then [] else inputs) + (if b then sum w inputs else 0) ≡ sum w inputs
      by true true f g = omega arith
      by true false f g = omega arith
      by false true f g =
          absurd (omega (arith, f tt, g tt, c (only n), followed_le (only n) ps (λ m. among m met), times_same n stack))
      by false false f g = omega arith

  pub counted_next : (met stack : List ℕ) (n : ℕ) → n < length ps → Counted ps met (n ∷ stack) → Counted ps (met ++ (n ∷ [])) (reverse (pushes ps met n) ++ stack)
  unfolding sum
  counted_next met stack n h c w =
      let ms = pushes ps met n in
      let next = followed_next w ps (λ m. among m met) (λ m. among m (met ++ (n ∷ []))) n h (λ m k. other m k) in
      let mine = rw here at next in
      omega (arith, mine, c w, pushed_once met stack n c w, sum_append w met (n ∷ []), sum_append w (reverse ms) stack, sum_reverse w ms)
    where
      met' : List ℕ
      met' = met ++ (n ∷ [])

      more : (m : ℕ) → times m met' ≡ times m met + times m (n ∷ [])
      more m = sum_append (only m) met (n ∷ [])

      other : (m : ℕ) → m ≢ n → among m met' ≡ among m met
      other m k =
          T_eq (among m met') (among m met)
          (λ t. times_among m met (omega (arith, among_times m met' t, more m, times_other m n [] k)))
          (λ t. times_among m met' (omega (arith, among_times m met t, more m)))

      here : among n met' ≡ true
      here = true_of (among n met') (times_among n met' (omega (arith, more n, times_same n [])))

  -- with a place left for all that waits
  pop_counted : (f : ℕ) (met stack : List ℕ) → length met + f ≡ most_places ps → Counted ps met stack → ((n : ℕ) → Memᴰ n stack → n < length ps)
      → Counted ps (pop f ps met stack) []
  unfolding pop sum pushes
  pop_counted zero met [] h c r = c
  pop_counted zero met (n ∷ stack) h c r =
      absurd (omega (arith, c (λ _. 1), followed_le (λ _. 1) ps (λ m. among m met), sum_ones met, sum_ones (sinks ps), sum_ones (named ps)))
  pop_counted (suc f) met [] h c r = c
  pop_counted (suc f) met (n ∷ stack) h c r =
      pop_counted f (met ++ (n ∷ [])) (reverse (pushes ps met n) ++ stack) (simp length-append (omega arith))
      (counted_next met stack n (r n (Memᴰ.head refl)) c)
      (λ m i.
      elim (Memᴰ.append_cases (reverse (pushes ps met n)) i) [
        | inl j ↦ in_range m (is_cache ps n && among n met) (mem_reverse m (pushes ps met n) j)
        | inr j ↦ r m (Memᴰ.tail j)
      ])
    where
      in_range : (m : ℕ) (b : Bool) → Memᴰ m (if b then [] else (step_at ps n).inputs) → m < length ps
      in_range m true j = absurd (Memᴰ.not-nil j)
      in_range m false j = input_there ps plan n m j

  -- every root and every naming is popped
  pub popped_all : (w : ℕ → ℕ) → sum w (popped ps) ≡ sum w (sinks ps) + sum w (named ps)
  unfolding popped sum any?
  popped_all =
      all_placed ps plan (popped ps) (λ n. among n (popped ps)) (λ w. omega (arith, end w, none w))
      (λ n l e. elim (plan.rooted n l) [ inl h ↦ inl (times_among n (popped ps) (omega arith)) | inr i ↦ inr i ])
    where
      none : (w : ℕ → ℕ) → sum w [] ≡ 0
      none w = refl

      end : Counted ps (popped ps) []
      end =
          pop_counted (most_places ps) [] (reverse (sinks ps)) (omega arith)
          (λ w. omega (arith, none w, sum_reverse w (sinks ps), followed_none w ps (λ n. among n []) (λ n. refl)))
          (λ n m. root_there ps plan n (mem_reverse n (sinks ps) m))

  -- A cache is met as often as it is named
  pub hits_named : (n : ℕ) → T (is_cache ps n) → hits (popped ps) n ≡ times n (named ps)
  hits_named n t = omega (arith, popped_all (only n), cache_named ps plan n t)
