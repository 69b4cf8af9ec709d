-- What a test selects from a list, where that is a run of its entries.
use Rattle.std.specs.Prelude.{if◌then◌else◌}
use mathlib.Core.Path.{◌≡◌, refl}
use Prim.Native.Nat.{ℕ, ◌+◌, ◌-◌, ◌≤◌, ◌<◌}
use native.Mathlib.Omega.{arith}
use native.Mathlib.Decide.{dec_lt}
use mathlib.Core.Bool.{Bool, true, false}
use mathlib.Core.List.{List, [], ◌∷◌}
use lib.Dec.{T}
use lib.ListN.{length, get_or, take, drop, length-take, length-drop, take-append-drop}
use lib.Seq.{get_or-take, get_or-drop}
use Rattle.plan.specs.Lists.{select, all?, sum}
use Rattle.plan.proofs.ListLaws.{sum_append}
use Rattle.plan.proofs.Booleans.{and_both, all_at}
use Rattle.plan.proofs.Counts.{T_of, mem_at, count, counted_in}

module _ {A : Type 0} (p : A → Bool) where
  -- what is selected passes, and is all that is counted
  all_pass : (l : List A) → T (all? p (select p l))
  unfolding select all?
  all_pass [] = tt
  all_pass (x ∷ l) = by (p x) refl (all_pass l)
    where
      by : (b : Bool) → p x ≡ b → T (all? p (select p l)) → T (all? p (if b then x ∷ select p l else select p l))
      by true e t = and_both (p x) (all? p (select p l)) (T_of (p x) e) t
      by false e t = t

  all_counted : (l : List A) → count p (select p l) ≡ count p l
  unfolding select sum
  all_counted [] = refl
  all_counted (x ∷ l) = by (p x) refl (all_counted l)
    where
      by : (b : Bool) → p x ≡ b → count p (select p l) ≡ count p l → count p (if b then x ∷ select p l else select p l) ≡ (if b then 1 else 0) + count p l
      by true e r = rw e (omega (arith, r))
      by false e r = omega (arith, r)

  -- the entries selected are the c from number f on
  module _ (l : List A) (d : A) (f c : ℕ) (run : select p l ≡ take c (drop f l)) (k : ℕ) where
    pub passes_in : f + c ≤ length l → f ≤ k → k < f + c → T (p (get_or l k d))
    passes_in h a b =
        let at : f + (k - f) ≡ k = omega arith in
        let t = all_at p (take c (drop f l)) d (rw run at (all_pass l)) (k - f) (simp (length-take, length-drop) (omega arith)) in
        rw (get_or-take c (drop f l) (k - f) d (omega arith), get_or-drop f l (k - f) d, at) at t

    -- none is left to count before them or behind them
    none_else : (count p (take f l) ≡ 0) × (count p (drop c (drop f l)) ≡ 0)
    none_else =
        let each : A → ℕ = λ a. if p a then 1 else 0 in
        let whole = rw (take-append-drop f l) at (sum_append each (take f l) (drop f l)) in
        let rest = rw (take-append-drop c (drop f l)) at (sum_append each (take c (drop f l)) (drop c (drop f l))) in
        let run_counted = rw run at (all_counted l) in
        (omega arith, omega arith)

    pub passes_only : k < length l → T (p (get_or l k d)) → (f ≤ k) × (k < f + c)
    passes_only h t = (not_before (dec_lt k f), not_behind (dec_lt k (f + c)))
      where
        not_before : Dec (k < f) → f ≤ k
        not_before (yes b) =
            let m = rw (get_or-take f l k d b) at (mem_at (take f l) k d (simp length-take (omega arith))) in
            absurd (omega (arith, none_else.0, counted_in p (take f l) (get_or l k d) m t))
        not_before (no b) = omega arith

        not_behind : Dec (k < f + c) → k < f + c
        not_behind (yes b) = b
        not_behind (no b) =
            let j = k - f - c in
            let at : f + (c + j) ≡ k = omega arith in
            let m = mem_at (drop c (drop f l)) j d (simp length-drop (omega arith)) in
            let m' = rw (get_or-drop c (drop f l) j d, get_or-drop f l (c + j) d, at) at m in
            absurd (omega (arith, none_else.1, counted_in p (drop c (drop f l)) (get_or l k d) m' t))
