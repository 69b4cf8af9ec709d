-- Both passes of the graph: a pass that puts down the roots, and the inputs of each step that it opens, puts down every naming.
use Rattle.std.specs.Prelude.{if◌then◌else◌}
use mathlib.Core.Path.{◌≡◌, refl, ap, sym, subst}
use mathlib.Core.Logic.{◌⊎◌, inl, inr, ◌≢◌}
use Prim.Native.Nat.{ℕ, zero, suc, ◌+◌, ◌≤◌, ◌<◌}
use native.Mathlib.Omega.{arith}
use native.Mathlib.Nat.{le_refl, not-suc-le-zero}
use native.Mathlib.Decide.{dec_lt}
use mathlib.Core.Bool.{Bool, true, false}
use mathlib.Core.List.{List, [], ◌∷◌, Memᴰ}
use lib.Dec.{T, eqb}
use lib.ListN.{length, get_or}
use Rattle.plan.specs.Lists.{sum, numbered, times}
use Rattle.plan.specs.Sheet.{Step, no_step, step_at}
use Rattle.plan.specs.Faults.{named}
use Rattle.plan.specs.Graph.{sinks}
use borrow.Author.Tests.{ne_eqb}
use Rattle.plan.proofs.Counts.{true_of, entry_of, sum_eq, sum_le, sum_numbered, sum_concat, count_none, only}
use Rattle.claims.specs.Plan.{Plan}

-- what the inputs of the open steps weigh, by a weighing of the steps
unfoldable pub followed : (ℕ → ℕ) → List Step → (ℕ → Bool) → ℕ
followed w ps opened = sum (λ (n, s). if opened n then sum w s.inputs else 0) (numbered 0 ps)

part_of : (b : Bool) (k : ℕ) → (if b then k else 0) ≤ k
part_of true k = le_refl k
part_of false k = omega arith

-- what all inputs weigh
sum_named : (w : ℕ → ℕ) (ps : List Step) → sum (λ (n, s). sum w s.inputs) (numbered 0 ps) ≡ sum w (named ps)
unfolding named
sum_named w ps = omega (arith, sum_numbered (λ (s : Step). sum w s.inputs) 0 ps, sum_concat w (λ (s : Step). s.inputs) ps)

module _ (w : ℕ → ℕ) (ps : List Step) (opened : ℕ → Bool) where
  pub followed_le : followed w ps opened ≤ sum w (named ps)
  unfolding followed
  followed_le =
      omega (
        arith,
        sum_le (λ (n, s). if opened n then sum w s.inputs else 0) (λ (n, s). sum w s.inputs) (numbered 0 ps)
            (λ (n, s) _. part_of (opened n) (sum w s.inputs)),
        sum_named w ps,
      )

  -- as much as all, where each step is open or its inputs weigh nothing
  pub followed_all : ((n : ℕ) → n < length ps → T (opened n) ⊎ (sum w (step_at ps n).inputs ≡ 0)) → followed w ps opened ≡ sum w (named ps)
  unfolding followed
  followed_all h =
      omega (
        arith,
        sum_eq (λ (n, s). if opened n then sum w s.inputs else 0) (λ (n, s). sum w s.inputs) (numbered 0 ps) (λ (n, s) m. whole n s m),
        sum_named w ps,
      )
    where
      nothing : (b : Bool) {k : ℕ} → k ≡ 0 → (if b then k else 0) ≡ k
      nothing true e = refl
      nothing false e = sym e

      whole : (n : ℕ) (s : Step) → Memᴰ (n, s) (numbered 0 ps) → (if opened n then sum w s.inputs else 0) ≡ sum w s.inputs
      whole n s m =
          let (i, l, e, v) = entry_of 0 ps no_step (n, s) m in
          let same : i ≡ n = omega arith in
          elim (h n (omega arith)) [
            | inl t ↦ rw (true_of (opened n) t)
            | inr z ↦ nothing (opened n) (subst (λ (x : Step). sum w x.inputs ≡ 0) (sym v) (subst (λ k. sum w (step_at ps k).inputs ≡ 0) (sym same) z))
          ]

  pub followed_none : ((n : ℕ) → opened n ≡ false) → followed w ps opened ≡ 0
  unfolding followed sum
  followed_none h = none_of (numbered 0 ps)
    where
      none_of : (l : List (ℕ × Step)) → sum (λ (n, s). if opened n then sum w s.inputs else 0) l ≡ 0
      none_of [] = refl
      none_of ((n, s) ∷ l) = rw (h n) (omega (arith, none_of l))

-- Opening one step more -----------------------------------------------------------------------------------------------------

-- sums over a numbered list that differ at the entry n
module _ {A : Type 0} (f g : ℕ × A → ℕ) (n : ℕ) (same : (m : ℕ) (a : A) → m ≢ n → f (m, a) ≡ g (m, a)) where
  past_it : (k : ℕ) (l : List A) → n < k → sum f (numbered k l) ≡ sum g (numbered k l)
  unfolding sum numbered
  past_it k [] h = refl
  past_it k (x ∷ l) h = omega (arith, same k x (omega arith), past_it (suc k) l (omega arith))

  at_it : (k i : ℕ) (l : List A) (d : A) → i < length l → n ≡ k + i
      → sum f (numbered k l) + g (n, get_or l i d) ≡ sum g (numbered k l) + f (n, get_or l i d)
  unfolding sum numbered
  at_it k i [] d h e = absurd (not-suc-le-zero h)
  at_it k zero (x ∷ l) d h e =
      let here : n ≡ k = omega arith in
      omega (arith, past_it (suc k) l (omega arith), ap (λ (m : ℕ). f (m, x)) here, ap (λ (m : ℕ). g (m, x)) here)
  at_it k (suc i) (x ∷ l) d h e = omega (arith, same k x (omega arith), at_it (suc k) i l d (omega arith) (omega arith))

pub followed_next : (w : ℕ → ℕ) (ps : List Step) (opened opened' : ℕ → Bool) (n : ℕ) → n < length ps → ((m : ℕ) → m ≢ n → opened' m ≡ opened m)
    → let mine = sum w (step_at ps n).inputs in
    followed w ps opened' + (if opened n then mine else 0) ≡ followed w ps opened + (if opened' n then mine else 0)
unfolding followed
followed_next w ps opened opened' n h same =
    at_it (λ (m, s). if opened' m then sum w s.inputs else 0) (λ (m, s). if opened m then sum w s.inputs else 0) n
    (λ m s k. ap (λ (b : Bool). if b then sum w s.inputs else 0) (same m k)) 0 n ps no_step h (omega arith)

-- The end of a pass -----------------------------------------------------------------------------------------------------------

-- A pass has put down `places`; a step that has all its places is open. Then all steps are, from the highest rank down: whoever names a
-- step has a higher one
module _ (ps : List Step) (plan : Plan ps) (places : List ℕ) (opened : ℕ → Bool) (counted : (w : ℕ → ℕ) → sum w places ≡ sum w (sinks ps) + followed w ps opened)
    (opens : (n : ℕ) → n < length ps → times n places ≡ times n (sinks ps) + times n (named ps) → T (opened n) ⊎ ((step_at ps n).inputs ≡ [])) where
  weightless : (w : ℕ → ℕ) (n : ℕ) → T (opened n) ⊎ ((step_at ps n).inputs ≡ []) → T (opened n) ⊎ (sum w (step_at ps n).inputs ≡ 0)
  unfolding sum
  weightless w n (inl t) = inl t
  weightless w n (inr e) = inr (ap (sum w) e)

  all_open : (f n : ℕ) → length ps ≤ plan.rank n + f → n < length ps → T (opened n) ⊎ ((step_at ps n).inputs ≡ [])
  all_open zero n h l = absurd (omega (arith, plan.ranked n l))
  all_open (suc f) n h l =
      opens n l (omega (arith, counted (only n), followed_all (only n) ps opened (λ m k. by m k (dec_lt (plan.rank n) (plan.rank m)) (λ i. all_open f m (omega arith) k))))
    where
      by : (m : ℕ) → m < length ps → Dec (plan.rank n < plan.rank m) → (plan.rank n < plan.rank m → T (opened m) ⊎ ((step_at ps m).inputs ≡ []))
          → T (opened m) ⊎ (times n (step_at ps m).inputs ≡ 0)
      by m k (yes i) rec = weightless (only n) m (rec i)
      by m k (no i) rec =
          inr (count_none (eqb n) (step_at ps m).inputs
          (λ q j. ne_eqb n q (λ e. let z = subst (λ x. plan.rank x < plan.rank m) (sym e) (plan.lower m q j) in omega arith)))

  pub all_placed : (w : ℕ → ℕ) → sum w places ≡ sum w (sinks ps) + sum w (named ps)
  all_placed w = omega (arith, counted w, followed_all w ps opened (λ n h. weightless w n (all_open (length ps) n (omega arith) h)))
