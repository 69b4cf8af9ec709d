-- The key of a step: of the Cache lines with one id one and the same, of any other step its own line.
use Rattle.std.specs.Prelude.{if◌then◌else◌}
use mathlib.Core.Path.{◌≡◌, refl, ap, sym, ◌∙◌, subst}
use mathlib.Core.Logic.{◌⊎◌, inl, inr}
use Prim.Native.Nat.{ℕ, zero, suc, ◌+◌, ◌≤◌, ◌<◌}
use native.Mathlib.Omega.{arith}
use native.Mathlib.Nat.{not-suc-le-zero}
use mathlib.Core.Bool.{Bool, true, false, ◌&&◌, ◌||◌}
use mathlib.Core.List.Memᴰ
use mathlib.Core.List.{List, [], ◌∷◌, ◌++◌, map, Memᴰ}
use lib.Dec.{T, eqb, eqb→eq}
use lib.ListN.{length}
use Rattle.plan.specs.Kinds.{ir_number}
use Rattle.plan.specs.Lists.{any?, numbered}
use Rattle.plan.specs.Sheet.{Step, step_at}
use Rattle.plan.specs.Graph.{is_cache, one_id, first_met, all_steps, popped, key}
use Rattle.plan.proofs.ListLaws.{and_left, and_right}
use Rattle.plan.proofs.Booleans.{T_eq, and_both, equal}
use Rattle.plan.proofs.Counts.{true_of, T_of, not_both}
use Rattle.plan.proofs.KindNumbers.{in_range}

module _ (ps : List Step) where
  abbrev id : ℕ → ℕ
  id n = (step_at ps n).a

  -- Lines with one id -------------------------------------------------------------------------------------------------------------

  pub both_caches : (k m : ℕ) → T (one_id ps k m) → T (is_cache ps k) × T (is_cache ps m) × (id k ≡ id m)
  both_caches k m t =
      let c = and_left (is_cache ps k && is_cache ps m) (eqb (id k) (id m)) t in (
        and_left (is_cache ps k) (is_cache ps m) c,
        and_right (is_cache ps k) (is_cache ps m) c,
        eqb→eq (id k) (id m) (and_right (is_cache ps k && is_cache ps m) (eqb (id k) (id m)) t),
      )

  pub of_one_id : (k m : ℕ) → T (is_cache ps k) → T (is_cache ps m) → id k ≡ id m → T (one_id ps k m)
  of_one_id k m c d e =
      and_both (is_cache ps k && is_cache ps m) (eqb (id k) (id m)) (and_both (is_cache ps k) (is_cache ps m) c d) (equal (id k) (id m) e)

  pub turned : (k m : ℕ) → T (one_id ps k m) → T (one_id ps m k)
  turned k m t = let (c, d, e) = both_caches k m t in of_one_id m k d c (sym e)

  pub through : (k m n : ℕ) → T (one_id ps k m) → T (one_id ps m n) → T (one_id ps k n)
  through k m n t u =
      let (c, _, e) = both_caches k m t in
      let (_, d, f) = both_caches m n u in
      of_one_id k n c d (e ∙ f)

  -- The line met first --------------------------------------------------------------------------------------------------------------

  -- n's own, or one of its id that stands in the list
  pub met_one : (l : List ℕ) (n : ℕ) → (first_met ps l n ≡ n) ⊎ (T (one_id ps (first_met ps l n) n) × Memᴰ (first_met ps l n) l)
  unfolding first_met
  met_one [] n = inl refl
  met_one (k ∷ l) n = by (one_id ps k n) (λ t. t) (met_one l n)
    where
      by : (b : Bool) → (T b → T (one_id ps k n)) → (first_met ps l n ≡ n) ⊎ (T (one_id ps (first_met ps l n) n) × Memᴰ (first_met ps l n) l)
          → let m = if b then k else first_met ps l n in (m ≡ n) ⊎ (T (one_id ps m n) × Memᴰ m (k ∷ l))
      by true f rec = inr (f tt, Memᴰ.head refl)
      by false f (inl e) = inl e
      by false f (inr (t, m)) = inr (t, Memᴰ.tail m)

  -- one line for one id
  met_same : (l : List ℕ) (n m : ℕ) → T (one_id ps n m) → Memᴰ n l → first_met ps l n ≡ first_met ps l m
  unfolding first_met
  met_same [] n m t i = absurd (Memᴰ.not-nil i)
  met_same (k ∷ l) n m t i =
      by (one_id ps k n) (one_id ps k m) (T_eq (one_id ps k n) (one_id ps k m) (λ u. through k n m u t) (λ u. through k m n u (turned n m t))) refl
      (Memᴰ.cases_cons i) (λ j. met_same l n m t j)
    where
      by : (b c : Bool) → b ≡ c → one_id ps k n ≡ b → (n ≡ k) ⊎ Memᴰ n l → (Memᴰ n l → first_met ps l n ≡ first_met ps l m)
          → (if b then k else first_met ps l n) ≡ (if c then k else first_met ps l m)
      by true true e f j rec = refl
      by true false e f j rec = absurd (not_both true tt e)
      by false true e f j rec = absurd (not_both true tt (sym e))
      by false false e f (inl j) rec =
          let own = of_one_id n n (both_caches n m t).0 (both_caches n m t).0 refl in
          absurd (not_both (one_id ps k n) (subst (λ x. T (one_id ps x n)) j own) f)
      by false false e f (inr j) rec = rec j

  pub met_other : (l : List ℕ) (n : ℕ) → is_cache ps n ≡ false → first_met ps l n ≡ n
  met_other l n e = elim (met_one l n) [ inl i ↦ i | inr (t, _) ↦ absurd (not_both (is_cache ps n) (both_caches _ n t).1 e) ]

  -- n's own, where none of its id stands before it
  pub met_here : (met later : List ℕ) (n : ℕ) → T (is_cache ps n) → any? (λ k. one_id ps k n) met ≡ false → first_met ps (met ++ (n ∷ later)) n ≡ n
  unfolding first_met any?
  met_here [] later n c e = rw (true_of (one_id ps n n) (of_one_id n n c c refl))
  met_here (k ∷ met) later n c e = by (one_id ps k n) e (λ i. met_here met later n c i)
    where
      by : (b : Bool) → b || any? (λ k. one_id ps k n) met ≡ false → (any? (λ k. one_id ps k n) met ≡ false → first_met ps (met ++ (n ∷ later)) n ≡ n)
          → (if b then k else first_met ps (met ++ (n ∷ later)) n) ≡ n
      by true e rec = absurd (not_both true tt e)
      by false e rec = rec e

  -- Keys --------------------------------------------------------------------------------------------------------------------------

  line_from : {A : Type 0} (k n : ℕ) (l : List A) → n < length l → Memᴰ (k + n) (map (λ (i, s). i) (numbered k l))
  unfolding numbered
  line_from k n [] h = absurd (not-suc-le-zero h)
  line_from k zero (x ∷ l) h = let e : k + 0 ≡ k = omega arith in Memᴰ.head e
  line_from k (suc n) (x ∷ l) h = Memᴰ.tail (subst (λ m. Memᴰ m (map (λ (i, s). i) (numbered (suc k) l))) (omega arith) (line_from (suc k) n l (omega arith)))

  cache_there : (n : ℕ) → T (is_cache ps n) → n < length ps
  cache_there n t = in_range ps n (eqb→eq (ir_number (step_at ps n).kind) 18 t)

  listed : (n : ℕ) → T (is_cache ps n) → Memᴰ n (popped ps ++ all_steps ps)
  unfolding all_steps
  listed n t = Memᴰ.append_right (popped ps) (subst (λ m. Memᴰ m (map (λ (i, s). i) (numbered 0 ps))) (omega arith) (line_from 0 n ps (cache_there n t)))

  pub key_other : (n : ℕ) → is_cache ps n ≡ false → key ps n ≡ n
  unfolding key
  key_other = met_other (popped ps ++ all_steps ps)

  -- Cache lines with one id have one key
  pub key_same : (n m : ℕ) → T (one_id ps n m) → key ps n ≡ key ps m
  unfolding key
  key_same n m t = met_same (popped ps ++ all_steps ps) n m t (listed n (both_caches n m t).0)

  -- which is a line with that id
  pub key_id : (n : ℕ) → T (is_cache ps n) → T (one_id ps (key ps n) n)
  unfolding key
  key_id n t =
      elim (met_one (popped ps ++ all_steps ps) n) [
        | inl e ↦ subst (λ m. T (one_id ps m n)) (sym e) (of_one_id n n t t refl)
        | inr (u, _) ↦ u
      ]

  -- a key is a step
  pub key_there : (n : ℕ) {k : ℕ} → length ps ≤ k → n < k → key ps n < k
  unfolding key
  key_there n h l =
      elim (met_one (popped ps ++ all_steps ps) n) [
        | inl e ↦ omega (arith, e)
        | inr (t, _) ↦ omega (arith, cache_there (first_met ps (popped ps ++ all_steps ps) n) (both_caches _ n t).0)
      ]

  pub key_key : (n : ℕ) → key ps (key ps n) ≡ key ps n
  key_key n = by (is_cache ps n) (λ t. key_same (key ps n) n (key_id n t)) (λ e. ap (key ps) (key_other n e)) refl
    where
      by : (b : Bool) → (T (is_cache ps n) → key ps (key ps n) ≡ key ps n) → (is_cache ps n ≡ false → key ps (key ps n) ≡ key ps n)
          → is_cache ps n ≡ b → key ps (key ps n) ≡ key ps n
      by true f g e = f (T_of (is_cache ps n) e)
      by false f g e = g e

  pub key_cache : (n : ℕ) → is_cache ps (key ps n) ≡ is_cache ps n
  key_cache n = by (is_cache ps n) refl
    where
      by : (b : Bool) → is_cache ps n ≡ b → is_cache ps (key ps n) ≡ is_cache ps n
      by true e =
          true_of (is_cache ps (key ps n)) (both_caches (key ps n) n (key_id n (T_of (is_cache ps n) e))).0 ∙ sym e
      by false e = ap (is_cache ps) (key_other n e)

  -- lines with one key have one id
  pub same_key : (k n : ℕ) → T (is_cache ps n) → key ps k ≡ key ps n → T (one_id ps k n)
  same_key k n t e =
      let c = subst T (sym (key_cache n) ∙ ap (is_cache ps) (sym e) ∙ key_cache k) t in
      through k (key ps k) n (turned (key ps k) k (key_id k c)) (subst (λ x. T (one_id ps x n)) (sym e) (key_id n t))
