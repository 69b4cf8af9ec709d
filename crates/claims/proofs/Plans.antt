-- The plan of a well-formed sheet: how often its steps are named (refusals 7, 8, 12 and 13).
use Rattle.std.specs.Prelude.{if◌then◌else◌}
use mathlib.Core.Path.{◌≡◌, refl, ap, sym, ◌∙◌, subst}
use mathlib.Core.Logic.{inl, ◌≢◌}
use Prim.Native.Nat.{ℕ, zero, suc, ◌+◌, ◌≤◌, ◌<◌}
use native.Mathlib.Omega.{arith}
use native.Mathlib.Decide.{dec_lt}
use mathlib.Core.Bool.{Bool, true, false, ◌&&◌, ◌||◌, not}
use mathlib.Core.List.Memᴰ
use mathlib.Core.List.{List, [], ◌∷◌, map, Memᴰ}
use lib.Dec.{T, eqb, ltb, leb, eqb→eq, leb→le, T_not}
use lib.ListN.{length, get_or-eq_default}
use Rattle.plan.specs.declared.ir.IR.{IR}
use Rattle.plan.specs.Kinds.{ir_number, same_ir}
use Rattle.plan.specs.Lists.{select, sum, numbered, times}
use Rattle.plan.specs.Sheet.{Step, Sheet, no_step, step_at, in_step_table}
use Rattle.plan.specs.Faults.{references_right, inputs_earlier, exprs_there, use_right, named, named_right}
use Rattle.plan.specs.Graph.{sinks, is_cache}
use Rattle.plan.proofs.ListLaws.{and_left, and_right, of_all}
use Rattle.claims.specs.WellFormed.{WellFormed}
use Rattle.claims.specs.Plan.{Plan}
use borrow.Author.Tests.{ne_eqb}
use Rattle.plan.proofs.Booleans.{equal, all_at}
use Rattle.plan.proofs.Counts.{true_of, false_of, T_of, not_both, mem_concat, count_none, times_of, only}
use Rattle.claims.proofs.StepTable.{sort_has_one_input}
use Rattle.plan.proofs.KindNumbers.{same_kind, in_range}
use Rattle.claims.proofs.CacheIds.{one_line_each_id}
use Rattle.claims.proofs.Keys.{both_caches}
use Rattle.plan.proofs.FaultLaws.{step_passes}

-- The roots -------------------------------------------------------------------------------------------------------------------

abbrev pub sinks_from : ℕ → List Step → List ℕ
sinks_from k ps = map (λ (n, s). n) (select (λ (n, s). same_ir s.kind IR.Sink) (numbered k ps))

sinks_cons : (n k : ℕ) (x : Step) (ps : List Step)
    → times n (sinks_from k (x ∷ ps)) ≡ (if same_ir x.kind IR.Sink then only n k else 0) + times n (sinks_from (suc k) ps)
unfolding numbered select sum
sinks_cons n k x ps = by (same_ir x.kind IR.Sink)
  where
    later : List (ℕ × Step)
    later = select (λ (n, s). same_ir s.kind IR.Sink) (numbered (suc k) ps)

    by : (b : Bool) → times n (map (λ (n, s). n) (if b then (k, x) ∷ later else later)) ≡ (if b then only n k else 0) + times n (map (λ (n, s). n) later)
    by true = refl
    by false = omega arith

-- an entry with another number counts nothing
skipped : (n k : ℕ) (x : Step) (ps : List Step) → n ≢ k → times n (sinks_from k (x ∷ ps)) ≡ times n (sinks_from (suc k) ps)
skipped n k x ps h = let e = rw (ne_eqb n k h) at (sinks_cons n k x ps) in by (same_ir x.kind IR.Sink) e
  where
    by : (b : Bool) → times n (sinks_from k (x ∷ ps)) ≡ (if b then 0 else 0) + times n (sinks_from (suc k) ps)
        → times n (sinks_from k (x ∷ ps)) ≡ times n (sinks_from (suc k) ps)
    by true e = omega arith
    by false e = omega arith

not_before : (n k : ℕ) (ps : List Step) → n < k → times n (sinks_from k ps) ≡ 0
unfolding numbered select sum
not_before n k [] h = refl
not_before n k (x ∷ ps) h = skipped n k x ps (omega arith) ∙ not_before n (suc k) ps (omega arith)

sinks_at : (n k i : ℕ) (ps : List Step) → n ≡ k + i → times n (sinks_from k ps) ≡ (if same_ir (step_at ps i).kind IR.Sink then 1 else 0)
unfolding numbered select sum
sinks_at n k i [] e = refl
sinks_at n k zero (x ∷ ps) e =
    let here = rw (true_of (eqb n k) (equal n k (omega arith))) at (sinks_cons n k x ps) in
    omega (arith, here, not_before n (suc k) ps (omega arith))
sinks_at n k (suc i) (x ∷ ps) e = skipped n k x ps (omega arith) ∙ sinks_at n (suc k) i ps (omega arith)

pub sinks_count : (ps : List Step) (n : ℕ) → times n (sinks ps) ≡ (if same_ir (step_at ps n).kind IR.Sink then 1 else 0)
unfolding sinks
sinks_count ps n = sinks_at n 0 n ps (omega arith)

-- Of a plan ---------------------------------------------------------------------------------------------------------------------

module _ (ps : List Step) (plan : Plan ps) where
  pub root_there : (n : ℕ) → Memᴰ n (sinks ps) → n < length ps
  root_there n m = in_range ps n (eqb→eq (ir_number (step_at ps n).kind) 2 (by (same_ir (step_at ps n).kind IR.Sink) (plan.roots n)))
    where
      by : (b : Bool) → times n (sinks ps) ≡ (if b then 1 else 0) → T b
      by true e = tt
      by false e = absurd (omega (arith, times_of n (sinks ps) m))

  pub input_there : (n m : ℕ) → Memᴰ m (step_at ps n).inputs → m < length ps
  input_there = plan.input_there

  -- a Cache is no root
  pub cache_named : (n : ℕ) → T (is_cache ps n) → times n (sinks ps) ≡ 0
  cache_named n t = plan.roots n ∙ ap (λ (k : IR). if same_ir k IR.Sink then 1 else 0) (same_kind (step_at ps n).kind IR.Cache t)

-- Of a well-formed sheet --------------------------------------------------------------------------------------------------------

module _ (sh : Sheet) (w : WellFormed sh) where
  abbrev ps : List Step
  ps = sh.steps

  inputs_all : (n : ℕ) → n < length ps → T (inputs_earlier sh (n, step_at ps n))
  unfolding references_right
  inputs_all n h = and_left (inputs_earlier sh (n, step_at ps n)) (exprs_there sh (n, step_at ps n)) (step_passes (references_right sh) sh w.tested.references n h)

  -- an input is an earlier step, and no Sink
  pub input_right : (n m : ℕ) → Memᴰ m (step_at ps n).inputs → (m < length ps) × (m < n) × (same_ir (step_at ps m).kind IR.Sink ≡ false)
  unfolding inputs_earlier
  input_right n m i = by (dec_lt n (length ps))
    where
      by : Dec (n < length ps) → (m < length ps) × (m < n) × (same_ir (step_at ps m).kind IR.Sink ≡ false)
      by (yes h) =
          let sink = same_ir (step_at ps m).kind IR.Sink in
          let all = inputs_all n h in
          let ok = of_all (λ m. ltb m n && not (same_ir (step_at ps m).kind IR.Sink)) (step_at ps n).inputs all m i in
          let before = leb→le (suc m) n (and_left (ltb m n) (not sink) ok) in
          (omega arith, before, false_of sink (λ s. T_not sink (and_right (ltb m n) (not sink) ok) s))
      by (no h) = absurd (Memᴰ.not-nil (subst (λ (x : Step). Memᴰ m x.inputs) (get_or-eq_default ps no_step (omega arith)) i))

  -- what is not there, or is a Sink, is not named
  unnamed : (n : ℕ) → ¬ ((n < length ps) × (same_ir (step_at ps n).kind IR.Sink ≡ false)) → times n (named ps) ≡ 0
  unfolding named
  unnamed n h =
      count_none (eqb n) (named ps)
      (λ m i.
      let (k, l, j) = mem_concat (λ (s : Step). s.inputs) ps no_step m i in
      let (a, b, c) = input_right k m j in
      ne_eqb n m (λ e. h (subst (λ x. (x < length ps) × (same_ir (step_at ps x).kind IR.Sink ≡ false)) (sym e) (a, c))))

  used_right : (n : ℕ) → n < length ps → T (use_right (step_at ps n).kind (times n (named ps)))
  unfolding named_right
  used_right n h = step_passes (named_right sh) sh w.tested.uses n h

  once_named : (n : ℕ) → T (not (is_cache ps n)) → times n (sinks ps) + times n (named ps) ≤ 1
  once_named n h = by (dec_lt n (length ps))
    where
      there : (a c : Bool) → T (not c) → times n (sinks ps) ≡ (if a then 1 else 0) → (a ≡ true → times n (named ps) ≡ 0)
          → T (a || (leb 1 (times n (named ps)) && (c || leb (times n (named ps)) 1))) → times n (sinks ps) + times n (named ps) ≤ 1
      there true c h e f v = omega (arith, f refl)
      there false true h e f v = absurd h
      there false false h e f v = omega (arith, leb→le (times n (named ps)) 1 (and_right (leb 1 (times n (named ps))) (leb (times n (named ps)) 1) v))

      by : Dec (n < length ps) → times n (sinks ps) + times n (named ps) ≤ 1
      by (yes l) =
          let sink = same_ir (step_at ps n).kind IR.Sink in
          there sink (is_cache ps n) h (sinks_count ps n) (λ a. unnamed n (λ p. not_both sink (T_of sink a) p.1)) (used_right n l)
      by (no l) =
          let past = get_or-eq_default ps no_step {n = n} (omega arith) in
          let none : times n (sinks ps) ≡ 0 = sinks_count ps n ∙ ap (λ (x : Step). if same_ir x.kind IR.Sink then 1 else 0) past in
          omega (arith, none, unnamed n (λ p. l p.0))

  pub rooted_or_named : (n : ℕ) → n < length ps → 1 ≤ times n (sinks ps) + times n (named ps)
  rooted_or_named n h = by (same_ir (step_at ps n).kind IR.Sink) (is_cache ps n || leb (times n (named ps)) 1) (sinks_count ps n) (used_right n h)
    where
      by : (a b : Bool) → times n (sinks ps) ≡ (if a then 1 else 0) → T (a || (leb 1 (times n (named ps)) && b)) → 1 ≤ times n (sinks ps) + times n (named ps)
      by true b e t = omega arith
      by false b e t = omega (arith, leb→le 1 (times n (named ps)) (and_left (leb 1 (times n (named ps))) b t))

  pub plan_of : Plan ps
  plan_of = record {
    roots = sinks_count ps;
    rooted = λ n h. inl (rooted_or_named n h);
    cache_used =
        λ n t.
        let e = same_kind (step_at ps n).kind IR.Cache t in
        let none : times n (sinks ps) ≡ 0 = sinks_count ps n ∙ ap (λ (k : IR). if same_ir k IR.Sink then 1 else 0) e in
        omega (arith, rooted_or_named n (in_range ps n (ap ir_number e)), none);
    once = once_named;
    rank = λ n. n;
    ranked = λ n h. h;
    lower = λ n m i. (input_right n m i).1;
    input_there = λ n m i. (input_right n m i).0;
    one_input = λ n e. sort_has_one_input (step_at ps n) e (all_at in_step_table ps no_step w.steps_in_table n (in_range ps n (ap ir_number e)));
    ids =
        λ k m t.
        let (c, d, e) = both_caches ps k m t in
        one_line_each_id sh w k m (same_kind (step_at ps k).kind IR.Cache c) (same_kind (step_at ps m).kind IR.Cache d) e;
  }
