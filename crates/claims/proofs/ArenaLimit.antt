-- The arena stays within 128 records: its length, and the Implodes that visits are still to append, never grow together.
use Rattle.std.specs.Prelude.{if◌then◌else◌}
use mathlib.Core.Path.{◌≡◌, refl, ap, ◌∙◌, subst, sym}
use mathlib.Core.Logic.{◌⊎◌, inl, inr}
use Prim.Native.Nat.{ℕ, ◌+◌, ◌≤◌, ◌<◌}
use native.Mathlib.Omega.{arith}
use native.Mathlib.Nat.{le_refl, le_trans}
use native.Mathlib.Decide.{dec_lt}
use mathlib.Core.List.Memᴰ
use mathlib.Core.List.{List, Memᴰ}
use lib.ListN.{length, set, get_or-eq_default}
use Rattle.plan.specs.declared.ir.IR.{IR}
use Rattle.plan.specs.Kinds.{same_ir}
use Rattle.plan.specs.Lists.{sum}
use Rattle.plan.specs.Sheet.{Expr, Step, no_step, step_at, expr_at}
use Rattle.plan.specs.declared.tally.Tally.{Tally}
use Rattle.plan.specs.declared.rules.Options.{Options}
use Rattle.plan.specs.declared.rules.Around.{Around}
use Rattle.plan.specs.Visit.{Run, Looked, looked_in, looks_of, options_of, with_options, with_implodes, ruling_of}
use Rattle.plan.proofs.Settling.{ruled_step}
use Rattle.plan.proofs.ListLaws.{sum_append}
use Rattle.plan.proofs.Counts.{sum_eq, only}
use Rattle.claims.proofs.Sums.{sum_part, sum_set, sum_set_le, sum_beside, below_one}
use Rattle.claims.proofs.Loads.{load, load_own}
use Rattle.claims.proofs.Changes.{earlier_of, changed_formed, changed_length, changed_loads}
use Rattle.claims.proofs.Implodes.{Inside, still_to_append, appended_count}
use Rattle.claims.proofs.Once.{entries, step_load}
use Rattle.claims.proofs.Rules.{AfterRule, ruled_by}
use Rattle.claims.proofs.Scalars.{scalar_at, list_scalar}
use Rattle.claims.proofs.LooksBounded.{once_started}
use Rattle.claims.proofs.VisitLooks.{Sound, inside_of_step, inside_of_member, imploded_start, once_start, exprs_spent, aggs_spent, looks_change}

-- a step that is not there has no entries
no_entries : (w : ℕ → ℕ) (es' : List Expr) (s : Step) (e : Around) (es : List Expr) (looks : Tally) → s ≡ no_step → step_load w es' (looks_of s e es looks).step ≡ 0
unfolding looks_of with_implodes sum
no_entries w es' s e es looks i = subst (λ (x : Step). step_load w es' (looks_of x e es looks).step ≡ 0) (sym i) refl

same_to_append : (es es' : List Expr) (s : Step) → ((q : ℕ) → Memᴰ q s.aggs → (expr_at es' q).scalar ≡ (expr_at es q).scalar) → still_to_append es' s ≡ still_to_append es s
same_to_append es es' s h = ap (λ n. if same_ir s.kind IR.GroupBy then n else 0) (sum_eq _ _ s.aggs (λ q m. ap {B = ℕ} (λ b. if b then 0 else 1) (h q m)))

-- a rule brings no new aggs
rule_leaves : (es : List Expr) (s : Step) (o : Options) → AfterRule (options_of s) o
    → still_to_append es (with_options o s) ≤ still_to_append es s
rule_leaves es s o k =
    elim k.kind [
      | inl i ↦ rw i (le_refl _)
      | inr i ↦ rw i (omega arith)
    ]

module _ (r : Run) (sound : Sound r) (n : ℕ) where
  abbrev l : Looked
  l = looked_in n r

  abbrev es' : List Expr
  es' = l.start.expr_arena

  -- a record in none of the visit's trees keeps its scalar flag, and so does an agg
  scalars_kept : (q : ℕ) → (step_load (only q) es' l.step ≡ 0) ⊎ Memᴰ q l.step.aggs → scalar_at l.end q ≡ scalar_at l.start q
  unfolding looked_in looks_of
  scalars_kept q k =
      let a = exprs_spent r sound n in
      let b = aggs_spent r sound n in
      let g' = (imploded_start r sound n).formed in
      let less = changed_loads a.goes.changes g' (only q) l.step.aggs in
      let parts = sum_append (load (only q) es') l.step.exprs l.step.aggs in
      elim k [
        | inl z ↦
            ap (λ (x : Expr). x.scalar) (b.outside q (omega arith)) ∙ ap (λ (x : Expr). x.scalar) (a.outside q (omega arith))
        | inr m ↦
            let one : step_load (only q) es' l.step ≤ 1 = le_trans (once_start r sound n (only q)) (below_one q (length es')) in
            let own : 1 ≤ sum (load (only q) es') l.step.aggs =
            omega (arith, load_own es' (earlier_of es' g') q, sum_part (load (only q) es') l.step.aggs q m) in
            list_scalar l.step.aggs l.between (changed_formed a.goes.changes g') q (omega arith) m
            ∙ ap (λ (x : Expr). x.scalar) (a.outside q (omega arith))
      ]

  -- an agg of any step is in none of the visit's trees, or is one of its own
  elsewhere_or_own : (x : Step) (q : ℕ) → Memᴰ x (set r.steps n l.step) → Memᴰ q x.aggs
      → (step_load (only q) es' l.step ≡ 0) ⊎ Memᴰ q l.step.aggs
  unfolding looked_in
  elsewhere_or_own x q m k = by (dec_lt n (length r.steps))
    where
      own : 1 ≤ step_load (only q) es' x
      own =
          omega (
            arith,
            load_own es' (earlier_of es' (imploded_start r sound n).formed) q,
            sum_part (load (only q) es') (entries x) q (Memᴰ.append_right x.exprs k),
          )

      by : Dec (n < length r.steps) → (step_load (only q) es' l.step ≡ 0) ⊎ Memᴰ q l.step.aggs
      by (yes h) =
          elim (sum_beside r.steps n l.step x h m) [
            | inl i ↦ inr (subst (λ (y : Step). Memᴰ q y.aggs) i k)
            | inr f ↦ inl (omega (arith, f (step_load (only q) es'), own, once_started r sound n (only q), below_one q (length es')))
          ]
      by (no h) = inl (no_entries (only q) es' _ _ _ _ (get_or-eq_default r.steps no_step (omega arith)))

  -- so the looks leave what is still to append, of every step
  looks_leave : (x : Step) → Memᴰ x (set r.steps n l.step) → still_to_append l.end.expr_arena x ≡ still_to_append es' x
  looks_leave x m = same_to_append es' l.end.expr_arena x (λ q k. scalars_kept q (elsewhere_or_own x q m k))

  count_start : length es' + still_to_append es' l.step ≡ length r.arena + still_to_append r.arena (step_at r.steps n)
  unfolding looked_in looks_of
  count_start =
      let s = step_at r.steps n in
      appended_count s r.arena sound.formed (λ q m. inside_of_step r sound n q (Memᴰ.append_right s.exprs m))

  pub room_settled : length l.end.expr_arena + sum (still_to_append l.end.expr_arena) (set r.steps n (ruled_step n r))
      ≤ length r.arena + sum (still_to_append r.arena) r.steps
  unfolding ruling_of
  room_settled =
      let es = r.arena in
      let end = l.end.expr_arena in
      let s' = ruled_step n r in
      let i = imploded_start r sound n in
      let old : (x : Step) → Inside (entries x) es → still_to_append es' x ≡ still_to_append es x =
      λ x inside. same_to_append es es' x (λ q m. ap (λ (y : Expr). y.scalar) (i.old q (inside q (Memᴰ.append_right x.exprs m)))) in
      omega (
        arith,
        sum_set_le (still_to_append end) r.steps n s' l.step
            (rule_leaves end l.step _ (ruled_by n r)),
        sum_eq (still_to_append end) (still_to_append es') (set r.steps n l.step) looks_leave,
        sum_set (still_to_append es') r.steps no_step n l.step,
        sum_eq (still_to_append es') (still_to_append es) r.steps (λ x m. old x (inside_of_member r sound x m)),
        old (step_at r.steps n) (inside_of_step r sound n),
        count_start,
        changed_length (looks_change r sound n),
      )
