-- The plan of a sheet.
use Rattle.std.specs.Prelude.{Result, Ok, Err}
use mathlib.Core.Path.{◌≡◌, refl, sym, ap, ◌∙◌, subst}
use mathlib.Core.Bool.{Bool, true, false, not}
use mathlib.Core.List.{List}
use Prim.Native.Nat.{ℕ, ◌<◌, ◌≤◌}
use lib.ListN.{length}
use lib.Dec.{eqb}
use borrow.Author.Tests.{lt-ltb, le-ltb, eq-eqb, ne_eqb}
use Rattle.plan.specs.declared.refusal.Refusal.{Refusal}
use Rattle.plan.specs.Refusals.{refusal_number}
use Rattle.plan.specs.Lists.{all?, numbered}
use Rattle.plan.specs.Sheet.{Sheet, Outcome, refused, done, ◌then◌, refuse◌when◌else◌, read, read_lines, parts, no_lines, no_plan}
use Rattle.plan.specs.Faults.{lines, references_right, field_right, checked}
use Rattle.plan.proofs.Checked.{checked_is}
use Rattle.storage.specs.Stored.{stored_expr, stored_step, stored_exprs, stored_steps, StepsHeld}
use Rattle.storage.proofs.Laws.{length_table}
use Rattle.reading.specs.Held.{sheet}
use Rattle.reading.specs.Lines.{Sound}
use Rattle.reading.specs.Plan.{plan_of, checked_plan, PlanIs}
use Rattle.reading.specs.declared.lines.LineCounts.{LineCounts}
use Rattle.reading.specs.declared.Counts.{Counts}
use Rattle.reading.specs.Uses.{uses_fault, ids_once}
use Rattle.reading.proofs.Checks.{no_steps, some_steps}

-- What comes after the last line ---------------------------------------------------------------------------------------------

module _ (es ps : List ℕ) (n m : ℕ) where
  abbrev sh : Sheet
  sh = sheet es n ps m

  pub no_step : m ≡ 0 → checked_plan sh ≡ refused 6
  unfolding checked_plan refuse◌when◌else◌ ◌then◌
  no_step h = rw (checked_plan, no_steps ps m h)

  module _ (h : m ≡ 0 → ⊥) where
    on : checked_plan sh ≡ checked sh
    unfolding checked_plan refuse◌when◌else◌ ◌then◌
    on = rw (checked_plan, some_steps ps m h)

    abbrev fields : Outcome Sheet
    fields = refuse 9 when not (all? (field_right (stored_exprs es n)) (numbered 0 (stored_exprs es n))) else done sh

    passes : checked_plan sh
        ≡ (refuse 7 when not (all? (references_right sh) (lines sh)) else
        refuse uses_fault sh when not (eqb (uses_fault sh) 0) else
        refuse 13 when not (ids_once (stored_steps ps m)) else
        fields)
    unfolding uses_fault ids_once
    passes = on ∙ checked_is sh

    pub bad_reference : {a : Bool} → a ≡ all? (references_right sh) (lines sh) → a ≡ false → checked_plan sh ≡ refused 7
    unfolding refuse◌when◌else◌
    bad_reference e f = passes ∙ rw (← e, f)

    module _ {a : Bool} (e : a ≡ all? (references_right sh) (lines sh)) (f : a ≡ true) where
      pub bad_use : {k : ℕ} → k ≡ uses_fault sh → (k ≡ 0 → ⊥) → checked_plan sh ≡ refused k
      unfolding refuse◌when◌else◌
      bad_use {k} g d = passes ∙ rw (← e, f, ← g, ne_eqb k 0 d)

      module _ {k : ℕ} (g : k ≡ uses_fault sh) (z : k ≡ 0) where
        pub bad_id : {b : Bool} → b ≡ ids_once (stored_steps ps m) → b ≡ false → checked_plan sh ≡ refused 13
        unfolding refuse◌when◌else◌
        bad_id h d = passes ∙ rw (← e, f, ← g, eq-eqb k 0 z, ← h, d)

        module _ {b : Bool} (d : b ≡ ids_once (stored_steps ps m)) (t : b ≡ true) where
          pub bad_field : {c : Bool} → c ≡ all? (field_right (stored_exprs es n)) (numbered 0 (stored_exprs es n)) → c ≡ false → checked_plan sh ≡ refused 9
          unfolding refuse◌when◌else◌
          bad_field i j = passes ∙ rw (← e, f, ← g, eq-eqb k 0 z, ← d, t, ← i, j)

          pub good : {c : Bool} → c ≡ all? (field_right (stored_exprs es n)) (numbered 0 (stored_exprs es n)) → c ≡ true → checked_plan sh ≡ done sh
          unfolding refuse◌when◌else◌
          good i j = passes ∙ rw (← e, f, ← g, eq-eqb k 0 z, ← d, t, ← i, j)

  exprs_length : length (stored_exprs es n) ≡ n
  unfolding stored_exprs
  exprs_length = length_table (stored_expr es) 0 n

  steps_length : length (stored_steps ps m) ≡ m
  unfolding stored_steps
  steps_length = length_table (stored_step ps) 0 m

  pub taken : (o : Outcome Sheet) → o ≡ done sh → PlanIs o es ps (Ok (record { exprs = n; steps = m }))
  taken o e =
      subst (λ x. PlanIs x es ps (Ok (record { exprs = n; steps = m }))) (sym e)
      (record {
        answer = rw (exprs_length, steps_length);
        exprs = ap (stored_exprs es) exprs_length;
        steps = ap (stored_steps ps) steps_length;
      })

pub refuses : (o : Outcome Sheet) (es ps : List ℕ) (e : Refusal) → o ≡ refused (refusal_number e) → PlanIs o es ps (Err e)
refuses o es ps e h = subst (λ x. PlanIs x es ps (Err e)) (sym h) refl

-- The whole sheet ------------------------------------------------------------------------------------------------------------

pub too_long : (s : List ℕ) → 16384 < length s → plan_of s ≡ refused 2
unfolding plan_of read refuse◌when◌else◌ ◌then◌
too_long s h = rw (plan_of, read, lt-ltb 16384 (length s) h)

module _ (s : List ℕ) (h : length s ≤ 16384) where
  whole : (o : Outcome Sheet) → read_lines (parts 10 s) no_lines ≡ o → plan_of s ≡ ((o then λ sh. refuse 6 when no_plan sh else done sh) then checked)
  unfolding plan_of read refuse◌when◌else◌
  whole o e = rw (plan_of, read, le-ltb 16384 (length s) h, e)

  pub bad_line : (k : ℕ) → read_lines (parts 10 s) no_lines ≡ refused k → plan_of s ≡ refused k
  unfolding ◌then◌
  bad_line k e = whole (refused k) e

  pub good_lines : (sh : Sheet) → read_lines (parts 10 s) no_lines ≡ done sh → plan_of s ≡ checked_plan sh
  unfolding ◌then◌ checked_plan
  good_lines sh e = whole (done sh) e

-- what sound bytes hold
pub held_steps : {es ps : List ℕ} {t : LineCounts} → Sound es ps t → length ps ≡ 1024 → StepsHeld ps t.steps
held_steps s size = record { few = s.few_steps; size = size; formed = s.steps }

pub same_plan : (o o' : Outcome Sheet) (es ps : List ℕ) (r : Result Counts Refusal) → o ≡ o' → PlanIs o' es ps r → PlanIs o es ps r
same_plan o o' es ps r e l = subst (λ x. PlanIs x es ps r) (sym e) l
