-- What a caller has of a plan that was taken: the definition's sheet, whose lines are those stored.
use Rattle.std.specs.Prelude.{Ok}
use mathlib.Core.Path.{◌≡◌, refl, sym, ap, subst}
use Prim.Native.Nat.{ℕ}
use mathlib.Core.List.{List}
use lib.ListN.{length}
use Rattle.plan.specs.Sheet.{Sheet, Outcome, refused, done, ◌then◌, read}
use Rattle.plan.specs.Faults.{checked}
use Rattle.storage.specs.Stored.{stored_exprs, stored_steps, StepsHeld}
use Rattle.reading.specs.Plan.{plan_of, PlanIs, PlanHeld}
use Rattle.reading.specs.Held.{ExprsHeld}
use Rattle.reading.specs.declared.Counts.{Counts}

pub record ReadPlan (s es ps : List ℕ) (c : Counts) : Type 0 where
  pub sheet : Sheet
  pub accepted : (read s then checked) ≡ done sheet
  pub exprs : stored_exprs es c.exprs ≡ sheet.exprs
  pub steps : stored_steps ps c.steps ≡ sheet.steps
  pub exprs_held : ExprsHeld es c.exprs
  pub steps_held : StepsHeld ps c.steps

module _ (s es ps : List ℕ) (c : Counts) where
  pub read_plan : PlanIs (plan_of s) es ps (Ok c) → PlanHeld es ps (Ok c) → ReadPlan s es ps c
  unfolding plan_of
  read_plan l held = by (plan_of s) refl l
    where
      by : (o : Outcome Sheet) → plan_of s ≡ o → PlanIs o es ps (Ok c) → ReadPlan s es ps c
      by (refused k) p l = absurd (cc)
      by (done sh) p l =
          let q : ◌≡◌ {A = Counts} c (record { exprs = length sh.exprs; steps = length sh.steps }) = (let e = l.answer in cc) in
          let n : length sh.exprs ≡ c.exprs = ap (λ (x : Counts). x.exprs) (sym q) in
          let m : length sh.steps ≡ c.steps = ap (λ (x : Counts). x.steps) (sym q) in
          record {
            sheet = sh;
            accepted = p;
            exprs = subst (λ i. stored_exprs es i ≡ sh.exprs) n l.exprs;
            steps = subst (λ i. stored_steps ps i ≡ sh.steps) m l.steps;
            exprs_held = held.0;
            steps_held = held.1;
          }
