use native.Mathlib.Omega.{arith}
use mathlib.Core.Path.{refl}
use Rattle.std.proofs.lemmas.Result.{err_from_is_err_and}
use Rattle.plan.specs.declared.refusal.Refusal.{Refusal}
use Rattle.reading.proofs.Names.{some_number}
use Rattle.reading.proofs.Plans.{refuses, no_step, bad_reference, bad_use, bad_id, bad_field, good, taken}
use Rattle.reading.proofs.Refers.{children_first}
use Rattle.reading.proofs.check_plan.Goals as goal

pub returns-then-steps-eq0 : goal.returns-then-steps-eq0
returns-then-steps-eq0 c = (refuses _ _ _ Refusal.NoPlan (no_step _ _ _ _ (omega arith)), tt)

pub returns-then-not-references_right : goal.returns-then-not-references_right
returns-then-not-references_right c = (refuses _ _ _ Refusal.Reference (bad_reference _ _ _ _ c.if-steps-eq0.false c.references_right.ensures c.if-not-references_right.true), tt)

pub returns-in_err-uses_fault : goal.returns-in_err-uses_fault
returns-in_err-uses_fault c =
    let p = err_from_is_err_and c.from_residual.result c.from_residual.ensures.1 in
    rw (p.1, p.2) (
      refuses _ _ _ _
          (bad_use _ _ _ _ c.if-steps-eq0.false c.references_right.ensures c.if-not-references_right.false
          c.in_err-uses_fault.ensures (some_number _)),
      tt,
    )

pub returns-then-not-ids_differ : goal.returns-then-not-ids_differ
returns-then-not-ids_differ c = (
  refuses _ _ _ Refusal.CacheId
      (bad_id _ _ _ _ c.if-steps-eq0.false c.references_right.ensures c.if-not-references_right.false
      c.in_ok-uses_fault.ensures refl c.ids_differ.ensures c.if-not-ids_differ.true),
  tt,
)

pub fields_right-requires : goal.fields_right-requires
fields_right-requires c = children_first _ _ _ _ c.references_right.ensures c.if-not-references_right.false

pub returns-then-not-fields_right : goal.returns-then-not-fields_right
returns-then-not-fields_right c = (
  refuses _ _ _ Refusal.StructField
      (bad_field _ _ _ _ c.if-steps-eq0.false c.references_right.ensures c.if-not-references_right.false
      c.in_ok-uses_fault.ensures refl c.ids_differ.ensures c.if-not-ids_differ.false
      c.fields_right.ensures c.if-not-fields_right.true),
  tt,
)

pub returns : goal.returns
returns c = (
  taken _ _ _ _ _
      (good _ _ _ _ c.if-steps-eq0.false c.references_right.ensures c.if-not-references_right.false
      c.in_ok-uses_fault.ensures refl c.ids_differ.ensures c.if-not-ids_differ.false
      c.fields_right.ensures c.if-not-fields_right.false),
  (c.args.exprs.held, c.args.steps.held),
)
