use mathlib.Core.Path.{◌∙◌}
use Rattle.std.proofs.Common.{rules, tests}
use Rattle.std.specs.Prelude.{⊤}
use native.Mathlib.Omega.{arith}
use Rattle.std.proofs.lemmas.Iterator.{first_from_Range}
use Rattle.storage.specs.Stored.{stored_step}
use Rattle.reading.specs.Uses.{step_fault_by}
use Rattle.reading.proofs.Names.{Right, Wrong, first_wrong, wrong_there, step_right, step_wrong}
use Rattle.reading.proofs.Refers.{of_steps}
use Rattle.reading.proofs.uses.first_step_fault.Goals as goal

pub refuse_first-requires : goal.refuse_first-requires
refuse_first-requires c =
    wrong_there c.args.steps.count (let h = c.args.steps.held.few in omega arith) _ (first_from_Range _ _ _ _ (λ _. ⊤) (λ _. ⊤) c.find-wrong.ensures.ran (λ x q k. tt) (λ x q k. (search rules, tt)))

pub returns : goal.returns
returns c =
    let m = c.args.namings.now in
    let line = stored_step c.args.steps.bytes.now in
    c.refuse_first.ensures
    ∙ of_steps (step_fault_by m) c.args.steps.bytes.now c.args.steps.count
    (first_wrong (step_fault_by m) line c.args.steps.count m _
    (first_from_Range _ _ _ _ (Wrong (step_fault_by m) line c.args.steps.count m) (Right (step_fault_by m) line c.args.steps.count m) c.find-wrong.ensures.ran
    (λ x q k. step_wrong m x (line x) (search (rules, tests)))
    (λ x q k. (search rules, step_right m x (line x) (search (rules, tests))))))
