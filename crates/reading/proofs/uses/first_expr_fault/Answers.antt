use mathlib.Core.Path.{◌∙◌}
use Rattle.std.proofs.Common.{rules, tests}
use Rattle.std.specs.Prelude.{⊤}
use Rattle.std.proofs.lemmas.Iterator.{first_from_Range}
use Rattle.storage.specs.Stored.{stored_expr}
use Rattle.reading.specs.Uses.{expr_fault_by}
use Rattle.reading.proofs.Names.{Right, Wrong, first_wrong, wrong_there, expr_right, expr_wrong}
use Rattle.reading.proofs.Refers.{of_exprs}
use Rattle.reading.proofs.uses.first_expr_fault.Goals as goal

pub refuse_first-requires : goal.refuse_first-requires
refuse_first-requires c = wrong_there c.args.n c.requires _ (first_from_Range _ _ _ _ (λ _. ⊤) (λ _. ⊤) c.find-wrong.ensures.ran (λ x q k. tt) (λ x q k. (search rules, tt)))

pub returns : goal.returns
returns c =
    λ es.
    let m = c.args.namings.now in
    c.refuse_first.ensures
    ∙ of_exprs (expr_fault_by m) es c.args.n
    (first_wrong (expr_fault_by m) (stored_expr es) c.args.n m _
    (first_from_Range _ _ _ _ (Wrong (expr_fault_by m) (stored_expr es) c.args.n m) (Right (expr_fault_by m) (stored_expr es) c.args.n m) c.find-wrong.ensures.ran
    (λ x q k. expr_wrong m x (stored_expr es x) (search (rules, tests)))
    (λ x q k. (search rules, expr_right m x (stored_expr es x) (search (rules, tests))))))
