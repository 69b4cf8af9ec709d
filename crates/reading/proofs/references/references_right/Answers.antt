use Rattle.reading.proofs.Refers.{not_children, not_inputs, all_three}
use Rattle.reading.proofs.references.references_right.Goals as goal

pub returns-then-not-all_children_earlier : goal.returns-then-not-all_children_earlier
returns-then-not-all_children_earlier c = not_children _ _ _ _ c.all_children_earlier.ensures c.if-not-all_children_earlier.true

pub returns-then-not-all_inputs_earlier : goal.returns-then-not-all_inputs_earlier
returns-then-not-all_inputs_earlier c =
    not_inputs _ _ _ _ c.all_children_earlier.ensures (c.all_inputs_earlier.ensures _) c.if-not-all_children_earlier.false c.if-not-all_inputs_earlier.true

pub returns : goal.returns
returns c =
    all_three _ _ _ _ c.all_children_earlier.ensures (c.all_inputs_earlier.ensures _) c.all_exprs_there.ensures c.if-not-all_children_earlier.false c.if-not-all_inputs_earlier.false
