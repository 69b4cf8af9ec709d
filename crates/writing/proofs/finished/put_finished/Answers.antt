use Rattle.writing.proofs.Over.{then}
use Rattle.writing.proofs.finished.put_finished.Goals as goal

pub returns-clause-sheet_wrote : goal.returns-clause-sheet_wrote
returns-clause-sheet_wrote c =
    let two = then _ _ _ _ _ _ _ c.put_exprs-a.ensures.0 c.put_steps.ensures.0 in
    let three = then _ _ _ _ _ _ _ two c.put_edges.ensures.0 in
    let four = then _ _ _ _ _ _ _ three c.put_tally.ensures.0 in
    record { bytes = four.bytes; exprs = c.put_exprs-a.ensures.0.len; steps = two.len; edges = three.len; all = four.len }
