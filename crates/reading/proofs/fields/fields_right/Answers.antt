use Rattle.reading.proofs.Marking.{fields_are}
use Rattle.reading.proofs.fields.fields_right.Goals as goal

pub returns : goal.returns
returns c = fields_are _ _ c.requires c.args.exprs.held.few c.new-marks.ensures c.mark_lines.ensures c.fields_marked.ensures
