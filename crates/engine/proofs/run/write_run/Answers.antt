use Rattle.engine.proofs.RunLaws.{run_wrote}
use Rattle.engine.proofs.run.write_run.Goals as goal

pub returns : goal.returns
returns c =
    run_wrote c.args.run.now c.args.ends.now c.args.removed _ _ _ _ c.write_out.ensures.written c.put_finished.ensures.sheet_wrote c.put_finished.ensures.figures_told
