use Rattle.simplify_ordering.specs.Held.{run_of}
use Rattle.simplify_ordering.proofs.FetchLaws.{down_asks, down_given}
use Rattle.simplify_ordering.proofs.walks.walk_down.Goals as goal

pub walk-requires-clause-asks : goal.walk-requires-clause-asks
walk-requires-clause-asks c = down_asks c.args.run.now c.args.ends.now _ c.requires

pub returns-clause-down_gives : goal.returns-clause-down_gives
returns-clause-down_gives c =
    down_given c.args.run.now c.args.ends.now _ c.requires (run_of c.walk.new.run c.args.ends.now) c.new.result c.new.ensures c.walk.result c.walk.ensures.gives
