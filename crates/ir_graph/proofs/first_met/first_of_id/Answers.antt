use Rattle.std.proofs.Common.{rules, arith, sym, ◌∙◌}
use Rattle.storage.specs.Held.{steps_in}
use Rattle.ir_graph.proofs.FirstMet.{met_here, met_later, none_met}
use Rattle.ir_graph.proofs.first_met.first_of_id.Goals as goal

pub returns-then-one_id : goal.returns-then-one_id
returns-then-one_id c =
    sym (met_here (steps_in c.args.steps.now) c.args.met.now c.args.m c.loop-k.k-index (omega arith) (search rules)) ∙ c.loop-k.invariant

pub loop-k-preserved : goal.loop-k-preserved
loop-k-preserved c =
    met_later (steps_in c.args.steps.now) c.args.met.now c.args.m c.loop-k.k-index (omega arith) (search rules) ∙ c.loop-k.invariant

pub returns : goal.returns
returns c =
    sym (none_met (steps_in c.args.steps.now) c.args.met.now c.args.m c.loop-k.k-index (omega arith)) ∙ c.loop-k.invariant
