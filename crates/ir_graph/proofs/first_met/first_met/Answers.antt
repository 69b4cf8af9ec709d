use Rattle.std.proofs.Common.{arith, ◌∙◌}
use Rattle.storage.specs.Held.{steps_in}
use Rattle.storage.proofs.Laws.{length_table, length_steps}
use Rattle.plan.specs.Graph.{first_met}
use Rattle.ir_graph.proofs.FirstPass.{zeros}
use Rattle.ir_graph.proofs.FirstMet.{none_noted, one_noted, all_noted}
use Rattle.ir_graph.proofs.first_met.first_met.Goals as goal

pub count_hits-requires-clause-no_hits : goal.count_hits-requires-clause-no_hits
count_hits-requires-clause-no_hits c = zeros 32

pub loop-m-init : goal.loop-m-init
loop-m-init c = c.new-first.ensures ∙ none_noted _

pub push-requires : goal.push-requires
push-requires c = rw c.loop-m.invariant (omega (arith, length_table (first_met (steps_in c.args.steps.now) c.count_hits.new.met.items) 0 c.loop-m.m))

pub first_of_id-requires-clause-met_there : goal.first_of_id-requires-clause-met_there
first_of_id-requires-clause-met_there c =
    rw (c.as_slice.ensures.value, ← length_steps c.args.steps.now.bytes c.args.steps.now.count) c.count_hits.ensures.met_noted.there

pub loop-m-preserved : goal.loop-m-preserved
loop-m-preserved c =
    rw c.push.ensures.items (one_noted _ c.loop-m.m _ c.loop-m.invariant (rw c.as_slice.ensures.value at c.first_of_id.ensures))

pub returns : goal.returns
returns c =
    all_noted c.args.steps.now.bytes c.args.steps.now.count c.requires _ _ c.loop-m.m c.count_hits.ensures.met_noted.order (omega arith) c.loop-m.invariant
