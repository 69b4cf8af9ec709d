use Rattle.std.proofs.Common.{rules}
use Rattle.node_rules.proofs.Arounds.{out_found, around_is}
use Rattle.node_rules.proofs.around.around_step.Goals as goal

pub returns : goal.returns
returns c = λ ends run.
    let e = c.args.edges.now in
    let out = out_found e.bytes e.count c.leaving_edge.result c.is_some_and.result _ c.leaving_edge.ensures.among c.is_some_and.ensures (λ k asked. search rules) in
    around_is ends e.bytes e.count c.args.d run _ (c.leaving_edge.ensures.number ends)
    c.all_unordered.ensures c.unordered_before.ensures c.unordered_before-2.ensures out (c.all_out_unordered.ensures ends)
