use Rattle.ir_graph.proofs.FirstPass.{zeros}
use Rattle.cases.proofs.graph.graph_agrees.Goals as goal

pub build_ir_traversal_graph-requires-clause-ends_empty : goal.build_ir_traversal_graph-requires-clause-ends_empty
build_ir_traversal_graph-requires-clause-ends_empty c = zeros 544
