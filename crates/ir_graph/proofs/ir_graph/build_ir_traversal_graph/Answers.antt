use Rattle.ir_graph.proofs.FirstPass.{zeros}
use Rattle.ir_graph.proofs.ir_graph.build_ir_traversal_graph.Goals as goal

pub count_hits-requires-clause-no_hits : goal.count_hits-requires-clause-no_hits
count_hits-requires-clause-no_hits c = zeros 32
