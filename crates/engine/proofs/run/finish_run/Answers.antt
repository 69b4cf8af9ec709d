use native.Mathlib.Omega.{arith}
use Rattle.claims.proofs.Plans.{plan_of}
use Rattle.storage.proofs.Laws.{length_steps}
use Rattle.ir_graph.proofs.FirstPass.{zeros}
use Rattle.simplify_ordering.specs.Walks.{sheet_of}
use Rattle.engine.proofs.RunLaws.{refused_call, finished_call}
use Rattle.engine.proofs.run.finish_run.Goals as goal

pub build_ir_traversal_graph-requires : goal.build_ir_traversal_graph-requires
build_ir_traversal_graph-requires c = record { plan = plan_of (sheet_of c.args.run.now) c.requires.formed; ends_empty = zeros 544 }

pub simplify_and_fetch_orderings-requires : goal.simplify_and_fetch_orderings-requires
simplify_and_fetch_orderings-requires c =
    let b = c.build_ir_traversal_graph.ensures in
    let s = c.args.run.now.steps in
    rw c.as_slice.ensures.value
    (record {
      formed = c.requires.formed;
      few = b.few_places;
      places_are = b.places_are;
      edges_are = b.edges_are;
      rows = λ m h. b.in_rows m (omega (arith, h, length_steps s.bytes s.count));
    })

pub returns-in-Err : goal.returns-in-Err
returns-in-Err c = record { out_after = refused_call (sheet_of c.args.run.now) c.args.out.now _ c.in-Err.ensures.fetched.0; reports = tt }

pub returns-in-Ok : goal.returns-in-Ok
returns-in-Ok c =
    let (back, gone, ends, are) = c.in-Ok.ensures.fetched in
    record {
      out_after = finished_call (sheet_of c.args.run.now) c.args.out.now _ _ c.in-Ok.removed _ back gone ends are c.write_run-finished.ensures;
      reports = record { whole = _; runs = ends; are = are };
    }
