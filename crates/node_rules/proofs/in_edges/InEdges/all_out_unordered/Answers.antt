use Rattle.std.proofs.Common.{rules, arith, ◌≡◌, true, refl, ◌||◌, not}
use mathlib.Core.Path.{sym}
use Rattle.std.specs.List.{range_with_len}
use mathlib.Core.List.{map}
use Rattle.std.proofs.iter.Yields.{nat_range_steps}
use Rattle.std.proofs.lemmas.Fn.{fold_over}
use Rattle.std.proofs.lemmas.Iterator.{YieldsList-from_range}
use Rattle.plan.specs.Lists.{all?}
use Rattle.plan.specs.Visit.{is_out_of}
use Rattle.storage.specs.Edges.{mark, stored_edge}
use Rattle.node_rules.proofs.EdgeLaws.{folded_none, folded_more, folded}
use Rattle.node_rules.proofs.OutEdges.{loose, loose_is, outs_are}
use Rattle.node_rules.proofs.in_edges.InEdges.all_out_unordered.Goals as goal

pub returns : goal.returns
returns c =
    let e = c.args.edges.now in
    λ ends.
    let test = loose ends e.bytes e.count c.args.self.of in
    let edge = stored_edge ends e.bytes in
    outs_are ends e.bytes e.count c.args.self.of c.fold.result
    (folded test edge 0 e.count c.fold.result
    (fold_over nat_range_steps (λ x. x) _ (λ ks r. r ≡ all? test (map edge ks)) _ (λ ks r k r' q j called. (folded_more test edge ks k r r' (mark e.bytes k || not (is_out_of c.args.self.of (edge k))) j (sym (loose_is ends e.bytes e.count c.args.self.of k)) (search rules), search rules)) (record { start = 0; end = e.count }) (range_with_len 0 e.count) true c.fold.result
    ((YieldsList-from_range 0 e.count e.count refl (omega arith)).runs) (folded_none test edge) c.fold.ensures.ran))
