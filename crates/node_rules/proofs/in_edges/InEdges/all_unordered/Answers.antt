use Rattle.std.proofs.Common.{rules, ◌≡◌, true, false, refl}
use Rattle.std.proofs.lemmas.Iterator.{cases_from_all, YieldsList-from_range}
use Rattle.storage.specs.Edges.{mark}
use Rattle.node_rules.proofs.EdgeLaws.{all_answers}
use Rattle.node_rules.proofs.in_edges.InEdges.all_unordered.Goals as goal

pub returns : goal.returns
returns c =
    let m = mark c.args.edges.now.bytes in
    all_answers (λ b. b) m c.args.self.from _ c.all.result
    (cases_from_all _ _ _ (λ k. m k ≡ true) (λ k. m k ≡ false) c.all.ensures.ran (YieldsList-from_range _ _ _ refl refl) (λ x q called. (search rules, search rules)) (λ x q called. search rules))
