use Rattle.std.proofs.Common.{rules, arith, ◌≤◌, true, false}
use mathlib.Core.Path.{◌∙◌}
use Rattle.std.proofs.lemmas.Iterator.{first_from_Range}
use Rattle.node_rules.proofs.InEdges.{Other, run_within, run_found}
use Rattle.node_rules.proofs.around.in_edges_of.Goals as goal

pub invariant_of-result : goal.invariant_of-result
invariant_of-result c =
    let other = Other c.args.ends.now c.args.n in
    let start = c.from-from.ensures ∙ c.first_into.ensures in
    let in_row : c.from-from.result ≤ c.args.len = rw start c.requires.1.few in
    let found = first_from_Range _ _ _ _ (other true) (other false) c.find.ensures.ran (λ x q called edges. search rules) (λ x q called. (search rules, λ edges. search rules)) in
    let within = run_within c.args.ends.now c.from-from.result c.args.len c.args.n c.find.result in_row found in
    record { small = c.requires.0.small; order = omega (arith, c.unwrap_or-to.ensures, in_row, within.0); few = omega (arith, c.unwrap_or-to.ensures, within.1, c.requires.0.few) }

pub returns-clause-its_edges : goal.returns-clause-its_edges
returns-clause-its_edges c =
    let other = Other c.args.ends.now c.args.n in
    run_found c.args.ends.now c.args.len _ c.requires.1 c.find.result (c.from-from.ensures ∙ c.first_into.ensures) c.unwrap_or-to.ensures
    (first_from_Range _ _ _ _ (other true) (other false) c.find.ensures.ran (λ x q called edges. search rules) (λ x q called. (search rules, λ edges. search rules)))
