use mathlib.Core.Path.{refl, ◌∙◌, ap}
use mathlib.Core.List.{[]}
use Prim.Native.Nat.{◌<◌}
use native.Mathlib.Omega.{arith}
use lib.ListN.{length}
use Rattle.plan.specs.Sheet.{step_at}
use Rattle.plan.specs.Refusals.{refusal_number}
use Rattle.plan.specs.Tally.{visit_more}
use Rattle.std.proofs.lemmas.Result.{err_from_is_err_and}
use Rattle.storage.proofs.Laws.{length_steps, length_arena}
use Rattle.storage.specs.Held.{arena_in, steps_in, edges_in}
use Rattle.simplify_ordering.specs.Held.{run_of}
use Rattle.simplify_ordering.proofs.VisitLaws.{not_zero, listed_of, stops, settle_refused, settle_done, visit_fits}
use Rattle.simplify_ordering.proofs.visit.settle.Goals as goal

pub looks_of-o-requires-clause-earlier : goal.looks_of-o-requires-clause-earlier
looks_of-o-requires-clause-earlier c =
    let a = c.args.run.now.arena in
    λ q m. omega (arith, c.requires.asks.aggs q (rw c.from-i.ensures at m), length_arena a.records.bytes a.lines.holds a.lines.off a.records.count)

pub looks_of-o-requires-clause-listed : goal.looks_of-o-requires-clause-listed
looks_of-o-requires-clause-listed c =
    rw c.from-i.ensures (listed_of c.args.v.ins.of (run_of c.args.run.now c.args.ends.now [] []) c.args.v.around c.requires.finds.around_is c.requires.asks.listed)

-- the looks, as the definition has them
pub returns-in_err-settle_by_rule : goal.returns-in_err-settle_by_rule
returns-in_err-settle_by_rule c =
    let r = c.args.run.now in
    let es = arena_in r.arena in
    let ps = steps_in r.steps in
    let ds = edges_in c.args.ends.now r.edges in
    let f = c.requires.finds in
    let here : c.args.v.ins.of < length ps = omega (arith, f.there, length_steps r.steps.bytes r.steps.count) in
    let g = rw (c.from-i.ensures, f.around_is) at c.looks_of-o.ensures.looked in
    let e = c.in_err-settle_by_rule.field-0.0 in
    let k = c.in_err-settle_by_rule.ensures in
    let p = err_from_is_err_and c.from_residual.result c.from_residual.ensures.1 in
    rw (p.1, p.2)
    (record {
      comes =
          record {
            outcome = λ back removed. settle_refused es ps ds c.args.v r.tally here f.options_are f.around_is _ g.steps_are c.looks_of-o.result g.observable (refusal_number e) k.fault back removed (not_zero e);
            stop = λ back removed. rw (k.unchanged.0, k.unchanged.1, k.counts.0, k.counts.1) (stops es ps ds c.args.v r.tally here f.options_are f.around_is _ g.steps_are _ _ g.arena g.tally_is back removed);
          };
      same_size = (k.counts.0 ∙ c.looks_of-o.ensures.count, k.counts.1);
    })

pub count_visit-requires : goal.count_visit-requires
count_visit-requires c =
    let r = c.args.run.now in
    visit_fits (step_at (steps_in r.steps) c.args.v.ins.of) c.args.v.around (arena_in r.arena) r.tally _ (rw c.from-i.ensures at c.looks_of-o.ensures.looked.tally_is) c.requires.asks.visits

pub returns : goal.returns
returns c =
    let r = c.args.run.now in
    let es = arena_in r.arena in
    let ps = steps_in r.steps in
    let ds = edges_in c.args.ends.now r.edges in
    let f = c.requires.finds in
    let here : c.args.v.ins.of < length ps = omega (arith, f.there, length_steps r.steps.bytes r.steps.count) in
    let g = rw (c.from-i.ensures, f.around_is) at c.looks_of-o.ensures.looked in
    let k = c.in_ok-settle_by_rule.ensures in
    record {
      comes =
          record {
            outcome = λ back removed. settle_done es ps ds c.args.v r.tally here f.options_are f.around_is _ g.steps_are c.looks_of-o.result g.observable 0 k.fault back removed refl _ _ _ _ g.arena (c.count_visit.ensures ∙ ap visit_more g.tally_is) k.ruled;
            stop = λ back removed. tt;
          };
      same_size = (k.counts.0 ∙ c.looks_of-o.ensures.count, k.counts.1);
    }
