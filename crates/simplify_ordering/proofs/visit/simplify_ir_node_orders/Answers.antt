use mathlib.Core.Path.{sym, ◌∙◌, subst}
use mathlib.Core.List.{[]}
use native.Mathlib.Omega.{arith}
use lib.Dec.{T}
use Rattle.storage.specs.Held.{arena_in, steps_in, edges_in}
use Rattle.simplify_ordering.specs.Held.{run_of}
use Rattle.simplify_ordering.proofs.VisitLaws.{tests_read, goes_is, goes_on, goes_away, here_is, edges_held, unlinkable, settle_asked}
use Rattle.simplify_ordering.proofs.visit.simplify_ir_node_orders.Goals as goal

pub options-options-requires : goal.options-options-requires
options-options-requires c = rw c.from.ensures (here_is c.args.run.now c.args.ends.now c.args.n c.requires.visitable)

pub in_edges_of-ins-requires : goal.in_edges_of-ins-requires
in_edges_of-ins-requires c =
    let r = c.args.run.now in
    let here = here_is r c.args.ends.now c.args.n c.requires.visitable in
    (record { few = r.edges.few; small = omega (arith, r.steps.held.few, here) }, c.requires.rows c.args.n here)

pub unlink_node-requires : goal.unlink_node-requires
unlink_node-requires c =
    let r = c.args.run.now in
    let ends = c.args.ends.now in
    let tests = tests_read (steps_in r.steps) (edges_in ends r.edges) c.args.n _ _ (rw c.from.ensures at c.options-options.ensures) (rw c.in_edges_of-ins.ensures.its_step at (c.around_step-around.ensures ends c.in_edges_of-ins.ensures.its_edges)) c.goes.result c.goes.ensures in
    let sort = subst T (sym c.if-goes.true ∙ goes_is (arena_in r.arena) (steps_in r.steps) (edges_in ends r.edges) c.args.n r.tally c.goes.result tests [] []) tt in
    record { edges_held = (edges_held r ends c.args.n c.requires.visitable, c.in_edges_of-ins.ensures.its_edges); unlinkable = rw c.in_edges_of-ins.ensures.its_step (unlinkable r ends c.args.n c.requires.visitable sort) }

pub returns-then-goes : goal.returns-then-goes
returns-then-goes c =
    let r = c.args.run.now in
    let ends = c.args.ends.now in
    let tests = tests_read (steps_in r.steps) (edges_in ends r.edges) c.args.n _ _ (rw c.from.ensures at c.options-options.ensures) (rw c.in_edges_of-ins.ensures.its_step at (c.around_step-around.ensures ends c.in_edges_of-ins.ensures.its_edges)) c.goes.result c.goes.ensures in
    record {
      comes = record {
        outcome = λ back removed. goes_away (arena_in r.arena) (steps_in r.steps) (edges_in ends r.edges) c.args.n r.tally c.goes.result tests back removed c.if-goes.true _ _ _ c.count_visit.ensures (rw c.in_edges_of-ins.ensures.its_step at c.unlink_node.ensures.unlinked);
        stop = λ back removed. tt;
      };
      same_size = (c.unlink_node.ensures.steps_count, c.unlink_node.ensures.edges_count);
    }

-- the step as this visit finds it
pub settle-requires : goal.settle-requires
settle-requires c =
    let r = c.args.run.now in
    let ends = c.args.ends.now in
    let ins = c.in_edges_of-ins.ensures in
    record {
      finds = record { there = rw ins.its_step (here_is r ends c.args.n c.requires.visitable); options_are = rw ins.its_step (rw c.from.ensures at c.options-options.ensures); run = ins.its_edges; around_is = c.around_step-around.ensures ends ins.its_edges };
      asks = rw ins.its_step (settle_asked c.args.n (run_of r ends [] []) c.requires.visitable);
    }

pub returns : goal.returns
returns c =
    let r = c.args.run.now in
    let ends = c.args.ends.now in
    let tests = tests_read (steps_in r.steps) (edges_in ends r.edges) c.args.n _ _ (rw c.from.ensures at c.options-options.ensures) (rw c.in_edges_of-ins.ensures.its_step at (c.around_step-around.ensures ends c.in_edges_of-ins.ensures.its_edges)) c.goes.result c.goes.ensures in
    let settled = rw c.in_edges_of-ins.ensures.its_step at c.settle.ensures.comes in
    record {
      comes = record {
        outcome = λ back removed. goes_on (arena_in r.arena) (steps_in r.steps) (edges_in ends r.edges) c.args.n r.tally c.goes.result tests back removed c.if-goes.false ∙ settled.outcome back removed;
        stop = settled.stop;
      };
      same_size = c.settle.ensures.same_size;
    }
