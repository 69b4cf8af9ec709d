use mathlib.Core.Path.{refl}
use Rattle.std.proofs.lemmas.Result.{err_from_is_err_and}
use Rattle.simplify_ordering.specs.Held.{run_of}
use Rattle.simplify_ordering.proofs.FetchLaws.{to_the_end, down_stopped, up_asks, up_stopped, up_ended}
use Rattle.simplify_ordering.proofs.walks.simplify_and_fetch_orderings.Goals as goal

pub returns-in_err-down-clause-fetched : goal.returns-in_err-down-clause-fetched
returns-in_err-down-clause-fetched c =
    let p = err_from_is_err_and c.from_residual.result c.from_residual.ensures.1 in
    rw (p.1, p.2) (down_stopped c.args.run.now c.args.ends.now _ c.requires (run_of c.walk_down.new.run c.args.ends.now) _ c.in_err-down.ensures.down_gives)

pub walk-requires-clause-asks : goal.walk-requires-clause-asks
walk-requires-clause-asks c =
    up_asks c.args.run.now c.args.ends.now _ c.requires (run_of c.walk_down.new.run c.args.ends.now) (λ back gone. refl) c.in_ok-down.down c.in_ok-down.ensures.down_gives

pub returns-in_err-up-clause-fetched : goal.returns-in_err-up-clause-fetched
returns-in_err-up-clause-fetched c =
    let p = err_from_is_err_and c.from_residual-in_err-up.result c.from_residual-in_err-up.ensures.1 in
    rw (p.1, p.2)
    (up_stopped c.args.run.now c.args.ends.now _ c.requires (run_of c.walk_down.new.run c.args.ends.now) (λ back gone. refl) c.in_ok-down.down c.in_ok-down.ensures.down_gives (run_of c.walk.new.run c.args.ends.now) _ (to_the_end c.in_ok-down.down) _ c.in_err-up.ensures.gives)

pub returns-clause-fetched : goal.returns-clause-fetched
returns-clause-fetched c =
    up_ended c.args.run.now c.args.ends.now _ c.requires (run_of c.walk_down.new.run c.args.ends.now) (λ back gone. refl) c.in_ok-down.down c.in_ok-down.ensures.down_gives (run_of c.walk.new.run c.args.ends.now) _ (to_the_end c.in_ok-down.down) c.in_ok-up.up c.in_ok-up.ensures.gives
