use Rattle.std.specs.Prelude.{◌+◌, ◌≤◌, drop}
use Rattle.simplify_ordering.specs.Held.{run_of}
use Rattle.simplify_ordering.specs.Run.{SameSize}
use Rattle.simplify_ordering.proofs.WalkLaws.{Walking}
use Rattle.simplify_ordering.proofs.walks.walk.Given as goal

abbrev pub invariant-loop-n : goal.invariant-loop-n
invariant-loop-n l = record {
  same_size : SameSize l.initial.run l.run;
  walking : Walking l.list (drop l.n-index l.list) l.fn.removed (run_of l.initial.run l.ends) (run_of l.run l.ends) l.back;
  stored : 288 ≤ l.back.at + l.n-index;
  counted : l.back.removed.count ≤ l.fn.removed.count + l.n-index;
}
