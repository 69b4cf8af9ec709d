use mathlib.Core.Path.{◌≡◌}
use mathlib.Core.Bool.{false}
use Rattle.std.proofs.Common.{rules}
use Rattle.plan.specs.declared.join.JoinType.{JoinType}
use Rattle.plan.specs.declared.join.MaintainOrderJoin.{MaintainOrderJoin}
use Rattle.plan.specs.Kinds.{same_join_type, same_maintain_order}
use Rattle.node_rules.proofs.joins.join_rule.Goals as goal

pub returns : goal.returns
returns c =
    let how = c.of_number-how.result in
    let other : same_join_type how JoinType.AsOf ≡ false = search rules in
    let none : c.eq-2.result ≡ same_maintain_order c.of_number-m.result MaintainOrderJoin.None = search rules in
    let right : c.eq-3.result ≡ same_maintain_order c.pick-m1.result MaintainOrderJoin.Right = search rules in
    let semi : c.eq-4.result ≡ same_join_type how JoinType.Semi = search rules in
    let anti : c.eq-5.result ≡ same_join_type how JoinType.Anti = search rules in
    let left : c.eq-6.result ≡ same_maintain_order c.pick-m2.result MaintainOrderJoin.Left = search rules in
    rw (
      c.ruled-2.ensures,
      c.from.ensures,
      c.pick-m3.ensures,
      c.without_right.ensures,
      left,
      c.pick-m2.ensures,
      c.without_left.ensures,
      right,
      c.pick-m1.ensures,
      none,
      semi,
      anti,
      c.of_number-m.ensures,
      ← c.of_number-how.ensures,
      other,
    )
