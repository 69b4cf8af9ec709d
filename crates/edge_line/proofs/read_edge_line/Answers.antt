use mathlib.Core.Path.{ap}
use native.Mathlib.Omega.{arith}
use Rattle.std.specs.Prelude.{Some}
use Rattle.edge_line.proofs.EdgeLines.{long_enough, one_said, two_said}
use Rattle.edge_line.proofs.read_edge_line.Goals as goal

pub returns-in_default-clause-line : goal.returns-in_default-clause-line
returns-in_default-clause-line c = λ d b. absurd (omega (arith, c.in_default.len_below, long_enough d c.args.text.now b))

pub returns-then-at3-eq44-clause-line : goal.returns-then-at3-eq44-clause-line
returns-then-at3-eq44-clause-line c =
    λ d b. rw (c.digit.ensures, c.digit-then-at3-eq44.ensures) (ap Some (one_said d c.args.text.now b c.if-at3-eq44.true))

pub returns-clause-line : goal.returns-clause-line
returns-clause-line c =
    λ d b. rw (c.digit-2.ensures, c.digit-3.ensures, c.digit-4.ensures) (ap Some (two_said d c.args.text.now b c.if-at3-eq44.false))
