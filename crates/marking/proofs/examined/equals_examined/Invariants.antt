use lib.ListN.{length}
use mathlib.Core.List.{List}
use Rattle.plan.specs.Graph.{Edge}
use Rattle.edge_line.specs.EdgeLine.{LinesOf}
use Rattle.marking.proofs.ExaminedLines.{Comparing}
use Rattle.marking.proofs.examined.equals_examined.Given as goal

abbrev pub invariant-loop-line : goal.invariant-loop-line
invariant-loop-line l = (ds : List Edge) → LinesOf ds l.edges → Comparing l.removed l.bytes l.rest l.left ds

abbrev pub decreases-loop-line : goal.decreases-loop-line
decreases-loop-line l = length l.left
