-- A G line at the front of a text, and G lines that are a whole text.
use Rattle.std.specs.Prelude.{◌≡◌, ℕ, not, List, ◌++◌, length}
use mathlib.Core.List.{Memᴰ}
use Rattle.plan.specs.Lists.{concat_map}
use Rattle.plan.specs.Graph.{Edge}
use Rattle.plan.specs.Text.{edge_line}
use Rattle.claims.specs.Limits.{ShortEdge}
use Rattle.edge_line.specs.declared.EdgeLine.{EdgeLine}

-- what d's G line says, and how long it is
abbrev pub said_of : Edge → EdgeLine
said_of d = record { consumer = d.consumer; slot = d.slot; ordered = not d.unordered; length = length (edge_line d) }

-- the text begins with d's G line
pub record Begins (d : Edge) (text : List ℕ) : Type 0 where
  pub short : ShortEdge d
  pub behind : List ℕ
  pub is : text ≡ edge_line d ++ behind

-- the text is the G lines of ds
pub record LinesOf (ds : List Edge) (text : List ℕ) : Type 0 where
  pub short : (d : Edge) → Memᴰ d ds → ShortEdge d
  pub is : text ≡ concat_map edge_line ds
