-- The G lines of edges whose consumer has no mark, as a removed sort has one: these the code leaves in.
use Rattle.std.specs.Prelude.{ℕ, Bool, false, not, List, get_or}
use Rattle.plan.specs.Lists.{concat_map, select}
use Rattle.plan.specs.Graph.{Edge}
use Rattle.plan.specs.Text.{edge_line}
use Rattle.storage.specs.declared.removed.Removed.{Removed}

abbrev pub unmarked : Removed → Edge → Bool
unmarked m d = not (get_or m.marks d.consumer false)

abbrev pub unmarked_lines : Removed → List Edge → List ℕ
unmarked_lines m ds = concat_map edge_line (select (unmarked m) ds)
