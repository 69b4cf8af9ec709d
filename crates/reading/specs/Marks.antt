-- The marks that the code gives E lines, from the last line to the first.
use Rattle.std.specs.Prelude.{ℕ, zero, suc, ◌-◌, Bool, ◌||◌, not, List, [], leb, get_or, if◌then◌else◌}
use Rattle.plan.specs.declared.aexpr.AExpr.{AExpr}
use Rattle.plan.specs.Kinds.{same_aexpr}
use Rattle.plan.specs.Lists.{rest}
use Rattle.plan.specs.Sheet.{Expr}
use Rattle.storage.specs.Stored.{stored_expr}
use Rattle.reading.specs.Uses.{named_each}

-- what line i marks, given the marks before: a mark is a count above 0
unfoldable pub marked_by : List ℕ → List ℕ → ℕ → List ℕ
marked_by es marks i =
    if leb 1 (get_or marks i 0) then (stored_expr es i).children
    else if same_aexpr (stored_expr es i).kind AExpr.StructEval then rest (stored_expr es i).children
    else []

unfoldable pub marked : List ℕ → List ℕ → ℕ → List ℕ
marked es marks i = named_each marks (marked_by es marks i)

-- after k of n lines
unfoldable pub marks_after : List ℕ → List ℕ → ℕ → ℕ → List ℕ
marks_after marks es n zero = marks
marks_after marks es n (suc k) = marked es (marks_after marks es n k) (n - suc k)

abbrev pub field_marked : List ℕ → ℕ × Expr → Bool
field_marked marks (i, e) = not (same_aexpr e.kind AExpr.StructField) || leb 1 (get_or marks i 0)
