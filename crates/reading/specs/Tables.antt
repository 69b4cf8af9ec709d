-- The tables of the definition, by a line's numbers.
use Rattle.std.specs.Prelude.{ℕ, ◌+◌, ◌≤◌, Bool, ◌&&◌, ◌||◌, not, eqb, ltb, leb, get_or, List}
use Rattle.plan.specs.Lists.{yes?}
use Rattle.plan.specs.Sheet.{expr_table, step_table}
use Rattle.reading.specs.declared.tables.Range.{Range}
use Rattle.reading.specs.declared.tables.ExprRow.{ExprRow}
use Rattle.reading.specs.declared.tables.StepRow.{StepRow}

abbrev pub between : ℕ → ℕ → Range
between l m = record { least = l; most = m }

abbrev pub within : ℕ → Range → Bool
within n c = leb c.least n && leb n c.most

-- E lines ----------------------------------------------------------------------------------------------------------------

abbrev pub row_of : ℕ × ℕ × ℕ → ExprRow
row_of (l, m, o) = record { children = between l m; option = o }

unfoldable pub row : ℕ → ExprRow
row k = row_of (get_or expr_table k (0, 0, 0))

-- kind, option and the count of children
unfoldable pub expr_kind_fits : ℕ → ℕ → ℕ → Bool
expr_kind_fits k a n = leb a (row k).option && within n (row k).children && (not (eqb k 16 && yes? a) || leb 2 n)

-- kind, S, L, option and the count of children
unfoldable pub expr_numbers_fit : ℕ → ℕ → ℕ → ℕ → ℕ → Bool
expr_numbers_fit k s l a n = ltb k 25 && leb s 1 && leb l 1 && expr_kind_fits k a n

-- P lines ----------------------------------------------------------------------------------------------------------------

abbrev pub limits : ℕ → ℕ × ℕ × ℕ × ℕ × ℕ × ℕ × ℕ × ℕ
limits k = get_or step_table k (0, 0, 0, 0, 0, 0, 0, 0)

unfoldable pub most_a : ℕ → ℕ
most_a k = (limits k).0

unfoldable pub most_b : ℕ → ℕ
most_b k = (limits k).1

unfoldable pub most_c : ℕ → ℕ
most_c k = (limits k).2

unfoldable pub inputs : ℕ → Range
inputs k = between (limits k).3 (limits k).4

unfoldable pub exprs : ℕ → Range
exprs k = between (limits k).5 (limits k).6

unfoldable pub most_aggs : ℕ → ℕ
most_aggs k = (limits k).7

abbrev pub step_row : ℕ → StepRow
step_row k =
    record {
      most_a = most_a k;
      most_b = most_b k;
      most_c = most_c k;
      inputs = inputs k;
      exprs = exprs k;
      most_aggs = most_aggs k;
    }

-- kind, options and the counts of the three lists
unfoldable pub step_kind_fits : ℕ → ℕ → ℕ → ℕ → ℕ → ℕ → ℕ → Bool
step_kind_fits k a b c n1 n2 n3 =
    (leb a (most_a k) && leb b (most_b k) && leb c (most_c k))
    && (within n1 (inputs k) && within n2 (exprs k) && leb n3 (most_aggs k))
    && (not (eqb k 2 && eqb b 0) || eqb n2 0)

-- the same with the count of all numbers
unfoldable pub step_numbers_fit : ℕ → ℕ → ℕ → ℕ → ℕ → ℕ → ℕ → ℕ → Bool
step_numbers_fit k a b c n1 n2 n3 n = ltb k 19 && eqb n (7 + n1 + n2 + n3) && step_kind_fits k a b c n1 n2 n3

-- none of a line's three lists has more than eight entries
pub record FewEntries (n1 n2 n3 : ℕ) : Type 0 where
  pub inputs : n1 ≤ 8
  pub exprs : n2 ≤ 8
  pub aggs : n3 ≤ 8

-- the same of a line's numbers where they stand, with the count of its children and of all of them
abbrev pub expr_line_fits : List ℕ → ℕ → Bool
expr_line_fits v n = expr_numbers_fit (get_or v 0 0) (get_or v 1 0) (get_or v 2 0) (get_or v 3 0) n

abbrev pub step_line_fits : List ℕ → ℕ → Bool
step_line_fits v n =
    step_numbers_fit (get_or v 0 0) (get_or v 1 0) (get_or v 2 0) (get_or v 3 0) (get_or v 4 0) (get_or v 5 0) (get_or v 6 0) n

abbrev pub step_kind_line_fits : ℕ → List ℕ → Bool
step_kind_line_fits k v = step_kind_fits k (get_or v 1 0) (get_or v 2 0) (get_or v 3 0) (get_or v 4 0) (get_or v 5 0) (get_or v 6 0)
