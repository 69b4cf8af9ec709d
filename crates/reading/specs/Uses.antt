-- Namings: a count for each of 256 numbers, up to 2.
use Rattle.std.specs.Prelude.{Option, None, Some, ℕ, ◌+◌, Bool, ◌||◌, not, List, [], ◌∷◌, ◌++◌, map, eqb, ltb, get_or, set, replicate, if◌then◌else◌}
use Rattle.plan.specs.declared.ir.IR.{IR}
use Rattle.plan.specs.Kinds.{same_ir}
use Rattle.plan.specs.Lists.{all?, concat_map, numbered, times}
use Rattle.plan.specs.Sheet.{Expr, Step, Sheet}
use Rattle.plan.specs.Faults.{lines, exprs_named, named, use_right, use_number, id_right, use_fault, first_fault}

-- no number is named
abbrev pub none_named : List ℕ
none_named = replicate 256 0

-- the counts with one more naming of q
unfoldable pub named_once : List ℕ → ℕ → List ℕ
named_once counts q = if ltb (get_or counts q 0) 2 then set counts q (get_or counts q 0 + 1) else counts

-- with one more of each of the names
unfoldable pub named_each : List ℕ → List ℕ → List ℕ
named_each counts [] = counts
named_each counts (q ∷ names) = named_each (named_once counts q) names

unfoldable pub all_children : List Expr → List ℕ
all_children es = concat_map (λ (e : Expr). e.children) es

unfoldable pub all_both : List Step → List ℕ
all_both ss = concat_map (λ (s : Step). s.exprs ++ s.aggs) ss

-- the id of a Cache
abbrev pub id_of : Step → List ℕ
id_of s = if same_ir s.kind IR.Cache then s.a ∷ [] else []

-- The pass behind 8 and 12 ------------------------------------------------------------------------------------------------

-- how often a number is named, by the names or by the counts
abbrev pub by_names : List ℕ → ℕ → ℕ
by_names names i = times i names

abbrev pub by_counts : List ℕ → ℕ → ℕ
by_counts counts i = get_or counts i 0

-- one line's number, where `count` says how often
abbrev expr_fault_where : (ℕ → ℕ) → ℕ × Expr → ℕ
expr_fault_where count (i, e) = if eqb (count i) 1 then 0 else use_number (count i)

abbrev step_fault_where : (ℕ → ℕ) → ℕ × Step → ℕ
step_fault_where count (n, s) = if use_right s.kind (count n) then 0 else use_number (count n)

abbrev pub expr_fault_in : List ℕ → ℕ × Expr → ℕ
expr_fault_in names = expr_fault_where (by_names names)

abbrev pub step_fault_in : List ℕ → ℕ × Step → ℕ
step_fault_in names = step_fault_where (by_names names)

abbrev pub expr_fault_by : List ℕ → ℕ × Expr → ℕ
expr_fault_by counts = expr_fault_where (by_counts counts)

abbrev pub step_fault_by : List ℕ → ℕ × Step → ℕ
step_fault_by counts = step_fault_where (by_counts counts)

-- by the first line that is not named rightly, if there is one
abbrev pub first_number : List ℕ → Option ℕ → ℕ
first_number counts None = 0
first_number counts (Some i) = use_number (get_or counts i 0)

-- what the pass comes to, 0 if no line is at fault: over all lines, over the E lines, over the P lines
unfoldable pub uses_fault : Sheet → ℕ
uses_fault sh = first_fault (map (use_fault sh) (lines sh))

unfoldable pub exprs_fault : Sheet → ℕ
exprs_fault sh = first_fault (map (expr_fault_in (exprs_named sh)) (numbered 0 sh.exprs))

unfoldable pub steps_fault : List Step → ℕ
steps_fault ss = first_fault (map (step_fault_in (named ss)) (numbered 0 ss))

-- 13 ----------------------------------------------------------------------------------------------------------------------

unfoldable pub ids_once : List Step → Bool
ids_once ss = all? (id_right ss) (numbered 0 ss)

-- one line's, where `count` says how often an id stands
abbrev id_once_where : (ℕ → ℕ) → ℕ × Step → Bool
id_once_where count (n, s) = not (same_ir s.kind IR.Cache) || eqb (count s.a) 1

abbrev pub id_once_in : List ℕ → ℕ × Step → Bool
id_once_in names = id_once_where (by_names names)

abbrev pub id_once_by : List ℕ → ℕ × Step → Bool
id_once_by counts = id_once_where (by_counts counts)
