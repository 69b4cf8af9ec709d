-- The numbers of a stored line.
use Rattle.std.specs.Prelude.{ℕ, ◌+◌, ◌*◌, List, get_or, take, drop}

abbrev pub children_count : List ℕ → ℕ → ℕ
children_count bytes i = get_or bytes (i * 16 + 12) 0

-- K, S, L, a and the children
abbrev pub expr_numbers : List ℕ → ℕ → List ℕ
expr_numbers bytes i = take (4 + children_count bytes i) (drop (i * 16) bytes)

-- K, a, b, c, n1, n2, n3 and the entries
abbrev pub step_numbers : List ℕ → ℕ → List ℕ
step_numbers bytes i = take (7 + get_or bytes (i * 32 + 4) 0 + get_or bytes (i * 32 + 5) 0 + get_or bytes (i * 32 + 6) 0) (drop (i * 32) bytes)
