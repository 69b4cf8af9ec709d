-- How the code stores a sheet: the numbers of each line as they stand on it, at a fixed stride in lent bytes.
use Rattle.std.specs.Prelude.{ℕ, zero, suc, ◌+◌, ◌*◌, ◌≤◌, ◌<◌, ◌≡◌, Bool, false, List, [], ◌∷◌, length, get_or, take, drop, if◌then◌else◌}
use Rattle.plan.specs.Sheet.{Expr, Step, expr_of, step_of}
use Rattle.plan.specs.Look.{switched_off}

-- an E line: K, S, L, a and at most 8 children from byte 16 × i on, and the number of its children in byte 16 × i + 12
unfoldable pub stored_expr : List ℕ → ℕ → Expr
stored_expr bytes i = expr_of (take (4 + get_or bytes (i * 16 + 12) 0) (drop (i * 16) bytes))

-- a P line: K, a, b, c, n1, n2, n3 and at most 24 entries, from byte 32 × i on
unfoldable pub stored_step : List ℕ → ℕ → Step
stored_step bytes i = step_of (drop (i * 32) bytes)

-- f k, f (k + 1), .., n in all
unfoldable pub table : {A : Type 0} → (ℕ → A) → ℕ → ℕ → List A
table f k zero = []
table f k (suc n) = f k ∷ table f (suc k) n

unfoldable pub stored_exprs : List ℕ → ℕ → List Expr
stored_exprs bytes n = table (stored_expr bytes) 0 n

unfoldable pub stored_steps : List ℕ → ℕ → List Step
stored_steps bytes n = table (stored_step bytes) 0 n

-- The arena as looks change it: line p holds the record that was stored as line[p], switched off where off[p] says so ------------

unfoldable pub held_expr : List ℕ → List ℕ → List Bool → ℕ → Expr
held_expr bytes line off p =
    let e = stored_expr bytes (get_or line p 0) in
    if get_or off p false then switched_off e else e

unfoldable pub arena_of : List ℕ → List ℕ → List Bool → ℕ → List Expr
arena_of bytes line off n = table (held_expr bytes line off) 0 n

-- The numbers of a stored line are within their tables as far as printing goes ---------------------------------------------------

pub record ExprFormed (bytes : List ℕ) (i : ℕ) : Type 0 where
  pub kind : get_or bytes (i * 16) 0 < 25
  pub scalar : get_or bytes (i * 16 + 1) 0 ≤ 1
  pub length_preserving : get_or bytes (i * 16 + 2) 0 ≤ 1
  pub count : get_or bytes (i * 16 + 12) 0 ≤ 8

pub record StepFormed (bytes : List ℕ) (i : ℕ) : Type 0 where
  pub kind : get_or bytes (i * 32) 0 < 19
  pub n1 : get_or bytes (i * 32 + 4) 0 ≤ 8
  pub n2 : get_or bytes (i * 32 + 5) 0 ≤ 8
  pub n3 : get_or bytes (i * 32 + 6) 0 ≤ 8

-- the bytes hold n P lines
pub record StepsHeld (bytes : List ℕ) (n : ℕ) : Type 0 where
  pub few : n ≤ 32
  pub size : length bytes ≡ 1024
  pub formed : (i : ℕ) → i < n → StepFormed bytes i

-- the bytes hold n records, and each of n lines holds its own or a lower one
pub record LinesHeld (recs line : List ℕ) (n : ℕ) : Type 0 where
  pub few : n ≤ 128
  pub records : length recs ≡ 2048
  pub formed : (l : ℕ) → l < n → ExprFormed recs l
  pub below : (p : ℕ) → p < n → get_or line p 0 ≤ p
