-- Choices, and functions on lists, that the definition is written with.
use Rattle.std.specs.Prelude.{ℕ, suc, ◌+◌, Bool, true, false, ◌&&◌, ◌||◌, List, [], ◌∷◌, ◌++◌, eqb, if◌then◌else◌}

-- `if` hands both branches over. `parts`, `value` and `digits` say `elim` instead, by which only the branch taken is computed

-- a yes-or-no number of a sheet
abbrev pub yes? : ℕ → Bool
yes? n = eqb n 1

abbrev pub digit : Bool → ℕ
digit true = 1
digit false = 0

module _ {A : Type 0} where
  unfoldable pub all? : (A → Bool) → List A → Bool
  all? f [] = true
  all? f (x ∷ xs) = f x && all? f xs

  unfoldable pub any? : (A → Bool) → List A → Bool
  any? f [] = false
  any? f (x ∷ xs) = f x || any? f xs

  unfoldable pub select : (A → Bool) → List A → List A
  select f [] = []
  select f (x ∷ xs) = if f x then x ∷ select f xs else select f xs

  unfoldable pub sum : (A → ℕ) → List A → ℕ
  sum f [] = 0
  sum f (x ∷ xs) = f x + sum f xs

  unfoldable pub concat_map : {B : Type 0} → (A → List B) → List A → List B
  concat_map f [] = []
  concat_map f (x ∷ xs) = f x ++ concat_map f xs

  abbrev pub empty? : List A → Bool
  empty? [] = true
  empty? (x ∷ xs) = false

  -- the list without its first entry
  abbrev pub rest : List A → List A
  rest [] = []
  rest (x ∷ xs) = xs

  -- the first entry put last
  abbrev pub first_last : List A → List A
  first_last [] = []
  first_last (x ∷ xs) = xs ++ (x ∷ [])

-- the entries with their indices, counted from n
unfoldable pub numbered : {A : Type 0} → ℕ → List A → List (ℕ × A)
numbered n [] = []
numbered n (x ∷ xs) = (n, x) ∷ numbered (suc n) xs

abbrev pub among : ℕ → List ℕ → Bool
among n ns = any? (eqb n) ns

-- how often n stands in a list
abbrev pub times : ℕ → List ℕ → ℕ
times n ns = sum (λ m. if eqb n m then 1 else 0) ns

unfoldable pub same : List ℕ → List ℕ → Bool
same [] [] = true
same [] (y ∷ ys) = false
same (x ∷ xs) [] = false
same (x ∷ xs) (y ∷ ys) = eqb x y && same xs ys
