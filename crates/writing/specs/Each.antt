-- What is asked of a writer of texts by number, and what it is to have written them.
use Rattle.std.specs.Borrow.{MutBor}
use Rattle.std.specs.Prelude.{ℕ, ◌≤◌, ◌<◌, List, length}
use Rattle.plan.specs.Lists.{concat_map}
use Rattle.storage.specs.Stored.{table}
use Rattle.writing.specs.Wrote.{Wrote}

-- it may be called at each number below n, wherever there is room for `most` bytes
abbrev pub Callable : (MutBor (List ℕ) → ℕ → Type 0) → ℕ → ℕ → Type 0
Callable pre most n = (i : ℕ) (rest : MutBor (List ℕ)) → i < n → most ≤ length rest.now → pre rest i

module _ (post : MutBor (List ℕ) → ℕ → ℕ → MutBor (List ℕ) → Type 0) where
  -- it writes at most that many
  abbrev pub Short : ℕ → ℕ → Type 0
  Short most n = (i : ℕ) (rest after : MutBor (List ℕ)) (r : ℕ) → i < n → post rest i r after → r ≤ most

  -- it writes the text of each number below n
  abbrev pub WritesEach : (ℕ → List ℕ) → ℕ → Type 0
  WritesEach text n = (i : ℕ) (rest after : MutBor (List ℕ)) (r : ℕ) → i < n → post rest i r after → Wrote (text i) rest.now after.now r

-- the texts 0, 1 .., n in all, one after the other
abbrev pub texts : (ℕ → List ℕ) → ℕ → List ℕ
texts text n = concat_map (λ (t : List ℕ). t) (table text 0 n)
