-- The cases A to J of document 01 and some of uses and ids: a table, one test that computes, and one law that makes of each row an equation.
use mathlib.Core.Path.{◌≡◌, ap}
use Prim.Native.Nat.{ℕ}
use Prim.Native.String.{String, [] as []ˢ, ◌∷◌ as ◌∷ˢ◌}
use Prim.Native.Char.{code}
use mathlib.Core.Bool.{Bool, false}
use mathlib.Core.List.{List, [], ◌∷◌, Memᴰ}
use lib.Dec.{T, eqb, eqb→eq}
use Rattle.plan.specs.Lists.{same, all?}
use Rattle.plan.specs.Sheet.{Outcome, refused, done}
use Rattle.plan.specs.Finished.{finished}
use Rattle.plan.proofs.Computing.{computing}
use Rattle.plan.proofs.ListLaws.{same→eq, of_all}

-- the bytes of an ASCII text
unfoldable pub bytes : String → List ℕ
bytes []ˢ = []
bytes (c ∷ˢ s) = code c ∷ bytes s

-- the sheet sent, and the finished sheet or the number that comes back
abbrev pub Row : Type 0
Row = String × Outcome String

unfoldable pub table : List Row
table =
    -- A: a Sort over a Scan, under a Sink that keeps no order: it goes
    (
      "E,0,0,1,0\nP,0,0,0,0,0,0,0\nP,5,1,0,0,1,1,0,0,0\nP,2,0,0,0,1,0,0,1\n",
      done "E,0,0,1,0\nP,0,0,0,0,0,0,0\nP,5,1,0,0,1,1,0,0,0\nP,2,0,0,0,1,0,0,0\nG,2,0,0\nG,1,0,0\nT,1,5,0\n",
    )
    -- B: with a slice it stays
    ∷ (
      "E,0,0,1,0\nP,0,0,0,0,0,0,0\nP,5,1,1,0,1,1,0,0,0\nP,2,0,0,0,1,0,0,1\n",
      done "E,0,0,1,0\nP,0,0,0,0,0,0,0\nP,5,1,1,0,1,1,0,0,0\nP,2,0,0,0,1,0,0,1\nG,2,0,0\nG,1,0,1\nT,0,6,2\n",
    )
    -- C: and if it maintains no order, its input's order is of no account
    ∷ (
      "E,0,0,1,0\nP,0,0,0,0,0,0,0\nP,5,0,1,0,1,1,0,0,0\nP,2,0,0,0,1,0,0,1\n",
      done "E,0,0,1,0\nP,0,0,0,0,0,0,0\nP,5,0,1,0,1,1,0,0,0\nP,2,0,0,0,1,0,0,1\nG,2,0,0\nG,1,0,0\nT,0,6,2\n",
    )
    -- D: an HConcat of nothing has no order; the Sink learns it on the way up
    ∷ (
      "P,14,0,0,0,0,0,0\nP,2,1,0,0,1,0,0,0\n",
      done "P,14,0,0,0,0,0,0\nP,2,0,0,0,1,0,0,0\nG,1,0,0\nT,0,4,0\n",
    )
    -- E: a semi Join keeps only its left side's order
    ∷ (
      "P,0,0,0,0,0,0,0\nP,0,0,0,0,0,0,0\nP,9,1,3,0,2,0,0,0,1\nP,2,1,0,0,1,0,0,2\n",
      done "P,0,0,0,0,0,0,0\nP,0,0,0,0,0,0,0\nP,9,1,1,0,2,0,0,0,1\nP,2,1,0,0,1,0,0,2\nG,3,0,1\nG,2,0,1\nG,2,1,0\nT,0,8,0\n",
    )
    -- F: a Distinct that keeps the first needs its input's order
    ∷ (
      "P,0,0,0,0,0,0,0\nP,8,1,0,0,1,0,0,0\nP,2,0,0,0,1,0,0,1\n",
      done "P,0,0,0,0,0,0,0\nP,8,0,0,0,1,0,0,0\nP,2,0,0,0,1,0,0,1\nG,2,0,0\nG,1,0,1\nT,0,6,0\n",
    )
    -- F, with Any: it does not
    ∷ (
      "P,0,0,0,0,0,0,0\nP,8,1,0,2,1,0,0,0\nP,2,0,0,0,1,0,0,1\n",
      done "P,0,0,0,0,0,0,0\nP,8,0,0,2,1,0,0,0\nP,2,0,0,0,1,0,0,1\nG,2,0,0\nG,1,0,0\nT,0,6,0\n",
    )
    -- G: a Select of a Cast of a Column
    ∷ (
      "E,0,0,1,0\nE,7,0,1,0,0\nP,0,0,0,0,0,0,0\nP,3,0,0,0,1,1,0,0,1\nP,2,0,0,0,1,0,0,1\n",
      done "E,0,0,1,0\nE,7,0,1,0,0\nP,0,0,0,0,0,0,0\nP,3,0,0,0,1,1,0,0,1\nP,2,0,0,0,1,0,0,1\nG,2,0,0\nG,1,0,0\nT,0,6,8\n",
    )
    -- H: of a Sort of a Column: it becomes the Column
    ∷ (
      "E,0,0,1,0\nE,9,0,1,0,0\nP,0,0,0,0,0,0,0\nP,3,0,0,0,1,1,0,0,1\nP,2,0,0,0,1,0,0,1\n",
      done "E,0,0,1,0\nE,0,0,1,0\nP,0,0,0,0,0,0,0\nP,3,0,0,0,1,1,0,0,1\nP,2,0,0,0,1,0,0,1\nG,2,0,0\nG,1,0,0\nT,0,6,6\n",
    )
    -- I: no plan line
    ∷ ("", refused 6)
    -- J: a Join keyed by an Explode
    ∷ (
      "E,0,0,1,0\nE,8,0,0,0,0\nP,0,0,0,0,0,0,0\nP,0,0,0,0,0,0,0\nP,9,0,0,0,2,1,0,0,1,1\nP,2,0,0,0,1,0,0,2\n",
      refused 10,
    )
    -- 12 and 8 by the first line: an E line used twice before one unused, and the other way round
    ∷ ("E,0,0,1,0\nE,0,0,1,0\nP,0,0,0,0,0,0,0\nP,3,0,0,0,1,2,0,0,0,0\nP,2,0,0,0,1,0,0,1\n", refused 12)
    ∷ ("E,0,0,1,0\nE,0,0,1,0\nP,0,0,0,0,0,0,0\nP,3,0,0,0,1,2,0,0,1,1\nP,2,0,0,0,1,0,0,1\n", refused 8)
    -- an unused E line before a Scan used twice
    ∷ ("E,0,0,1,0\nP,0,0,0,0,0,0,0\nP,2,0,0,0,1,0,0,0\nP,2,0,0,0,1,0,0,0\n", refused 8)
    -- a Cache used twice
    ∷ (
      "P,0,0,0,0,0,0,0\nP,18,5,0,0,1,0,0,0\nP,2,0,0,0,1,0,0,1\nP,2,0,0,0,1,0,0,1\n",
      done "P,0,0,0,0,0,0,0\nP,18,5,0,0,1,0,0,0\nP,2,0,0,0,1,0,0,1\nP,2,0,0,0,1,0,0,1\nG,2,0,0\nG,3,0,0\nG,1,0,0\nT,0,10,0\n",
    )
    -- two Cache lines with one id over one Scan; one over the other, beside a StructField
    ∷ ("P,0,0,0,0,0,0,0\nP,18,5,0,0,1,0,0,0\nP,18,5,0,0,1,0,0,0\nP,2,0,0,0,1,0,0,1\nP,2,0,0,0,1,0,0,2\n", refused 12)
    ∷ ("E,3,0,1,0\nP,0,0,0,0,0,0,0\nP,18,5,0,0,1,0,0,0\nP,18,5,0,0,1,0,0,1\nP,3,0,0,0,1,1,0,2,0\nP,2,0,0,0,1,0,0,3\n", refused 13)
    ∷ []

-- in bytes
unfoldable pub written : Outcome String → Outcome (List ℕ)
written (refused n) = refused n
written (done t) = done (bytes t)

unfoldable pub agree : Outcome (List ℕ) → Outcome (List ℕ) → Bool
agree (refused n) (refused m) = eqb n m
agree (refused n) (done y) = false
agree (done x) (refused m) = false
agree (done x) (done y) = same x y

unfoldable pub right : Row → Bool
right (sent, back) = agree (finished (bytes sent)) (written back)

all_right : T (all? right table)
unfolding computing bytes right written agree table
all_right = tt

-- What a passed test says ---------------------------------------------------------------------------------------------

agree→eq : (x y : Outcome (List ℕ)) → T (agree x y) → x ≡ y
unfolding agree
agree→eq (refused n) (refused m) t = ap refused (eqb→eq n m t)
agree→eq (refused n) (done y) t = absurd t
agree→eq (done x) (refused m) t = absurd t
agree→eq (done x) (done y) t = ap done (same→eq x y t)

-- every row of the table
pub cases : (sent : String) (back : Outcome String) → Memᴰ (sent, back) table → finished (bytes sent) ≡ written back
unfolding right
cases sent back m = agree→eq (finished (bytes sent)) (written back) (of_all right table all_right (sent, back) m)
