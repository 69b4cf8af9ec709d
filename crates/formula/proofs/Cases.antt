-- A few formulas and what they come to: a table, and one test that computes.
use mathlib.Core.Bool.{Bool}
use mathlib.Core.List.{List, [], ◌∷◌}
use Prim.Native.Nat.{ℕ}
use lib.Dec.{T}
use Rattle.plan.specs.Lists.{all?, same, concat_map}
use Rattle.plan.specs.Sheet.{Outcome, refused, done, ◌then◌, refuse◌when◌else◌}
use Rattle.plan.specs.Text.{digits, line, expr_line}
use Rattle.plan.proofs.Cases.{Row, bytes, written, agree}
use Rattle.formula.specs.Tokens.{level, class}
use Rattle.formula.specs.Formula.{scalar, length_preserving, before_own, lines}
use Rattle.formula.specs.Parse.{reduce, space_before, wanted, space_behind, longer, value, digit_behind, close, sign, had, step, run, whole, ended, parse}
use Rattle.formula.specs.Converted.{converted, judged, text}

unfoldable table : List Row
table =
    -- the request's own
    ("a + b * 3 > c", done "E,0,0,1,0\nE,0,0,1,0\nE,1,1,0,0\nE,5,0,1,0,1,2\nE,5,0,1,0,0,3\nE,0,0,1,0\nE,5,0,1,0,4,5\n")
    -- one level groups to the left
    ∷ ("a - b + c", done "E,0,0,1,0\nE,0,0,1,0\nE,5,0,1,0,0,1\nE,0,0,1,0\nE,5,0,1,0,2,3\n")
    -- brackets group otherwise
    ∷ ("a - (b + c)", done "E,0,0,1,0\nE,0,0,1,0\nE,0,0,1,0\nE,5,0,1,0,1,2\nE,5,0,1,0,0,3\n")
    -- or just as without them
    ∷ ("((a - b)) + 0", done "E,0,0,1,0\nE,0,0,1,0\nE,5,0,1,0,0,1\nE,1,1,0,0\nE,5,0,1,0,2,3\n")
    -- S of numbers alone; L as soon as there is a letter
    ∷ ("1 / 255 * a", done "E,1,1,0,0\nE,1,1,0,0\nE,5,1,0,0,0,1\nE,0,0,1,0\nE,5,0,1,0,2,3\n")
    -- each level beside the next, in both orders
    ∷ ("a|b&c", done "E,0,0,1,0\nE,0,0,1,0\nE,0,0,1,0\nE,5,0,1,0,1,2\nE,5,0,1,0,0,3\n")
    ∷ ("a&b|c", done "E,0,0,1,0\nE,0,0,1,0\nE,5,0,1,0,0,1\nE,0,0,1,0\nE,5,0,1,0,2,3\n")
    ∷ ("a&b<c", done "E,0,0,1,0\nE,0,0,1,0\nE,0,0,1,0\nE,5,0,1,0,1,2\nE,5,0,1,0,0,3\n")
    ∷ ("a<b&c", done "E,0,0,1,0\nE,0,0,1,0\nE,5,0,1,0,0,1\nE,0,0,1,0\nE,5,0,1,0,2,3\n")
    ∷ ("a>b+c", done "E,0,0,1,0\nE,0,0,1,0\nE,0,0,1,0\nE,5,0,1,0,1,2\nE,5,0,1,0,0,3\n")
    ∷ ("a+b>c", done "E,0,0,1,0\nE,0,0,1,0\nE,5,0,1,0,0,1\nE,0,0,1,0\nE,5,0,1,0,2,3\n")
    ∷ ("a-b*c", done "E,0,0,1,0\nE,0,0,1,0\nE,0,0,1,0\nE,5,0,1,0,1,2\nE,5,0,1,0,0,3\n")
    ∷ ("a/b-c", done "E,0,0,1,0\nE,0,0,1,0\nE,5,0,1,0,0,1\nE,0,0,1,0\nE,5,0,1,0,2,3\n")
    ∷ ("a=b=c", done "E,0,0,1,0\nE,0,0,1,0\nE,5,0,1,0,0,1\nE,0,0,1,0\nE,5,0,1,0,2,3\n")
    -- not a formula
    ∷ ("", refused 14)
    ∷ ("a b", refused 14)
    ∷ ("ab", refused 14)
    ∷ ("a  + b", refused 14)
    ∷ ("a ", refused 14)
    ∷ ("007", refused 14)
    ∷ ("256", refused 14)
    ∷ ("1 2", refused 14)
    ∷ ("-a", refused 14)
    ∷ ("a<=b", refused 14)
    ∷ ("(a", refused 14)
    ∷ ("a)", refused 14)
    ∷ ("()", refused 14)
    ∷ ("a+\n", refused 14)
    -- 65 operands, and with a fault at the end
    ∷ ("a+a+a+a+a+a+a+a+a+a+a+a+a+a+a+a+a+a+a+a+a+a+a+a+a+a+a+a+a+a+a+a+a+a+a+a+a+a+a+a+a+a+a+a+a+a+a+a+a+a+a+a+a+a+a+a+a+a+a+a+a+a+a+a+a", refused 15)
    ∷ ("a+a+a+a+a+a+a+a+a+a+a+a+a+a+a+a+a+a+a+a+a+a+a+a+a+a+a+a+a+a+a+a+a+a+a+a+a+a+a+a+a+a+a+a+a+a+a+a+a+a+a+a+a+a+a+a+a+a+a+a+a+a+a+a+a+", refused 14)
    ∷ []

-- the lines of a formula as they stand on a sheet
unfoldable converted_text : List ℕ → Outcome (List ℕ)
converted_text w = converted w then λ es. done (text es)

unfoldable right : Row → Bool
right (sent, back) = agree (converted_text (bytes sent)) (written back)

all_right : T (all? right table)
unfolding table right converted_text bytes written agree all? same concat_map ◌then◌ refuse◌when◌else◌ digits line expr_line level class scalar length_preserving before_own lines reduce space_before wanted space_behind longer value digit_behind close sign had step run whole ended parse converted judged text
all_right = tt
