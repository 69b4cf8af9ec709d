-- The operators that wait: those at the front of a list, the last one first; and how many there may be.
use mathlib.Core.Path.{◌≡◌, refl, ap, ◌∙◌}
use mathlib.Core.List.{List, [], ◌∷◌, ◌++◌}
use Prim.Native.Nat.{ℕ, zero, suc, ◌+◌, ◌*◌, ◌-◌, ◌<◌, ◌≤◌}
use native.Mathlib.Omega.{arith}
use native.Mathlib.Numerals.{add-one}
use lib.ListN.{length, length-append, get_or, set, take, drop, take-append-drop}
use lib.Seq.{get_or-set_same, get_or-set_other, take-suc}
use Rattle.formula.specs.declared.items.Item.{Item}
use Rattle.formula.specs.declared.items.Kind.{Kind}
use Rattle.formula.specs.declared.writer.Waiting.{Waiting}
use Rattle.formula.specs.Tokens.{level}
use Rattle.formula.specs.Formula.{Tree}
use Tree.{letter, number, bracket, operator}
use Rattle.formula.specs.Items.{item, items_of, as_operator, operators}
use Rattle.formula.specs.Written.{no_waiting, stack}

pub stack_pop : (ws : List Waiting) (n : ℕ) → 1 ≤ n → stack ws n ≡ get_or ws (n - 1) no_waiting ∷ stack ws (n - 1)
unfolding stack
stack_pop ws zero h = absurd (omega arith)
stack_pop ws (suc n) h = λ i. get_or ws (less i) no_waiting ∷ stack ws (less i)
  where
    less : n ≡ suc n - 1
    less = omega arith

stack_set : (ws : List Waiting) (i n : ℕ) (x : Waiting) → n ≤ i → stack (set ws i x) n ≡ stack ws n
unfolding stack
stack_set ws i zero x h = refl
stack_set ws i (suc n) x h =
    (λ j. get_or-set_other ws i n x no_waiting (omega arith) j ∷ stack_set ws i n x (omega arith) j)

pub stack_push : (ws : List Waiting) (n : ℕ) (x : Waiting) → n < length ws → stack (set ws n x) (n + 1) ≡ x ∷ stack ws n
unfolding stack
stack_push ws n x h = rw (add-one n) (λ j. get_or-set_same ws n x no_waiting h j ∷ stack_set ws n n x (omega arith) j)

-- How many may wait ------------------------------------------------------------------------------------------------------------------

operators_append : (xs ys : List Item) → operators (xs ++ ys) ≡ operators xs + operators ys
unfolding operators
operators_append [] ys = omega arith
operators_append (x ∷ xs) ys = omega (arith, operators_append xs ys)

-- of the first of some items, and of one item more
pub operators_first : (xs : List Item) (i : ℕ) → operators (take i xs) ≤ operators xs
operators_first xs i = omega (arith, operators_append (take i xs) (drop i xs), ap operators (take-append-drop i xs))

pub operators_next : (xs : List Item) (i : ℕ) (d : Item) → i < length xs
    → operators (take (i + 1) xs) ≡ operators (take i xs) + as_operator (get_or xs i d).kind
unfolding operators
operators_next xs i d h =
    rw (add-one i, take-suc xs i d h) (operators_append (take i xs) (get_or xs i d ∷ []) ∙ omega arith)

-- a formula has an operand more than operators
operators_of : (d : ℕ) (t : Tree) → 2 * operators (items_of d t) + 1 ≡ length (items_of d t)
unfolding operators items_of
operators_of d (letter b) = refl
operators_of d (number v) = refl
operators_of d (bracket s t s') = operators_of (suc d) t
operators_of d (operator l s b s' r) =
    let o : List Item = item d (Kind.Operator (level b)) ∷ items_of d r in
    omega (arith, operators_of d l, operators_of d r, operators_append (items_of d l) o, length-append (items_of d l) o)

pub few_operators : (t : Tree) → length (items_of 0 t) ≤ 128 → operators (items_of 0 t) ≤ 63
few_operators t h = omega (arith, h, operators_of 0 t)
