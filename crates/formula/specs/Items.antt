-- The operands and operators of a formula in the order of their bytes, each with the brackets that are open where it stands: what the first
-- pass notes.
use Rattle.std.specs.Prelude.{◌≡◌, ℕ, suc, ◌+◌, ◌≤◌, List, [], ◌∷◌, ◌++◌, ltb, length, take, set, if◌then◌else◌}
use Rattle.formula.specs.declared.items.Kind.{Kind}
use Rattle.formula.specs.declared.items.Item.{Item}
use Rattle.formula.specs.Tokens.{level}
use Rattle.formula.specs.Formula.{Tree}
use Rattle.formula.specs.Parse.{Frame, State}

abbrev pub item : ℕ → Kind → Item
item d k = record { depth = d; kind = k }

-- those of a formula that stands in d brackets
unfoldable pub items_of : ℕ → Tree → List Item
items_of d (Tree.letter b) = item d Kind.Letter ∷ []
items_of d (Tree.number v) = item d Kind.Number ∷ []
items_of d (Tree.bracket _ t _) = items_of (suc d) t
items_of d (Tree.operator l _ b _ r) = items_of d l ++ (item d (Kind.Operator (level b)) ∷ items_of d r)

-- how many of them are operators
abbrev pub as_operator : Kind → ℕ
as_operator Kind.Letter = 0
as_operator Kind.Number = 0
as_operator (Kind.Operator k) = 1

unfoldable pub operators : List Item → ℕ
operators [] = 0
operators (x ∷ xs) = as_operator x.kind + operators xs

-- Of what was read ------------------------------------------------------------------------------------------------------------

-- the brackets that are open
unfoldable pub depth : List Frame → ℕ
depth [] = 0
depth (Frame.opened s ∷ fs) = suc (depth fs)
depth (Frame.left l s b s' ∷ fs) = depth fs

-- what waits for an operand
unfoldable pub items_before : List Frame → List Item
items_before [] = []
items_before (Frame.opened s ∷ fs) = items_before fs
items_before (Frame.left l s b s' ∷ fs) =
    items_before fs ++ (items_of (depth fs) l ++ (item (depth fs) (Kind.Operator (level b)) ∷ []))

unfoldable pub items_read : State → List Item
items_read State.bad = []
items_read (State.want fs) = items_before fs
items_read (State.have t e fs) = items_before fs ++ items_of (depth fs) t

-- What is noted -----------------------------------------------------------------------------------------------------------------

-- the places, and how many of them are taken
pub record Notes : Type 0 where
  pub places : List Item
  pub count : ℕ

abbrev pub notes : List Item → ℕ → Notes
notes ps n = record { places = ps; count = n }

-- with an item x more, if a place is left
unfoldable pub with_item : Item → Notes → Notes
with_item x m = if ltb m.count (length m.places) then notes (set m.places m.count x) (m.count + 1) else m

-- the items xs stand in the places, as many of them as there are places
pub record Noted (m : Notes) (xs : List Item) : Type 0 where
  pub same : take m.count m.places ≡ take (length m.places) xs
  pub few : m.count ≤ length m.places
