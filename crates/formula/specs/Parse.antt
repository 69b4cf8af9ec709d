-- The reading of a formula byte by byte, from the front: what has been read so far, and how a byte changes it.
use Rattle.std.specs.Prelude.{ℕ, ◌+◌, ◌*◌, ◌-◌, Bool, true, false, List, [], ◌∷◌, eqb, ltb, leb, if◌then◌else◌, Option, None, Some}
use Rattle.formula.specs.declared.token.Class.{Class}
use Rattle.formula.specs.Tokens.{level, class}
use Rattle.formula.specs.Formula.{Tree}

-- what waits for an operand: an open bracket, or a left operand with its sign. The last Bool: was a space read behind it?
pub data Frame : Type 0 where
  opened : Bool → Frame
  left : Tree → Bool → ℕ → Bool → Frame

-- how the operand that was read last ends: in a digit, so that it may go on; otherwise; or with a space behind it
pub data Tail : Type 0 where
  digits closed spaced : Tail

-- what was read is the beginning of no formula; or an operand is wanted; or an operand was read. Frames stand with the last one first
pub data State : Type 0 where
  bad : State
  want : List Frame → State
  have : Tree → Tail → List Frame → State

abbrev pub spaced? : Tail → Bool
spaced? Tail.digits = false
spaced? Tail.closed = false
spaced? Tail.spaced = true

-- an operand, and what waits before it
pub record Behind : Type 0 where
  pub tree : Tree
  pub frames : List Frame

abbrev pub behind : Tree → List Frame → Behind
behind t fs = record { tree = t; frames = fs }

-- the operators that wait and are of level k or tighter take their right operand, as far as the next open bracket
unfoldable pub reduce : ℕ → Tree → List Frame → Behind
reduce k t [] = behind t []
reduce k t (Frame.opened s ∷ fs) = behind t (Frame.opened s ∷ fs)
reduce k t (Frame.left l s b s' ∷ fs) =
    elim (leb k (level b)) [ true ↦ reduce k (Tree.operator l s b s' t) fs | false ↦ behind t (Frame.left l s b s' ∷ fs) ]

-- A byte where an operand is wanted ------------------------------------------------------------------------------------------

-- a space: behind a bracket or a sign, and not behind another space
unfoldable pub space_before : List Frame → State
space_before [] = State.bad
space_before (Frame.opened true ∷ fs) = State.bad
space_before (Frame.opened false ∷ fs) = State.want (Frame.opened true ∷ fs)
space_before (Frame.left l s b true ∷ fs) = State.bad
space_before (Frame.left l s b false ∷ fs) = State.want (Frame.left l s b true ∷ fs)

unfoldable pub wanted : Class → ℕ → List Frame → State
wanted (Class.Sign k) b fs = State.bad
wanted Class.Space b fs = space_before fs
wanted Class.Opens b fs = State.want (Frame.opened false ∷ fs)
wanted Class.Closes b fs = State.bad
wanted Class.Letter b fs = State.have (Tree.letter b) Tail.closed fs
wanted Class.Digit b fs = State.have (Tree.number (b - 48)) Tail.digits fs
wanted Class.Other b fs = State.bad

-- A byte behind an operand -------------------------------------------------------------------------------------------------

unfoldable pub space_behind : Tree → Tail → List Frame → State
space_behind t Tail.digits fs = State.have t Tail.spaced fs
space_behind t Tail.closed fs = State.have t Tail.spaced fs
space_behind t Tail.spaced fs = State.bad

-- one more digit d of a number v: none behind a 0, and none that takes it above 255
unfoldable pub longer : ℕ → ℕ → List Frame → State
longer v d fs =
    if eqb v 0 then State.bad
    else if ltb (10 * v + d) 256 then State.have (Tree.number (10 * v + d)) Tail.digits fs
    else State.bad

-- only a number ends in a digit
unfoldable pub value : Tree → ℕ
value (Tree.letter b) = 0
value (Tree.number v) = v
value (Tree.bracket _ t _) = 0
value (Tree.operator l _ b _ r) = 0

unfoldable pub digit_behind : Tree → Tail → ℕ → List Frame → State
digit_behind t Tail.digits d fs = longer (value t) d fs
digit_behind t Tail.closed d fs = State.bad
digit_behind t Tail.spaced d fs = State.bad

-- a closing bracket, s telling of a space before it: the open one that waits last is its own
unfoldable pub close : Bool → Behind → State
close s r = elim r.frames [ [] ↦ State.bad | f ∷ fs ↦ close_by f fs ]
  where
    close_by : Frame → List Frame → State
    close_by (Frame.opened s') fs = State.have (Tree.bracket s' r.tree s) Tail.closed fs
    close_by (Frame.left l s' b s'') fs = State.bad

-- a sign, s telling of a space before it
unfoldable pub sign : Bool → ℕ → Behind → State
sign s b r = State.want (Frame.left r.tree s b false ∷ r.frames)

unfoldable pub had : Class → ℕ → Tree → Tail → List Frame → State
had (Class.Sign k) b t e fs = sign (spaced? e) b (reduce k t fs)
had Class.Space b t e fs = space_behind t e fs
had Class.Opens b t e fs = State.bad
had Class.Closes b t e fs = close (spaced? e) (reduce 0 t fs)
had Class.Letter b t e fs = State.bad
had Class.Digit b t e fs = digit_behind t e (b - 48) fs
had Class.Other b t e fs = State.bad

-- The whole ------------------------------------------------------------------------------------------------------------------

unfoldable pub step : State → ℕ → State
step State.bad b = State.bad
step (State.want fs) b = wanted (class b) b fs
step (State.have t e fs) b = had (class b) b t e fs

unfoldable pub run : State → List ℕ → State
run x [] = x
run x (b ∷ w) = run (step x b) w

-- the bytes w from the front
abbrev pub reading : List ℕ → State
reading w = run (State.want []) w

-- no bracket is open
unfoldable pub whole : Behind → Option Tree
whole r = elim r.frames [ [] ↦ Some r.tree | f ∷ fs ↦ None ]

-- all was read: an operand stands last, and no space behind it
unfoldable pub ended : State → Option Tree
ended State.bad = None
ended (State.want fs) = None
ended (State.have t Tail.digits fs) = whole (reduce 0 t fs)
ended (State.have t Tail.closed fs) = whole (reduce 0 t fs)
ended (State.have t Tail.spaced fs) = None

-- the formula that the bytes w are, if they are one
unfoldable pub parse : List ℕ → Option Tree
parse w = ended (reading w)
