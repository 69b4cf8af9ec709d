-- What the first pass keeps of what was read, what may stand next and how many brackets are open; and what a byte lets it note.
use Rattle.std.specs.Prelude.{◌≡◌, ℕ, ◌+◌, ◌≤◌, Bool, true, false, List, [], ◌∷◌, ◌++◌, Option, None, Some, IfSome, if◌then◌else◌}
use Rattle.formula.specs.declared.token.Class.{Class}
use Rattle.formula.specs.declared.items.Kind.{Kind}
use Rattle.formula.specs.declared.seen.Next.{Next}
use Rattle.formula.specs.declared.seen.Seen.{Seen}
use Rattle.formula.specs.Tokens.{class}
use Rattle.formula.specs.Formula.{Tree}
use Rattle.formula.specs.Parse.{Frame, Tail, State, value, reading}
use Rattle.formula.specs.Items.{item, depth, Notes, with_item}

-- where an operand is wanted: a space may stand behind a bracket or a sign, and none at the very beginning
unfoldable pub next_wanted : List Frame → Next
next_wanted [] = Next.Operand
next_wanted (Frame.opened true ∷ fs) = Next.Operand
next_wanted (Frame.opened false ∷ fs) = Next.OperandOrSpace
next_wanted (Frame.left l s b true ∷ fs) = Next.Operand
next_wanted (Frame.left l s b false ∷ fs) = Next.OperandOrSpace

-- where an operand was read
unfoldable pub next_had : Tree → Tail → Next
next_had t Tail.digits = Next.SignSpaceOrDigit (value t)
next_had t Tail.closed = Next.SignOrSpace
next_had t Tail.spaced = Next.Sign

abbrev pub wants : Next → Bool
wants Next.Operand = true
wants Next.OperandOrSpace = true
wants Next.Sign = false
wants Next.SignOrSpace = false
wants (Next.SignSpaceOrDigit v) = false

abbrev pub may_end : Next → Bool
may_end Next.Operand = false
may_end Next.OperandOrSpace = false
may_end Next.Sign = false
may_end Next.SignOrSpace = true
may_end (Next.SignSpaceOrDigit v) = true

abbrev pub seen_as : Next → ℕ → Seen
seen_as next depth = record { next = next; depth = depth }

-- nothing is kept of what is the beginning of no formula
unfoldable pub seen_of : State → Option Seen
seen_of State.bad = None
seen_of (State.want fs) = Some (seen_as (next_wanted fs) (depth fs))
seen_of (State.have t e fs) = Some (seen_as (next_had t e) (depth fs))

-- Where s is kept of the bytes read, r is kept of them and a byte b of the class c. Such a byte opens at most one bracket
pub record After (c : Class) (b : ℕ) (s : Seen) (r : Option Seen) : Type 0 where
  pub seen : (w : List ℕ) → class b ≡ c → seen_of (reading w) ≡ Some s → seen_of (reading (w ++ (b ∷ []))) ≡ r
  pub deeper : IfSome r (λ s'. s'.depth ≤ s.depth + 1)

-- what is noted with a byte of the class c, where s was kept: an operand begins where one is wanted, and an operator where none is
unfoldable pub with_begun : Class → Seen → Notes → Notes
with_begun (Class.Sign k) s m = if wants s.next then m else with_item (item s.depth (Kind.Operator k)) m
with_begun Class.Space s m = m
with_begun Class.Opens s m = m
with_begun Class.Closes s m = m
with_begun Class.Letter s m = if wants s.next then with_item (item s.depth Kind.Letter) m else m
with_begun Class.Digit s m = if wants s.next then with_item (item s.depth Kind.Number) m else m
with_begun Class.Other s m = m
