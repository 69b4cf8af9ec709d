-- What the first pass keeps of a state, byte by byte, is what it keeps of the state behind that byte.
use mathlib.Core.Logic.{◌⊎◌, inl, inr}
use Rattle.std.specs.Prelude.{if◌then◌else◌, Option, None, Some, IfSome}
use mathlib.Core.Path.{◌≡◌, refl, sym, ap, ◌∙◌, subst}
use mathlib.Core.Bool.{Bool, true, false}
use mathlib.Core.List.{List, [], ◌∷◌, ◌++◌}
use Prim.Native.Nat.{ℕ, zero, suc, ◌+◌, ◌*◌, ◌-◌, ◌<◌, ◌≤◌}
use native.Mathlib.Omega.{arith}
use native.Mathlib.Decide.{dec_lt}
use lib.Dec.{eqb, ltb}
use borrow.Author.Tests.{lt-ltb, le-ltb, eq-eqb, ne_eqb}
use Rattle.formula.specs.declared.token.Class.{Class}
use Rattle.formula.specs.declared.seen.Next.{Next}
use Rattle.formula.specs.declared.seen.Seen.{Seen}
use Rattle.formula.specs.Tokens.{level, class}
use Rattle.formula.specs.Formula.{Tree}
use Tree.{letter, number, bracket, operator}
use Rattle.formula.specs.Parse.{Frame, Tail, State, Behind, spaced?, reduce, space_before, space_behind, longer, digit_behind, value, close, sign, wanted, had, step, run, reading}
use Frame.{opened, left}
use Tail.{digits, closed, spaced}
use State.{bad, want, have}
use Rattle.formula.specs.Items.{depth}
use Rattle.formula.specs.Seen.{next_wanted, next_had, wants, seen_as, seen_of, After}
use Rattle.formula.proofs.Constructors.{clash, some_same, true_false}
use Rattle.formula.proofs.Reading.{reduce_take, run_append, other_bad}
use Rattle.formula.proofs.Kept.{kept}

pub wanted_wants : (fs : List Frame) → wants (next_wanted fs) ≡ true
unfolding next_wanted
wanted_wants [] = refl
wanted_wants (opened true ∷ fs) = refl
wanted_wants (opened false ∷ fs) = refl
wanted_wants (left l s b true ∷ fs) = refl
wanted_wants (left l s b false ∷ fs) = refl

pub had_wants : (t : Tree) (e : Tail) → wants (next_had t e) ≡ false
unfolding next_had
had_wants t digits = refl
had_wants t closed = refl
had_wants t spaced = refl

abbrev pub wanted_seen : List Frame → Seen
wanted_seen fs = seen_as (next_wanted fs) (depth fs)

abbrev pub had_seen : Tree → Tail → List Frame → Seen
had_seen t e fs = seen_as (next_had t e) (depth fs)

module _ (P : State → Seen → Type 0) where
  -- what holds wherever an operand is wanted, and wherever one was read
  by_want : ((fs : List Frame) → P (want fs) (wanted_seen fs)) → (x : State) (s : Seen) → seen_of x ≡ Some s → wants s.next ≡ true → P x s
  unfolding seen_of
  by_want p bad s e h = clash s e
  by_want p (want fs) s e h = subst (P (want fs)) (some_same _ s e) (p fs)
  by_want p (have t l fs) s e h =
      true_false (sym h ∙ ap (λ (z : Seen). wants z.next) (sym (some_same _ s e)) ∙ had_wants t l)

  by_have : ((t : Tree) (l : Tail) (fs : List Frame) → P (have t l fs) (had_seen t l fs)) → (x : State) (s : Seen) → seen_of x ≡ Some s
      → wants s.next ≡ false → P x s
  unfolding seen_of
  by_have p bad s e h = clash s e
  by_have p (want fs) s e h =
      true_false (sym (wanted_wants fs) ∙ ap (λ (z : Seen). wants z.next) (some_same _ s e) ∙ h)
  by_have p (have t l fs) s e h = subst (P (have t l fs)) (some_same _ s e) (p t l fs)

pub reading_after : (w : List ℕ) (b : ℕ) → reading (w ++ (b ∷ [])) ≡ step (reading w) b
unfolding run
reading_after w b = run_append (want []) w (b ∷ [])

none_bad_seen : seen_of bad ≡ None
unfolding seen_of
none_bad_seen = refl

pub none_seen : (x : State) → x ≡ bad → seen_of x ≡ None
none_seen x z = ap seen_of z ∙ none_bad_seen

pub none_bad : (x : State) → seen_of x ≡ None → x ≡ bad
unfolding seen_of
none_bad bad e = refl
none_bad (want fs) e = clash _ (sym e)
none_bad (have t l fs) e = clash _ (sym e)

-- o is kept with a byte b of the class c, where s was kept
abbrev Keeps : Class → ℕ → Seen → Option Seen → Type 0
Keeps c b s o = (x : State) → class b ≡ c → seen_of x ≡ Some s → seen_of (step x b) ≡ o

after_by : (c : Class) (b : ℕ) (s : Seen) (o : Option Seen) → Keeps c b s o → IfSome o (λ s'. s'.depth ≤ s.depth + 1) → After c b s o
after_by c b s o p d = record { seen = λ w k e. ap seen_of (reading_after w b) ∙ p (reading w) k e; deeper = d }

-- The classes ------------------------------------------------------------------------------------------------------------------

-- r of what is kept of a state, with the byte b
abbrev Then : ℕ → (Seen → Option Seen) → State → Seen → Type 0
Then b r x s = seen_of (step x b) ≡ r s

after_want : (c : Class) (b : ℕ) (s : Seen) (r : Seen → Option Seen) → wants s.next ≡ true
    → (class b ≡ c → (fs : List Frame) → Then b r (want fs) (wanted_seen fs))
    → IfSome (r s) (λ s'. s'.depth ≤ s.depth + 1) → After c b s (r s)
after_want c b s r v p d = after_by c b s (r s) (λ x k e. by_want (Then b r) (p k) x s e v) d

after_have : (c : Class) (b : ℕ) (s : Seen) (r : Seen → Option Seen) → wants s.next ≡ false
    → (class b ≡ c → (t : Tree) (l : Tail) (fs : List Frame) → Then b r (have t l fs) (had_seen t l fs))
    → IfSome (r s) (λ s'. s'.depth ≤ s.depth + 1) → After c b s (r s)
after_have c b s r v p d = after_by c b s (r s) (λ x k e. by_have (Then b r) (p k) x s e v) d

abbrev none : Seen → Option Seen
none s = None

abbrev then_seen : Next → Seen → Option Seen
then_seen next s = Some (seen_as next s.depth)

module _ (b : ℕ) (s : Seen) where
  pub letter_wanted : wants s.next ≡ true → After Class.Letter b s (Some (seen_as Next.SignOrSpace s.depth))
  unfolding step wanted seen_of next_had
  letter_wanted v = after_want Class.Letter b s (then_seen Next.SignOrSpace) v (λ k fs. rw k refl) (omega arith)

  pub letter_had : wants s.next ≡ false → After Class.Letter b s None
  unfolding step had seen_of
  letter_had v = after_have Class.Letter b s none v (λ k t l fs. rw k refl) tt

  pub digit_wanted : wants s.next ≡ true → After Class.Digit b s (Some (seen_as (Next.SignSpaceOrDigit (b - 48)) s.depth))
  unfolding step wanted seen_of next_had value
  digit_wanted v = after_want Class.Digit b s (then_seen (Next.SignSpaceOrDigit (b - 48))) v (λ k fs. rw k refl) (omega arith)

  pub opens_wanted : wants s.next ≡ true → After Class.Opens b s (Some (seen_as Next.OperandOrSpace (s.depth + 1)))
  unfolding step wanted seen_of next_wanted depth
  opens_wanted v =
      after_want Class.Opens b s (λ z. Some (seen_as Next.OperandOrSpace (z.depth + 1))) v
      (λ k fs. rw k (ap (λ n. Some (seen_as Next.OperandOrSpace n)) (omega arith))) (omega arith)

  pub opens_had : wants s.next ≡ false → After Class.Opens b s None
  unfolding step had seen_of
  opens_had v = after_have Class.Opens b s none v (λ k t l fs. rw k refl) tt

  pub sign_wanted : (level : ℕ) → wants s.next ≡ true → After (Class.Sign level) b s None
  unfolding step wanted seen_of
  sign_wanted level v = after_want (Class.Sign level) b s none v (λ k fs. rw k refl) tt

  -- what waits takes its operand
  pub sign_had : (level : ℕ) → wants s.next ≡ false → After (Class.Sign level) b s (Some (seen_as Next.OperandOrSpace s.depth))
  unfolding step had sign seen_of next_wanted depth
  sign_had level v =
      after_have (Class.Sign level) b s (then_seen Next.OperandOrSpace) v
      (λ k t l fs. rw k (ap (λ d. Some (seen_as Next.OperandOrSpace d)) (kept level t fs).brackets)) (omega arith)

  pub closes_wanted : wants s.next ≡ true → After Class.Closes b s None
  unfolding step wanted seen_of
  closes_wanted v = after_want Class.Closes b s none v (λ k fs. rw k refl) tt

  pub other : After Class.Other b s None
  other = after_by Class.Other b s None (λ x k e. ap seen_of (other_bad b k x) ∙ none_bad_seen) tt

-- A closing bracket --------------------------------------------------------------------------------------------------------------

-- what is kept of a bracket that is closed, by its depth
abbrev close_seen : ℕ → Option Seen
close_seen zero = None
close_seen (suc d) = Some (seen_as Next.SignOrSpace d)

closed_seen : (s : Bool) (t : Tree) (fs : List Frame) → seen_of (close s (reduce 0 t fs)) ≡ close_seen (depth fs)
unfolding seen_of close reduce depth next_had
closed_seen s t [] = refl
closed_seen s t (opened s' ∷ fs) = refl
closed_seen s t (left l s' b s'' ∷ fs) =
    ap (λ (r : Behind). seen_of (close s r)) (reduce_take 0 t l s' b s'' fs (omega arith)) ∙ closed_seen s (operator l s' b s'' t) fs

module _ (b : ℕ) (s : Seen) where
  closes_seen : wants s.next ≡ false → Keeps Class.Closes b s (close_seen s.depth)
  unfolding step had
  closes_seen v x k e = by_have (Then b (λ z. close_seen z.depth)) (λ t l fs. rw k (closed_seen (spaced? l) t fs)) x s e v

  pub closes_none : wants s.next ≡ false → s.depth ≡ 0 → After Class.Closes b s None
  closes_none v z = after_by Class.Closes b s None (λ x k e. closes_seen v x k e ∙ ap close_seen z) tt

  pub closes_had : wants s.next ≡ false → (s.depth ≡ 0 → ⊥) → After Class.Closes b s (Some (seen_as Next.SignOrSpace (s.depth - 1)))
  closes_had v z = after_by Class.Closes b s _ (λ x k e. closes_seen v x k e ∙ ap close_seen d_is) (omega arith)
    where
      d_is : s.depth ≡ suc (s.depth - 1)
      d_is = omega arith

-- A space, by what may stand next ----------------------------------------------------------------------------------------------------

abbrev space_seen : Next → ℕ → Option Seen
space_seen Next.Operand d = None
space_seen Next.OperandOrSpace d = Some (seen_as Next.Operand d)
space_seen Next.Sign d = None
space_seen Next.SignOrSpace d = Some (seen_as Next.Sign d)
space_seen (Next.SignSpaceOrDigit v) d = Some (seen_as Next.Sign d)

space_wanted : (fs : List Frame) → seen_of (space_before fs) ≡ space_seen (next_wanted fs) (depth fs)
unfolding seen_of space_before next_wanted depth
space_wanted [] = refl
space_wanted (opened true ∷ fs) = refl
space_wanted (opened false ∷ fs) = refl
space_wanted (left l s b true ∷ fs) = refl
space_wanted (left l s b false ∷ fs) = refl

space_had : (t : Tree) (l : Tail) (fs : List Frame) → seen_of (space_behind t l fs) ≡ space_seen (next_had t l) (depth fs)
unfolding seen_of space_behind next_had
space_had t digits fs = refl
space_had t closed fs = refl
space_had t spaced fs = refl

space_then : (b : ℕ) → class b ≡ Class.Space → (x : State) (s : Seen) → seen_of x ≡ Some s
    → seen_of (step x b) ≡ space_seen s.next s.depth
unfolding seen_of step wanted had
space_then b k bad s e = clash s e
space_then b k (want fs) s e = rw k (subst (λ z. seen_of (space_before fs) ≡ space_seen z.next z.depth) (some_same _ s e) (space_wanted fs))
space_then b k (have t l fs) s e = rw k (subst (λ z. seen_of (space_behind t l fs) ≡ space_seen z.next z.depth) (some_same _ s e) (space_had t l fs))

space_deeper : (n : Next) (d : ℕ) → IfSome (space_seen n d) (λ s'. s'.depth ≤ d + 1)
space_deeper Next.Operand d = tt
space_deeper Next.OperandOrSpace d = omega arith
space_deeper Next.Sign d = tt
space_deeper Next.SignOrSpace d = omega arith
space_deeper (Next.SignSpaceOrDigit v) d = omega arith

pub space : (b : ℕ) (s : Seen) (n : Next) → s.next ≡ n → After Class.Space b s (space_seen n s.depth)
space b s n p = rw (← p) (after_by Class.Space b s _ (λ x k e. space_then b k x s e) (space_deeper s.next s.depth))

-- A digit behind an operand ---------------------------------------------------------------------------------------------------------

abbrev longer_seen : ℕ → ℕ → ℕ → Option Seen
longer_seen v d e =
    if eqb v 0 then None else if ltb (10 * v + d) 256 then Some (seen_as (Next.SignSpaceOrDigit (10 * v + d)) e) else None

abbrev digit_seen : Next → ℕ → ℕ → Option Seen
digit_seen Next.Operand d e = None
digit_seen Next.OperandOrSpace d e = None
digit_seen Next.Sign d e = None
digit_seen Next.SignOrSpace d e = None
digit_seen (Next.SignSpaceOrDigit v) d e = longer_seen v d e

pick_seen : (x y : Bool) (a : State) (r : Option Seen) → seen_of a ≡ r
    → seen_of (if x then bad else if y then a else bad) ≡ (if x then None else if y then r else None)
unfolding seen_of
pick_seen true y a r e = refl
pick_seen false true a r e = e
pick_seen false false a r e = refl

longer_had : (t : Tree) (d : ℕ) (fs : List Frame) → seen_of (longer (value t) d fs) ≡ longer_seen (value t) d (depth fs)
unfolding longer value seen_of
longer_had (letter x) d fs = refl
longer_had (number v) d fs = pick_seen (eqb v 0) (ltb (10 * v + d) 256) (have (number (10 * v + d)) digits fs) _ (unfold next_had in refl)
longer_had (bracket s t s') d fs = refl
longer_had (operator l s x s' r) d fs = refl

digit_had : (t : Tree) (l : Tail) (d : ℕ) (fs : List Frame) → seen_of (digit_behind t l d fs) ≡ digit_seen (next_had t l) d (depth fs)
unfolding digit_behind next_had seen_of
digit_had t digits d fs = longer_had t d fs
digit_had t closed d fs = refl
digit_had t spaced d fs = refl

module _ (b : ℕ) (s : Seen) where
  digit_then : wants s.next ≡ false → Keeps Class.Digit b s (digit_seen s.next (b - 48) s.depth)
  unfolding step had
  digit_then v x k e =
      by_have (Then b (λ z. digit_seen z.next (b - 48) z.depth)) (λ t l fs. rw k (digit_had t l (b - 48) fs)) x s e v

  pub digit_none : (n : Next) → s.next ≡ n → wants n ≡ false → digit_seen n (b - 48) s.depth ≡ None → After Class.Digit b s None
  digit_none n p v q =
      after_by Class.Digit b s None (λ x k e. digit_then (ap wants p ∙ v) x k e ∙ ap (λ z. digit_seen z (b - 48) s.depth) p ∙ q) tt

  pub longer_none : (v : ℕ) → s.next ≡ Next.SignSpaceOrDigit v → (v ≡ 0) ⊎ (256 ≤ 10 * v + (b - 48)) → After Class.Digit b s None
  longer_none v p (inl z) = digit_none (Next.SignSpaceOrDigit v) p refl (rw (eq-eqb v 0 z) refl)
  longer_none v p (inr z) = digit_none (Next.SignSpaceOrDigit v) p refl (by (dec_lt 0 v))
    where
      by : Dec (0 < v) → digit_seen (Next.SignSpaceOrDigit v) (b - 48) s.depth ≡ None
      by (no e) = rw (eq-eqb v 0 (omega arith)) refl
      by (yes e) = rw (ne_eqb v 0 (λ h. omega arith), le-ltb (10 * v + (b - 48)) 256 z) refl

  pub longer_some : (v n : ℕ) → s.next ≡ Next.SignSpaceOrDigit v → (v ≡ 0 → ⊥) → n ≡ 10 * v + (b - 48) → n < 256
      → After Class.Digit b s (Some (seen_as (Next.SignSpaceOrDigit n) s.depth))
  longer_some v n p z is l =
      rw is
      (after_by Class.Digit b s _
      (λ x k e.
      digit_then (ap wants p) x k e ∙ ap (λ y. digit_seen y (b - 48) s.depth) p
      ∙ rw (ne_eqb v 0 z, lt-ltb (10 * v + (b - 48)) 256 (omega arith)) refl)
      (omega arith))

-- a byte of the class c is a byte of its class
pub of_class : (b : ℕ) (s : Seen) (r : Option Seen) (c : Class) → c ≡ class b → After c b s r → After (class b) b s r
of_class b s r c e a = rw (← e) a

pub start_flat : (s : Seen) → seen_of (reading []) ≡ Some s → s.depth ≤ 0
unfolding run seen_of next_wanted depth
start_flat s e = rw (← some_same _ s e) (omega arith)
