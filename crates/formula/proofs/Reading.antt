-- The reading, a step at a time.
use Rattle.std.specs.Prelude.{if◌then◌else◌}
use mathlib.Core.Path.{◌≡◌, refl, ap, ◌∙◌}
use mathlib.Core.Bool.{Bool, true, false}
use mathlib.Core.List.{List, [], ◌∷◌, ◌++◌}
use Prim.Native.Nat.{ℕ, suc, ◌+◌, ◌*◌, ◌-◌, ◌<◌, ◌≤◌}
use native.Mathlib.Omega.{arith}
use native.Mathlib.Decide.{dec_le}
use borrow.Author.Tests.{lt-ltb, le-leb, lt-leb, ne_eqb}
use Rattle.formula.specs.declared.token.Class.{Class}
use Rattle.formula.specs.Tokens.{level, class, gap}
use Rattle.formula.specs.Formula.{Tree}
use Tree.{letter, number, bracket, operator}
use Rattle.formula.specs.Parse.{Frame, Tail, State, Behind, behind, spaced?, reduce, space_before, space_behind, longer, digit_behind, value, close, sign, wanted, had, step, run}
use Frame.{opened, left}
use Tail.{digits, closed, spaced}
use State.{bad, want, have}
use Rattle.formula.proofs.Classes.{class_sign, class_letter, class_digit}

pub run_append : (s : State) (v w : List ℕ) → run s (v ++ w) ≡ run (run s v) w
unfolding run
run_append s [] w = refl
run_append s (b ∷ v) w = run_append (step s b) v w

pub run_cons : (s : State) (b : ℕ) (w : List ℕ) → run s (b ∷ w) ≡ run (step s b) w
unfolding run
run_cons s b w = refl

pub run_nil : (s : State) → run s [] ≡ s
unfolding run
run_nil s = refl

pub close_open : (s' s : Bool) (t : Tree) (fs : List Frame) → close s' (behind t (opened s ∷ fs)) ≡ have (bracket s t s') closed fs
unfolding close
close_open s' s t fs = refl

pub sign_is : (s : Bool) (b : ℕ) (t : Tree) (fs : List Frame) → sign s b (behind t fs) ≡ want (left t s b false ∷ fs)
unfolding sign
sign_is s b t fs = refl

pub reduce_take : (k : ℕ) (t l : Tree) (s : Bool) (b : ℕ) (s' : Bool) (fs : List Frame) → k ≤ level b
    → reduce k t (left l s b s' ∷ fs) ≡ reduce k (operator l s b s' t) fs
unfolding reduce
reduce_take k t l s b s' fs h = simp (reduce, le-leb k (level b) h)

pub reduce_stop : (k : ℕ) (t l : Tree) (s : Bool) (b : ℕ) (s' : Bool) (fs : List Frame) → level b < k
    → reduce k t (left l s b s' ∷ fs) ≡ behind t (left l s b s' ∷ fs)
unfolding reduce
reduce_stop k t l s b s' fs h = simp (reduce, lt-leb k (level b) h)

-- the level from which an operand may stand here
unfoldable pub hole : List Frame → ℕ
hole [] = 0
hole (opened s ∷ fs) = 0
hole (left l s b s' ∷ fs) = suc (level b)

pub reduce_idle : (k : ℕ) (t : Tree) (fs : List Frame) → hole fs ≤ k → reduce k t fs ≡ behind t fs
unfolding reduce hole
reduce_idle k t [] h = refl
reduce_idle k t (opened s ∷ fs) h = refl
reduce_idle k t (left l s b s' ∷ fs) h = reduce_stop k t l s b s' fs h

-- to go down in two steps is to go down at once
abbrev again : ℕ → Behind → Behind
again j r = reduce j r.tree r.frames

twice_left : (j k : ℕ) (t l : Tree) (s : Bool) (b : ℕ) (s' : Bool) (fs : List Frame) → j ≤ k → Dec (k ≤ level b)
    → reduce j (operator l s b s' t) fs ≡ again j (reduce k (operator l s b s' t) fs)
    → reduce j t (left l s b s' ∷ fs) ≡ again j (reduce k t (left l s b s' ∷ fs))
twice_left j k t l s b s' fs h (yes m) e = rw (reduce_take k t l s b s' fs m) (reduce_take j t l s b s' fs (omega arith) ∙ e)
twice_left j k t l s b s' fs h (no m) e = rw (reduce_stop k t l s b s' fs (omega arith)) refl

pub reduce_twice : (j k : ℕ) (t : Tree) (fs : List Frame) → j ≤ k → reduce j t fs ≡ again j (reduce k t fs)
unfolding reduce
reduce_twice j k t [] h = refl
reduce_twice j k t (opened s ∷ fs) h = refl
reduce_twice j k t (left l s b s' ∷ fs) h = twice_left j k t l s b s' fs h (dec_le k (level b)) (reduce_twice j k (operator l s b s' t) fs h)

pub gap_in_open : (s : Bool) (fs : List Frame) → run (want (opened false ∷ fs)) (gap s) ≡ want (opened s ∷ fs)
unfolding run step wanted class level space_before
gap_in_open true fs = refl
gap_in_open false fs = refl

pub gap_in_left : (l : Tree) (s : Bool) (b : ℕ) (s' : Bool) (fs : List Frame)
    → run (want (left l s b false ∷ fs)) (gap s') ≡ want (left l s b s' ∷ fs)
unfolding run step wanted class level space_before
gap_in_left l s b true fs = refl
gap_in_left l s b false fs = refl

-- how an operand ends once a space was read behind it, or None
abbrev pub after : Tail → Bool → Tail
after e true = spaced
after e false = e

pub gap_behind : (t : Tree) (e : Tail) (s : Bool) (fs : List Frame) → spaced? e ≡ false
    → run (have t e fs) (gap s) ≡ have t (after e s) fs
unfolding run step had class level space_behind
gap_behind t e false fs h = refl
gap_behind t digits true fs h = refl
gap_behind t closed true fs h = refl
gap_behind t spaced true fs h = cc

pub after_spaced : (e : Tail) (s : Bool) → spaced? e ≡ false → spaced? (after e s) ≡ s
after_spaced e true h = refl
after_spaced e false h = h

pub run_letter : (b : ℕ) (fs : List Frame) → 97 ≤ b → b < 123 → run (want fs) (b ∷ []) ≡ have (letter b) closed fs
unfolding run step wanted
run_letter b fs l h = rw (class_letter b l h)

pub run_open : (fs : List Frame) → step (want fs) 40 ≡ want (opened false ∷ fs)
unfolding step wanted class level
run_open fs = refl

pub run_close : (t : Tree) (e : Tail) (fs : List Frame) → step (have t e fs) 41 ≡ close (spaced? e) (reduce 0 t fs)
unfolding step had class level
run_close t e fs = refl

pub run_sign : (b : ℕ) (t : Tree) (e : Tail) (fs : List Frame) → level b < 5
    → step (have t e fs) b ≡ sign (spaced? e) b (reduce (level b) t fs)
unfolding step had
run_sign b t e fs h = rw (class_sign b h)

pub run_first : (d : ℕ) (fs : List Frame) → d < 10 → step (want fs) (48 + d) ≡ have (number d) digits fs
unfolding step wanted
run_first d fs h = rw (class_digit (48 + d) (omega arith) (omega arith)) (ap (λ (v : ℕ). have (number v) digits fs) (omega arith))

pub run_next : (v d : ℕ) (fs : List Frame) → d < 10 → 0 < v → 10 * v + d < 256
    → step (have (number v) digits fs) (48 + d) ≡ have (number (10 * v + d)) digits fs
unfolding step had digit_behind value longer
run_next v d fs h p q =
    rw (class_digit (48 + d) (omega arith) (omega arith)) (sub ∙ simp (ne_eqb v 0 (λ e. omega arith), lt-ltb (10 * v + d) 256 q))
  where
    sub : longer v (48 + d - 48) fs ≡ longer v d fs
    sub = ap (λ (x : ℕ). longer v x fs) (omega arith)

pub other_bad : (b : ℕ) → class b ≡ Class.Other → (x : State) → step x b ≡ bad
unfolding step wanted had
other_bad b c bad = refl
other_bad b c (want fs) = rw c refl
other_bad b c (have t e fs) = rw c refl

-- a state chosen twice, where the choice is not the bad one
pub pick_good : (P : State → Type 0) (x y : Bool) (a : State) → P a → ((if x then bad else if y then a else bad) ≡ bad → ⊥)
    → P (if x then bad else if y then a else bad)
pick_good P true y a h g = absurd (g refl)
pick_good P false true a h g = h
pick_good P false false a h g = absurd (g refl)
