-- Whatever is read is a formula of those bytes.
use Rattle.std.specs.Prelude.{if◌then◌else◌, Some}
use mathlib.Core.Path.{◌≡◌, refl, sym, ap, ◌∙◌, subst}
use mathlib.Core.Bool.{Bool, true, false}
use mathlib.Core.List.{List, [], ◌∷◌, ◌++◌, append_assoc, append-nil}
use Prim.Native.Nat.{ℕ, suc, ◌+◌, ◌*◌, ◌-◌, ◌<◌, ◌≤◌, ◌%◌}
use native.Mathlib.Omega.{arith}
use native.Mathlib.Decide.{dec_le}
use lib.Dec.{eqb, ltb}
use borrow.Author.Tests.{ltb-true, eqb-false}
use Rattle.plan.specs.Text.{decimal}
use Rattle.plan.proofs.Decimals.{decimal_one, decimal_more}
use Rattle.formula.specs.declared.token.Class.{Class}
use Rattle.formula.specs.Tokens.{level, class, gap}
use Rattle.formula.specs.Formula.{Tree, bytes}
use Tree.{letter, number, bracket, operator}
use Rattle.formula.specs.Parse.{Frame, Tail, State, Behind, behind, spaced?, reduce, space_before, space_behind, longer, digit_behind, value, close, sign, wanted, had, step, run, whole, ended, parse}
use Frame.{opened, left}
use Tail.{digits, closed, spaced}
use State.{bad, want, have}
use Rattle.formula.proofs.Constructors.{clash, some_same}
use Rattle.formula.proofs.Fits.{Fits}
use Rattle.formula.proofs.Classes.{Is, is}
use Rattle.formula.proofs.Reading.{hole, reduce_take, reduce_stop}

-- the bytes that the frames stand for
unfoldable pub text : List Frame → List ℕ
text [] = []
text (opened s ∷ fs) = text fs ++ (40 ∷ gap s)
text (left l s b s' ∷ fs) = text fs ++ (bytes l ++ (gap s ++ (b ∷ gap s')))

-- the frames take an operand of the level of their hole, and are then formulas
unfoldable pub Ordered : List Frame → Type 0
Ordered [] = Unit {0}
Ordered (opened s ∷ fs) = Ordered fs
Ordered (left l s b s' ∷ fs) = (hole fs ≤ level b) × (level b < 5) × Fits (level b) l × Ordered fs

-- the bytes w were read
unfoldable pub Read : State → List ℕ → Type 0
Read bad w = Unit {0}
Read (want fs) w = Ordered fs × (text fs ≡ w)
Read (have t e fs) w = Ordered fs × Fits 5 t × (text fs ++ (bytes t ++ gap (spaced? e)) ≡ w)

fits_down : (t : Tree) (j k : ℕ) → j ≤ k → Fits k t → Fits j t
unfolding Fits
fits_down (letter b) j k h f = f
fits_down (number v) j k h f = f
fits_down (bracket s t s') j k h f = f
fits_down (operator l s b s' r) j k h f = (omega (arith, f.0), f.1, f.2, f.3)

record Lowered (k : ℕ) (t : Tree) (fs : List Frame) (r : Behind) : Type 0 where
  room : Ordered r.frames
  fits : Fits k r.tree
  below : hole r.frames ≤ k
  same : text r.frames ++ bytes r.tree ≡ text fs ++ bytes t

op_fits : (l : Tree) (s : Bool) (b : ℕ) (s' : Bool) (r : Tree) → level b < 5 → Fits (level b) l → Fits (suc (level b)) r
    → Fits (level b) (operator l s b s' r)
unfolding Fits
op_fits l s b s' r h f g = (omega arith, h, f, g)

op_text : (l : Tree) (s : Bool) (b : ℕ) (s' : Bool) (r : Tree) (fs : List Frame)
    → text fs ++ bytes (operator l s b s' r) ≡ text (left l s b s' ∷ fs) ++ bytes r
unfolding text bytes
op_text l s b s' r fs = simp append_assoc

lowered_left : (k m : ℕ) (t l : Tree) (s : Bool) (b : ℕ) (s' : Bool) (fs : List Frame) → Ordered (left l s b s' ∷ fs) → Fits m t
    → suc (level b) ≤ m → k ≤ m → Dec (k ≤ level b)
    → ((x : Tree) → Ordered fs → Fits (level b) x → hole fs ≤ level b → k ≤ level b → Lowered k x fs (reduce k x fs))
    → Lowered k t (left l s b s' ∷ fs) (reduce k t (left l s b s' ∷ fs))
unfolding Ordered
lowered_left k m t l s b s' fs room f h g (yes d) go =
    let r : Lowered k (operator l s b s' t) fs (reduce k (operator l s b s' t) fs) = go (operator l s b s' t) room.3 (op_fits l s b s' t room.1 room.2 (fits_down t (suc (level b)) m h f)) room.0 d in
    rw (reduce_take k t l s b s' fs d) (record { room = r.room; fits = r.fits; below = r.below; same = r.same ∙ op_text l s b s' t fs })
lowered_left k m t l s b s' fs room f h g (no d) go =
    rw (reduce_stop k t l s b s' fs (omega arith)) (record { room = room; fits = fits_down t k m g f; below = unfold hole in (omega arith); same = refl })

lowered : (k m : ℕ) (t : Tree) (fs : List Frame) → Ordered fs → Fits m t → hole fs ≤ m → k ≤ m → Lowered k t fs (reduce k t fs)
unfolding reduce hole
lowered k m t [] room f h g = record { room = room; fits = fits_down t k m g f; below = omega arith; same = refl }
lowered k m t (opened s ∷ fs) room f h g = record { room = room; fits = fits_down t k m g f; below = omega arith; same = refl }
lowered k m t (left l s b s' ∷ fs) room f h g =
    lowered_left k m t l s b s' fs room f h g (dec_le k (level b)) (λ x room' f' h' g'. lowered k (level b) x fs room' f' h' g')

hole_small : (fs : List Frame) → Ordered fs → hole fs ≤ 5
unfolding hole Ordered
hole_small [] room = omega arith
hole_small (opened s ∷ fs) room = omega arith
hole_small (left l s b s' ∷ fs) room = omega (arith, room.1)

-- One byte more, where an operand is wanted --------------------------------------------------------------------------------

space_in_read : (fs : List Frame) → Ordered fs → Read (space_before fs) (text fs ++ (32 ∷ []))
unfolding Read space_before text Ordered
space_in_read [] room = tt
space_in_read (opened true ∷ fs) room = tt
space_in_read (opened false ∷ fs) room = (room, simp append_assoc)
space_in_read (left l s b true ∷ fs) room = tt
space_in_read (left l s b false ∷ fs) room = (room, simp append_assoc)

abbrev alone : ℕ → List ℕ
alone b = b ∷ []

digit_decimal : (b : ℕ) → 48 ≤ b → b < 58 → decimal (b - 48) ≡ b ∷ []
digit_decimal b l h = decimal_one (b - 48) (omega arith) ∙ ap alone (omega arith)

wanting_read : (c : Class) (b : ℕ) (fs : List Frame) → Is c b → Ordered fs → Read (wanted c b fs) (text fs ++ (b ∷ []))
unfolding Read wanted Is Ordered text bytes Fits
wanting_read (Class.Sign k) b fs i room = tt
wanting_read Class.Space b fs i room = rw i (space_in_read fs room)
wanting_read Class.Opens b fs i room = (room, rw i refl)
wanting_read Class.Closes b fs i room = tt
wanting_read Class.Letter b fs i room = (room, i, refl)
wanting_read Class.Digit b fs i room = (room, omega (arith, i.1), rw (digit_decimal b i.0 i.1) refl)
wanting_read Class.Other b fs i room = tt

-- One byte more, behind an operand --------------------------------------------------------------------------------------

abbrev behind_text : Tree → Tail → List Frame → List ℕ
behind_text t e fs = text fs ++ (bytes t ++ gap (spaced? e))

space_behind_read : (t : Tree) (e : Tail) (fs : List Frame) → Ordered fs → Fits 5 t
    → Read (space_behind t e fs) (behind_text t e fs ++ (32 ∷ []))
unfolding Read space_behind
space_behind_read t digits fs room f = (room, f, simp append_assoc)
space_behind_read t closed fs room f = (room, f, simp append_assoc)
space_behind_read t spaced fs room f = tt

decimal_longer : (v d : ℕ) → 0 < v → d < 10 → decimal (10 * v + d) ≡ decimal v ++ ((48 + d) ∷ [])
decimal_longer v d p h =
    decimal_more (10 * v + d) (omega arith)
    ∙ ap (λ (n : ℕ). decimal n ++ ((48 + (10 * v + d) % 10) ∷ [])) (omega arith)
    ∙ ap (λ (n : ℕ). decimal v ++ ((48 + n) ∷ [])) (omega arith)

pick_read : (x : Bool) (s s' : State) (w : List ℕ) → (x ≡ true → Read s w) → (x ≡ false → Read s' w) → Read (if x then s else s') w
pick_read true s s' w y n = y refl
pick_read false s s' w y n = n refl

longer_got : (v d : ℕ) (fs : List Frame) → Ordered fs → d < 10 → 0 < v → 10 * v + d < 256
    → Read (have (number (10 * v + d)) digits fs) (behind_text (number v) digits fs ++ ((48 + d) ∷ []))
unfolding Read Fits bytes
longer_got v d fs room h p l = (room, l, rw (decimal_longer v d p h) (simp (append_assoc, append-nil)))

bad_read : (w : List ℕ) → Read bad w
unfolding Read
bad_read w = tt

nonzero : (n : ℕ) → (n ≡ 0 → ⊥) → 0 < n
nonzero n ne = omega arith

longer_read : (v d : ℕ) (fs : List Frame) → Ordered fs → d < 10
    → Read (longer v d fs) (behind_text (number v) digits fs ++ ((48 + d) ∷ []))
unfolding longer
longer_read v d fs room h =
    pick_read (eqb v 0) _ _ _ (λ e. bad_read _) λ e.
    pick_read (ltb (10 * v + d) 256) _ _ _ (λ l. longer_got v d fs room h (nonzero v (eqb-false v 0 e)) (ltb-true _ _ l)) (λ l. bad_read _)

digit_behind_read : (t : Tree) (e : Tail) (d : ℕ) (fs : List Frame) → Ordered fs → d < 10
    → Read (digit_behind t e d fs) (behind_text t e fs ++ ((48 + d) ∷ []))
unfolding digit_behind value
digit_behind_read (letter b) digits d fs room h = unfold longer in (bad_read _)
digit_behind_read (number v) digits d fs room h = longer_read v d fs room h
digit_behind_read (bracket s t s') digits d fs room h = unfold longer in (bad_read _)
digit_behind_read (operator l s b s' r) digits d fs room h = unfold longer in (bad_read _)
digit_behind_read t closed d fs room h = bad_read _
digit_behind_read t spaced d fs room h = bad_read _

close_read : (x : Tree) (gs : List Frame) (s' : Bool) → Ordered gs → Fits 0 x
    → Read (close s' (behind x gs)) ((text gs ++ (bytes x ++ gap s')) ++ (41 ∷ []))
unfolding close Read text bytes Ordered Fits
close_read x [] s' room f = tt
close_read x (opened s ∷ gs) s' room f = (room, f, simp (append_assoc, append-nil))
close_read x (left l s b s'' ∷ gs) s' room f = tt

sign_read : (x : Tree) (gs : List Frame) (s : Bool) (b : ℕ) → Ordered gs → hole gs ≤ level b → level b < 5 → Fits (level b) x
    → Read (sign s b (behind x gs)) ((text gs ++ (bytes x ++ gap s)) ++ (b ∷ []))
unfolding sign Read text Ordered
sign_read x gs s b room h l f = ((h, l, f, room), simp append_assoc)

shift : (p q p' q' g : List ℕ) → p ++ q ≡ p' ++ q' → p ++ (q ++ g) ≡ p' ++ (q' ++ g)
shift p q p' q' g e = sym (append_assoc p q g) ∙ ap (λ (l : List ℕ). l ++ g) e ∙ append_assoc p' q' g

having_read : (c : Class) (b : ℕ) (t : Tree) (e : Tail) (fs : List Frame) → Is c b → Ordered fs → Fits 5 t
    → Read (had c b t e fs) (behind_text t e fs ++ (b ∷ []))
unfolding had Is
having_read (Class.Sign k) b t e fs i room f =
    let r : Behind = reduce (level b) t fs in
    let w : Lowered (level b) t fs r = lowered (level b) 5 t fs room f (hole_small fs room) (omega (arith, i.1)) in
    rw i.0
    (subst (λ (v : List ℕ). Read (sign (spaced? e) b r) (v ++ (b ∷ [])))
    (shift (text r.frames) (bytes r.tree) (text fs) (bytes t) (gap (spaced? e)) w.same)
    (sign_read r.tree r.frames (spaced? e) b w.room w.below i.1 w.fits))
having_read Class.Space b t e fs i room f = rw i (space_behind_read t e fs room f)
having_read Class.Opens b t e fs i room f = bad_read _
having_read Class.Closes b t e fs i room f =
    let r : Behind = reduce 0 t fs in
    let w : Lowered 0 t fs r = lowered 0 5 t fs room f (hole_small fs room) (omega arith) in
    rw i
    (subst (λ (v : List ℕ). Read (close (spaced? e) r) (v ++ (41 ∷ [])))
    (shift (text r.frames) (bytes r.tree) (text fs) (bytes t) (gap (spaced? e)) w.same)
    (close_read r.tree r.frames (spaced? e) w.room w.fits))
having_read Class.Letter b t e fs i room f = bad_read _
having_read Class.Digit b t e fs i room f =
    subst (λ (n : ℕ). Read (digit_behind t e (b - 48) fs) (behind_text t e fs ++ (n ∷ []))) (omega (arith, i.0)) (digit_behind_read t e (b - 48) fs room (omega (arith, i.1)))
having_read Class.Other b t e fs i room f = bad_read _

-- The whole ---------------------------------------------------------------------------------------------------------------

step_read : (s : State) (w : List ℕ) (b : ℕ) → Read s w → Read (step s b) (w ++ (b ∷ []))
unfolding step Read
step_read bad w b r = tt
step_read (want fs) w b r = rw (← r.1) (wanting_read (class b) b fs (is b) r.0)
step_read (have t e fs) w b r = rw (← r.2) (having_read (class b) b t e fs (is b) r.0 r.1)

pub run_read : (s : State) (w v : List ℕ) → Read s w → Read (run s v) (w ++ v)
unfolding run
run_read s w [] r = rw append-nil r
run_read s w (b ∷ v) r = rw (← append_assoc w (b ∷ []) v) (run_read (step s b) (w ++ (b ∷ [])) v (step_read s w b r))

-- A tree that the reading ends with
pub record Done (t : Tree) (w : List ℕ) : Type 0 where
  pub fits : Fits 0 t
  pub same : bytes t ≡ w

whole_done : (x : Tree) (gs : List Frame) (t : Tree) (w : List ℕ) → whole (behind x gs) ≡ Some t → Fits 0 x → text gs ++ bytes x ≡ w
    → Done t w
unfolding whole text
whole_done x [] t w e f same =
    let z = some_same x t e in
    subst (λ (y : Tree). Done y w) z (record { fits = f; same = same })
whole_done x (g ∷ gs) t w e f same = clash t e

have_done : (t : Tree) (fs : List Frame) (x : Tree) (w : List ℕ) → Ordered fs → Fits 5 t → text fs ++ (bytes t ++ []) ≡ w
    → whole (reduce 0 t fs) ≡ Some x → Done x w
have_done t fs x w room f same e =
    let l : Lowered 0 t fs (reduce 0 t fs) = lowered 0 5 t fs room f (hole_small fs room) (omega arith) in
    whole_done (reduce 0 t fs).tree (reduce 0 t fs).frames x w e l.fits (l.same ∙ (rw append-nil at same))

done_read : (s : State) (w : List ℕ) (t : Tree) → Read s w → ended s ≡ Some t → Done t w
unfolding Read ended
done_read bad w t r e = clash t e
done_read (want fs) w t r e = clash t e
done_read (have x digits fs) w t r e = have_done x fs t w r.0 r.1 r.2 e
done_read (have x closed fs) w t r e = have_done x fs t w r.0 r.1 r.2 e
done_read (have x spaced fs) w t r e = clash t e

pub start_read : Read (want []) []
unfolding Read Ordered text
start_read = (tt, refl)

-- Whatever is read is a formula, and yields the bytes that were read
pub parsed : (w : List ℕ) (t : Tree) → parse w ≡ Some t → Done t w
unfolding parse
parsed w t e = done_read (run (want []) w) w t (run_read (want []) [] w start_read) e
