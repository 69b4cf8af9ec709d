-- Every formula is read as itself: the central law, by the tree.
use Rattle.std.specs.Prelude.{Some}
use mathlib.Core.Path.{◌≡◌, refl, ap, ◌∙◌}
use mathlib.Core.Bool.{Bool, false}
use mathlib.Core.List.{List, [], ◌∷◌}
use Prim.Native.Nat.{ℕ, suc, ◌+◌, ◌<◌, ◌≤◌, ◌/◌, ◌%◌}
use native.Mathlib.Omega.{arith}
use native.Mathlib.Decide.{dec_lt}
use Rattle.plan.specs.Text.{decimal}
use Rattle.plan.proofs.Decimals.{decimal_one, decimal_more}
use Rattle.formula.specs.Tokens.{level}
use Rattle.formula.specs.Formula.{Tree, bytes}
use Tree.{letter, number, bracket, operator}
use Rattle.formula.specs.Parse.{Frame, Tail, State, Behind, behind, spaced?, reduce, step, run, whole, ended, parse}
use Frame.{opened, left}
use Tail.{digits, closed, spaced}
use State.{want, have}
use Rattle.formula.proofs.Constructors.{true_false}
use Rattle.formula.proofs.Fits.{Fits}
use Rattle.formula.proofs.Reading.{hole, after, run_append, run_cons, run_nil, close_open, sign_is, reduce_take, reduce_idle, reduce_twice, gap_in_open, gap_in_left, gap_behind, after_spaced, run_letter, run_open, run_close, run_sign, run_first, run_next}

-- The tree t was read behind the frames fs: what stands there, let down to level k, is t behind fs
pub record Reached (k : ℕ) (t : Tree) (fs : List Frame) : Type 0 where
  pub last : Tree
  pub tail : Tail
  pub frames : List Frame
  pub ran : run (want fs) (bytes t) ≡ have last tail frames
  pub unspaced : spaced? tail ≡ false
  pub down : reduce k last frames ≡ behind t fs

run_one : (d : ℕ) (fs : List Frame) → d < 10 → run (want fs) (decimal d) ≡ have (number d) digits fs
unfolding run
run_one d fs h = rw (decimal_one d h) (run_first d fs h)

run_more : (v : ℕ) (fs : List Frame) → 10 ≤ v → v < 256 → run (want fs) (decimal (v / 10)) ≡ have (number (v / 10)) digits fs
    → run (want fs) (decimal v) ≡ have (number v) digits fs
unfolding run
run_more v fs l h e =
    rw (decimal_more v l) (run_append (want fs) (decimal (v / 10)) ((48 + v % 10) ∷ [])
    ∙ ap (λ (s : State). step s (48 + v % 10)) e
    ∙ run_next (v / 10) (v % 10) fs (omega arith) (omega arith) (omega arith)
    ∙ ap (λ (n : ℕ). have (number n) digits fs) (omega arith))

run_number : (v : ℕ) (fs : List Frame) → v < 256 → run (want fs) (decimal v) ≡ have (number v) digits fs
run_number v fs h = by (dec_lt v 10) (dec_lt v 100)
  where
    two : (w : ℕ) → w < 100 → Dec (w < 10) → run (want fs) (decimal w) ≡ have (number w) digits fs
    two w l (yes m) = run_one w fs m
    two w l (no m) = run_more w fs (omega arith) (omega arith) (run_one (w / 10) fs (omega arith))

    by : Dec (v < 10) → Dec (v < 100) → run (want fs) (decimal v) ≡ have (number v) digits fs
    by (yes m) n = run_one v fs m
    by (no m) (yes n) = two v n (no m)
    by (no m) (no n) = run_more v fs (omega arith) h (two (v / 10) (omega arith) (dec_lt (v / 10) 10))

-- The bytes of a bracket, and of an operator, piece by piece
bracket_ran : (s : Bool) (t : Tree) (s' : Bool) (fs : List Frame) (last : Tree) (tail : Tail) (frames : List Frame)
    → run (want (opened s ∷ fs)) (bytes t) ≡ have last tail frames → spaced? tail ≡ false
    → reduce 0 last frames ≡ behind t (opened s ∷ fs) → run (want fs) (bytes (bracket s t s')) ≡ have (bracket s t s') closed fs
unfolding bytes
bracket_ran s t s' fs last tail frames ran unspaced down =
    rw (run_cons, run_open fs, run_append, gap_in_open s fs, run_append, ran, run_append, gap_behind last tail s' frames unspaced, run_cons, run_close last (after tail s') frames, after_spaced tail s' unspaced, down, close_open s' s t fs, run_nil)

op_ran : (l : Tree) (s : Bool) (b : ℕ) (s' : Bool) (r : Tree) (fs : List Frame) (last : Tree) (tail : Tail) (frames : List Frame)
    → level b < 5 → run (want fs) (bytes l) ≡ have last tail frames → spaced? tail ≡ false → reduce (level b) last frames ≡ behind l fs
    → run (want fs) (bytes (operator l s b s' r)) ≡ run (want (left l s b s' ∷ fs)) (bytes r)
unfolding bytes
op_ran l s b s' r fs last tail frames n ran unspaced down =
    rw (run_append, ran, run_append, gap_behind last tail s frames unspaced, run_cons, run_sign b last (after tail s) frames n, after_spaced tail s unspaced, down, sign_is s b l fs, run_append, gap_in_left l s b s' fs)

-- a bracket's inside was read
close_up : (k : ℕ) (s : Bool) (t : Tree) (s' : Bool) (fs : List Frame) → hole fs ≤ k → Reached 0 t (opened s ∷ fs)
    → Reached k (bracket s t s') fs
close_up k s t s' fs h r =
    record { last = bracket s t s'; tail = closed; frames = fs; ran = went; unspaced = refl; down = reduce_idle k _ fs h }
  where
    went : run (want fs) (bytes (bracket s t s')) ≡ have (bracket s t s') closed fs
    went = bracket_ran s t s' fs r.last r.tail r.frames r.ran r.unspaced r.down

-- both operands were read
join : (k : ℕ) (l : Tree) (s : Bool) (b : ℕ) (s' : Bool) (r : Tree) (fs : List Frame) → k ≤ level b → level b < 5 → hole fs ≤ k
    → Reached (level b) l fs → Reached (suc (level b)) r (left l s b s' ∷ fs) → Reached k (operator l s b s' r) fs
join k l s b s' r fs m n h a c =
    record { last = c.last; tail = c.tail; frames = c.frames; ran = went; unspaced = c.unspaced; down = fell }
  where
    went : run (want fs) (bytes (operator l s b s' r)) ≡ have c.last c.tail c.frames
    went = op_ran l s b s' r fs a.last a.tail a.frames n a.ran a.unspaced a.down ∙ c.ran

    fell : reduce k c.last c.frames ≡ behind (operator l s b s' r) (fs)
    fell =
        reduce_twice k (suc (level b)) c.last c.frames (omega arith)
        ∙ ap (λ (x : Behind). reduce k x.tree x.frames) c.down
        ∙ reduce_take k r l s b s' fs m
        ∙ reduce_idle k (operator l s b s' r) fs h

reached : (t : Tree) (k : ℕ) (fs : List Frame) → Fits k t → hole fs ≤ k → Reached k t fs
unfolding Fits bytes hole
reached (letter b) k fs f h =
    record { last = letter b; tail = closed; frames = fs; ran = run_letter b fs f.0 f.1; unspaced = refl; down = reduce_idle k _ fs h }
reached (number v) k fs f h =
    record { last = number v; tail = digits; frames = fs; ran = run_number v fs f; unspaced = refl; down = reduce_idle k _ fs h }
reached (bracket s t s') k fs f h = close_up k s t s' fs h (reached t 0 (opened s ∷ fs) f (omega arith))
reached (operator l s b s' r) k fs f h =
    join k l s b s' r fs f.0 f.1 h (reached l (level b) fs f.2 (omega (arith, f.0))) (reached r (suc (level b)) (left l s b s' ∷ fs) f.3 (omega arith))

done_is : (t : Tree) (e : Tail) (fs : List Frame) → spaced? e ≡ false → ended (have t e fs) ≡ whole (reduce 0 t fs)
unfolding ended
done_is t digits fs h = refl
done_is t closed fs h = refl
done_is t spaced fs h = true_false h

-- Every formula is accepted, and read as itself
pub parse_of_bytes : (t : Tree) → Fits 0 t → parse (bytes t) ≡ Some t
unfolding parse whole hole
parse_of_bytes t f =
    let r : Reached 0 t [] = reached t 0 [] f (omega arith) in
    ap ended r.ran ∙ done_is r.last r.tail r.frames r.unspaced ∙ ap whole r.down
