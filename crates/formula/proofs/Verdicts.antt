-- What the first pass ends with says what the formula comes to.
use Rattle.std.specs.Prelude.{Option, None, Some, Result, Ok, Err, ok_or, if◌then◌else◌}
use mathlib.Core.Path.{◌≡◌, refl, sym, ap, ◌∙◌, subst}
use mathlib.Core.Bool.{true, false}
use mathlib.Core.List.{List, [], ◌∷◌, ◌++◌, append_assoc}
use Prim.Native.Nat.{ℕ, zero, suc, ◌+◌, ◌*◌, ◌<◌, ◌≤◌}
use native.Mathlib.Omega.{arith}
use native.Mathlib.Decide.{dec_lt}
use lib.Dec.{ltb}
use lib.ListN.{length, length-append, take, drop, get_or}
use lib.Seq.{drop-cons}
use Rattle.std.proofs.lemmas.List.{take-append-drop}
use borrow.Author.Tests.{lt-ltb, le-ltb}
use Rattle.plan.specs.Sheet.{Expr, Outcome, refused, done, refuse◌when◌else◌, ◌then◌}
use Rattle.formula.specs.declared.refusal.Refusal.{Refusal}
use Rattle.formula.specs.declared.seen.Next.{Next}
use Rattle.formula.specs.declared.seen.Seen.{Seen}
use Rattle.formula.specs.declared.items.Kind.{Kind}
use Rattle.formula.specs.declared.items.Item.{Item}
use Rattle.formula.specs.Tokens.{level}
use Rattle.formula.specs.Formula.{Tree, operands, before_own, lines}
use Tree.{letter, number, bracket, operator}
use Rattle.formula.specs.Parse.{Frame, Tail, State, Behind, reduce, reading, whole, ended, parse, run, step}
use Frame.{opened, left}
use Tail.{digits, closed, spaced}
use State.{bad, want, have}
use Rattle.formula.specs.Converted.{a_formula, within_limit, judged, answer_number}
use Rattle.formula.specs.Items.{item, items_of, depth, items_before, items_read, Noted, notes}
use Rattle.formula.specs.Seen.{next_wanted, next_had, wants, may_end, seen_of}
use Rattle.formula.proofs.FormulaLines.{own_last}
use Rattle.formula.proofs.Kept.{joined_items}
use Rattle.formula.proofs.Noting.{noted_least, noted_all}
use Rattle.formula.proofs.Reading.{reduce_take, run_append}
use Rattle.formula.proofs.Constructors.{clash, some_same, true_false}
use Rattle.formula.proofs.Seeing.{wanted_wants, none_bad}

-- a formula of n operands has 2n - 1 lines
pub lines_length : (n : ℕ) (t : Tree) → length (lines n t) + 1 ≡ 2 * operands t
unfolding lines operands
lines_length n (letter b) = refl
lines_length n (number v) = refl
lines_length n (bracket s t s') = lines_length n t
lines_length n (operator l s b s' r) =
    simp (length-append, length-append) (omega (arith, lines_length n l, lines_length (n + suc (before_own l)) r))

-- and each operand and operator has one
pub items_length : (d n : ℕ) (t : Tree) → length (items_of d t) ≡ length (lines n t)
unfolding items_of lines
items_length d n (letter b) = refl
items_length d n (number v) = refl
items_length d n (bracket s t s') = items_length (suc d) n t
items_length d n (operator l s b s' r) =
    let m = n + suc (before_own l) in
    length-append (items_of d l) (item d (Kind.Operator (level b)) ∷ items_of d r)
    ∙ omega (arith, items_length d n l, items_length d m r)
    ∙ sym (own_last (lines n l) (lines m r) _)

-- what a tree comes to, by how many lines it has
abbrev pub number_by : ℕ → ℕ
number_by n = if ltb 128 n then 15 else 0

-- more than 128 lines, and as many at the most
pub many : (es : List Expr) → 128 < length es → within_limit es ≡ refused 15
unfolding refuse◌when◌else◌
many es h = rw (lt-ltb 128 (length es) h) refl

pub few : (es : List Expr) → length es ≤ 128 → within_limit es ≡ done es
unfolding refuse◌when◌else◌
few es h = rw (le-ltb 128 (length es) h) refl

limited : (es : List Expr) → answer_number (within_limit es) ≡ number_by (length es)
limited es = by (dec_lt 128 (length es))
  where
    by : Dec (128 < length es) → answer_number (within_limit es) ≡ number_by (length es)
    by (yes h) = rw (many es h, lt-ltb 128 (length es) h) refl
    by (no h) = rw (few es (omega arith), le-ltb 128 (length es) (omega arith)) refl

nothing_before : [] ≡ items_before []
unfolding items_before
nothing_before = refl

-- of what was parsed
abbrev pub come_to : Option Tree → Outcome (List Expr)
come_to o = a_formula o then λ t. within_limit (lines 0 t)

-- by the brackets that are open as well
abbrev by_depth : ℕ → ℕ → ℕ
by_depth zero n = number_by n
by_depth (suc d) n = 14

whole_number : (t : Tree) (fs : List Frame)
    → answer_number (come_to (whole (reduce 0 t fs))) ≡ by_depth (depth fs) (length (items_before fs ++ items_of (depth fs) t))
unfolding whole reduce ◌then◌ depth
whole_number t [] = limited (lines 0 t) ∙ ap number_by (sym (items_length 0 0 t)) ∙ ap (λ xs. number_by (length (xs ++ items_of 0 t))) nothing_before
whole_number t (opened s ∷ fs) = refl
whole_number t (left l s b s' ∷ fs) =
    ap (λ (r : Behind). answer_number (come_to (whole r))) (reduce_take 0 t l s b s' fs (omega arith))
    ∙ whole_number (operator l s b s' t) fs
    ∙ ap (λ xs. by_depth (depth fs) (length xs)) (sym (joined_items t l s b s' fs))

-- the number that a formula which ends here has, by what is kept of it
abbrev end_number : Next → ℕ → ℕ → ℕ
end_number Next.Operand d n = 14
end_number Next.OperandOrSpace d n = 14
end_number Next.Sign d n = 14
end_number Next.SignOrSpace d n = by_depth d n
end_number (Next.SignSpaceOrDigit v) d n = by_depth d n

end_wanted : (n : Next) (d m : ℕ) → wants n ≡ true → 14 ≡ end_number n d m
end_wanted Next.Operand d m e = refl
end_wanted Next.OperandOrSpace d m e = refl
end_wanted Next.Sign d m e = true_false (sym e)
end_wanted Next.SignOrSpace d m e = true_false (sym e)
end_wanted (Next.SignSpaceOrDigit v) d m e = true_false (sym e)

abbrev so_many : State → ℕ
so_many x = length (items_read x)

end_of : (x : State) (s : Seen) → seen_of x ≡ Some s → answer_number (come_to (ended x)) ≡ end_number s.next s.depth (so_many x)
unfolding seen_of ended next_had items_read ◌then◌
end_of bad s e = clash s e
end_of (want fs) s e =
    subst (λ z. 14 ≡ end_number z.next z.depth (so_many (want fs))) (some_same _ s e)
    (end_wanted (next_wanted fs) (depth fs) (so_many (want fs)) (wanted_wants fs))
end_of (have t digits fs) s e =
    subst (λ z. answer_number (come_to (whole (reduce 0 t fs))) ≡ end_number z.next z.depth (so_many (have t digits fs))) (some_same _ s e) (whole_number t fs)
end_of (have t closed fs) s e =
    subst (λ z. answer_number (come_to (whole (reduce 0 t fs))) ≡ end_number z.next z.depth (so_many (have t closed fs))) (some_same _ s e) (whole_number t fs)
end_of (have t spaced fs) s e = subst (λ z. 14 ≡ end_number z.next z.depth (so_many (have t spaced fs))) (some_same _ s e) refl

end_judged : (w : List ℕ) (s : Seen) → seen_of (reading w) ≡ Some s
    → answer_number (judged w) ≡ end_number s.next s.depth (so_many (reading w))
unfolding judged parse
end_judged w s e = end_of (reading w) s e

module _ (w : List ℕ) (s : Seen) (e : seen_of (reading w) ≡ Some s) where
  -- how many items were read
  abbrev many_read : ℕ
  many_read = so_many (reading w)

  pub unfinished : may_end s.next ≡ false → 14 ≡ answer_number (judged w)
  unfinished v = sym (end_judged w s e ∙ by s.next v)
    where
      by : (n : Next) → may_end n ≡ false → end_number n s.depth many_read ≡ 14
      by Next.Operand v = refl
      by Next.OperandOrSpace v = refl
      by Next.Sign v = refl
      by Next.SignOrSpace v = true_false v
      by (Next.SignSpaceOrDigit x) v = true_false v

  finished : may_end s.next ≡ true → answer_number (judged w) ≡ by_depth s.depth many_read
  finished v = end_judged w s e ∙ by s.next v
    where
      by : (n : Next) → may_end n ≡ true → end_number n s.depth many_read ≡ by_depth s.depth many_read
      by Next.Operand v = true_false (sym v)
      by Next.OperandOrSpace v = true_false (sym v)
      by Next.Sign v = true_false (sym v)
      by Next.SignOrSpace v = refl
      by (Next.SignSpaceOrDigit x) v = refl

  pub open_left : 0 < s.depth → 14 ≡ answer_number (judged w)
  open_left h = sym (end_judged w s e ∙ by s.next s.depth h)
    where
      by : (n : Next) (d : ℕ) → 0 < d → end_number n d many_read ≡ 14
      by n zero h = absurd (omega arith)
      by Next.Operand (suc d) h = refl
      by Next.OperandOrSpace (suc d) h = refl
      by Next.Sign (suc d) h = refl
      by Next.SignOrSpace (suc d) h = refl
      by (Next.SignSpaceOrDigit x) (suc d) h = refl

  complete : may_end s.next ≡ true → s.depth ≤ 0 → answer_number (judged w) ≡ number_by many_read
  complete v z = finished v ∙ by s.depth z
    where
      by : (d : ℕ) → d ≤ 0 → by_depth d many_read ≡ number_by many_read
      by zero z = refl
      by (suc d) z = absurd (omega arith)

  -- as many places are taken as there are items, or all of them
  module _ (ps : List Item) (n : ℕ) (l : length ps ≡ 129) (m : Noted (notes ps n) (items_read (reading w))) where
    pub too_many : may_end s.next ≡ true → s.depth ≤ 0 → 128 < n → 15 ≡ answer_number (judged w)
    too_many v z h = sym (complete v z ∙ rw (lt-ltb 128 many_read (omega (arith, h, noted_least _ _ m))) refl)

    pub few_enough : may_end s.next ≡ true → s.depth ≤ 0 → n ≤ 128 → 0 ≡ answer_number (judged w)
    few_enough v z h = sym (complete v z ∙ rw (le-ltb 128 many_read (omega (arith, h, noted_all _ _ m (omega (arith, l, h))))) refl)

-- Once nothing begins so, nothing that goes on does -------------------------------------------------------------------------------

pub run_bad : (w : List ℕ) → run bad w ≡ bad
unfolding run step
run_bad [] = refl
run_bad (b ∷ w) = run_bad w

bad_on : (v w : List ℕ) → reading v ≡ bad → reading (v ++ w) ≡ bad
bad_on v w e = run_append (want []) v w ∙ ap (λ x. run x w) e ∙ run_bad w

pub split_at : (w : List ℕ) (i : ℕ) → i < length w → (take i w ++ (get_or w i 0 ∷ [])) ++ drop (suc i) w ≡ w
split_at w i h =
    append_assoc (take i w) (get_or w i 0 ∷ []) (drop (suc i) w) ∙ ap (λ v. take i w ++ v) (sym (drop-cons w i 0 h)) ∙ take-append-drop i w

broken : (v w : List ℕ) → seen_of (reading v) ≡ None → 14 ≡ answer_number (judged (v ++ w))
unfolding judged parse ended ◌then◌
broken v w e = rw (bad_on v w (none_bad (reading v) e)) refl

-- where nothing is kept of the first i bytes and the next one
pub broken_at : (w : List ℕ) (i : ℕ) → i < length w → seen_of (reading (take i w ++ (get_or w i 0 ∷ []))) ≡ None
    → 14 ≡ answer_number (judged w)
broken_at w i h e = broken (take i w ++ (get_or w i 0 ∷ [])) (drop (suc i) w) e ∙ ap (λ v. answer_number (judged v)) (split_at w i h)

-- the first pass goes on where something is kept, and is turned back where nothing is
module _ (o : Option Seen) (r : Result Seen Refusal) (y : Refusal) (e : r ≡ ok_or o y) where
  pub kept_on : (s : Seen) → r ≡ Ok s → o ≡ Some s
  kept_on s p = by o e
    where
      by : (o : Option Seen) → r ≡ ok_or o y → o ≡ Some s
      by None e = absurd (let z : ◌≡◌ {A = ℕ} 0 1 = cc in omega arith)
      by (Some x) e = cc

  pub turned_back : (x : Refusal) → r ≡ Err x → (o ≡ None) × (x ≡ y)
  turned_back x p = by o e
    where
      by : (o : Option Seen) → r ≡ ok_or o y → (o ≡ None) × (x ≡ y)
      by None e = (refl, cc)
      by (Some s) e = absurd (let z : ◌≡◌ {A = ℕ} 0 1 = cc in omega arith)
