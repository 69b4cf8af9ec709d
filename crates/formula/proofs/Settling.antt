-- The lines to which a formula's items come are the formula's.
use Rattle.std.specs.Prelude.{if◌then◌else◌}
use mathlib.Core.Path.{◌≡◌, refl, ap, ◌∙◌}
use mathlib.Core.Bool.{Bool, true, false, ◌&&◌, ◌||◌}
use mathlib.Core.List.{List, [], ◌∷◌, ◌++◌, append_assoc}
use Prim.Native.Nat.{ℕ, suc, ◌+◌, ◌<◌, ◌≤◌}
use native.Mathlib.Omega.{arith}
use lib.ListN.{length, length-append}
use borrow.Author.Tests.{le-leb, lt-leb}
use Rattle.plan.specs.Sheet.{Expr}
use Rattle.formula.specs.declared.items.Item.{Item}
use Rattle.formula.specs.declared.writer.Operand.{Operand}
use Rattle.formula.specs.declared.writer.Waiting.{Waiting}
use Rattle.formula.specs.Tokens.{level}
use Rattle.formula.specs.Formula.{Tree, scalar, length_preserving, before_own, column, literal, lines}
use Tree.{letter, number, bracket, operator}
use Rattle.formula.specs.Items.{items_of}
use Rattle.formula.specs.Progress.{Progress, progress, start, operand_of, with_operand, joined, joined_line, settle, settled, waits, weight, taken, taken_by, all_taken, lines_of}
use Rattle.formula.proofs.Fits.{Fits}
use Rattle.formula.proofs.FormulaLines.{lines_count}

pub settle_take : (w : ℕ) (v : Operand) (p : Waiting) (ps : List Waiting) (es : List Expr) → w ≤ p.weight
    → settle w v (p ∷ ps) es ≡ settle w (joined (length es) p.left v) ps (es ++ (joined_line p.left v ∷ []))
unfolding settle
settle_take w v p ps es h = simp (settle, le-leb w p.weight h)

pub settle_stop : (w : ℕ) (v : Operand) (p : Waiting) (ps : List Waiting) (es : List Expr) → p.weight < w
    → settle w v (p ∷ ps) es ≡ progress v (p ∷ ps) es
unfolding settle
settle_stop w v p ps es h = simp (settle, lt-leb w p.weight h)

pub taken_append : (xs ys : List Item) (p : Progress) → all_taken (xs ++ ys) p ≡ all_taken ys (all_taken xs p)
unfolding all_taken
taken_append [] ys p = refl
taken_append (x ∷ xs) ys p = taken_append xs ys (taken x p)

taken_first : (x : Item) (xs : List Item) (p : Progress) → all_taken (x ∷ xs) p ≡ all_taken xs (taken x p)
unfolding all_taken
taken_first x xs p = refl

-- an operand whose first line has index n
abbrev operand : ℕ → Tree → Operand
operand n t = record { index = n + before_own t; scalar = scalar t; length_preserving = length_preserving t }

-- the operand t more, with all of its lines
abbrev with_tree : Tree → Progress → Progress
with_tree t p = progress (operand (length p.lines) t) p.waiting (p.lines ++ lines (length p.lines) t)

-- what waits last is of less weight than w
abbrev Light : ℕ → List Waiting → Type 0
Light w [] = Unit {0}
Light w (p ∷ ps) = p.weight < w

lighter : (v w : ℕ) (ps : List Waiting) → v ≤ w → Light v ps → Light w ps
lighter v w [] h l = tt
lighter v w (p ∷ ps) h l = omega arith

settle_light : (w : ℕ) (v : Operand) (ps : List Waiting) (es : List Expr) → Light w ps → settle w v ps es ≡ progress v ps es
unfolding settle
settle_light w v [] es l = refl
settle_light w v (p ∷ ps) es l = settle_stop w v p ps es l

-- the index behind a left operand
left_long : (es : List Expr) (t : Tree) → length (es ++ lines (length es) t) ≡ length es + suc (before_own t)
left_long es t = length-append es (lines (length es) t) ∙ ap (λ n. length es + n) (lines_count (length es) t)

-- an operator that has both operands is one operand
joined_tree : (l : Tree) (s : Bool) (b : ℕ) (s' : Bool) (r : Tree) (p : Progress)
    → let n = length p.lines in
    let m = length (p.lines ++ lines n l) in
    progress (joined (length ((p.lines ++ lines n l) ++ lines m r)) (operand n l) (operand m r)) p.waiting
    (((p.lines ++ lines n l) ++ lines m r) ++ (joined_line (operand n l) (operand m r) ∷ []))
    ≡ with_tree (operator l s b s' r) p
unfolding lines before_own scalar length_preserving
joined_tree l s b s' r p =
    rw (left_long p.lines l)
    (λ i. progress (record { index = own i; scalar = scalar l && scalar r; length_preserving = length_preserving l || length_preserving r }) p.waiting (grouped i))
  where
    n : ℕ
    n = length p.lines

    m : ℕ
    m = n + suc (before_own l)

    own : length ((p.lines ++ lines n l) ++ lines m r) ≡ n + (suc (before_own l) + suc (before_own r))
    own = length-append (p.lines ++ lines n l) (lines m r) ∙ omega (arith, left_long p.lines l, lines_count m r)

    grouped : ((p.lines ++ lines n l) ++ lines m r) ++ (joined_line (operand n l) (operand m r) ∷ [])
        ≡ p.lines ++ (lines n l ++ (lines m r ++ (joined_line (operand n l) (operand m r) ∷ [])))
    grouped = simp append_assoc refl

-- The items of a tree, taken one by one and settled, come to that operand settled
abbrev Comes : ℕ → ℕ → Tree → Progress → Type 0
Comes w d t p = settled w (all_taken (items_of d t) p) ≡ settled w (with_tree t p)

operand_comes : (d : Bool) (w : ℕ) (p : Progress) → settled w (with_operand d p)
    ≡ settled w (progress (operand_of (length p.lines + 0) d) p.waiting (p.lines ++ ((if d then literal else column) ∷ [])))
operand_comes d w p =
    ap (λ i. settled w (progress (operand_of i d) p.waiting (p.lines ++ ((if d then literal else column) ∷ [])))) (omega arith)

module _ (w d : ℕ) (l : Tree) (s : Bool) (b : ℕ) (s' : Bool) (r : Tree) (p : Progress) where
  abbrev v : ℕ
  v = weight d (level b)

  -- once the left operand was settled
  operator_comes : w ≤ v → Light v p.waiting → Comes v d l p → Comes w d r (waits v (with_tree l p)) → Comes w d (operator l s b s' r) p
  unfolding items_of taken_by
  operator_comes h g e f =
      ap (λ q. settled w q) (taken_append (items_of d l) _ p ∙ taken_first _ (items_of d r) (all_taken (items_of d l) p))
      ∙ ap (λ q. settled w (all_taken (items_of d r) (waits v q))) (e ∙ settle_light v _ p.waiting _ g)
      ∙ f
      ∙ settle_take w _ _ p.waiting _ h
      ∙ ap (λ q. settled w q) (joined_tree l s b s' r p)

comes : (w k d : ℕ) (t : Tree) (p : Progress) → Fits k t → k ≤ 5 → w ≤ weight d k → Light (weight d k) p.waiting → Comes w d t p
unfolding items_of Fits all_taken taken_by lines before_own scalar length_preserving
comes w k d (letter b) p f h l g = operand_comes false w p
comes w k d (number v) p f h l g = operand_comes true w p
comes w k d (bracket s t s') p f h l g =
    comes w 0 (suc d) t p f (omega arith) (omega arith) (lighter (weight d k) (weight (suc d) 0) p.waiting (omega arith) g)
comes w k d (operator l s b s' r) p f h lw g =
    let lighter' = lighter (weight d k) (weight d (level b)) p.waiting (omega (arith, f.0)) g in
    operator_comes w d l s b s' r p (omega (arith, f.0)) lighter'
    (comes (weight d (level b)) (level b) d l p f.2 (omega (arith, f.1)) (omega arith) lighter')
    (comes w (suc (level b)) d r (waits (weight d (level b)) (with_tree l p)) f.3 (omega (arith, f.1)) (omega (arith, f.0)) (omega arith))

settle_none : (v : Operand) (es : List Expr) → settle 0 v [] es ≡ progress v [] es
unfolding settle
settle_none v es = refl

-- Those of a formula are its lines
pub lines_same : (t : Tree) → Fits 0 t → lines_of (items_of 0 t) ≡ lines 0 t
lines_same t f =
    ap (λ (p : Progress). p.lines) (comes 0 0 0 t start f (omega arith) (omega arith) tt ∙ settle_none _ (lines 0 t))
