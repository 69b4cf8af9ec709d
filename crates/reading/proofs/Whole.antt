-- From one line at the front of the bytes to all lines.
use Rattle.std.specs.Prelude.{if◌then◌else◌, Result}
use mathlib.Core.Path.{◌≡◌, refl, sym, ap, ◌∙◌, subst}
use mathlib.Core.Bool.{Bool, true, false, and-false}
use mathlib.Core.List.{List, [], ◌∷◌}
use mathlib.Core.Option.{Option, none, some}
use Prim.Native.Nat.{ℕ, suc, ◌-◌, ◌<◌, ◌≤◌}
use native.Mathlib.Omega.{arith}
use native.Mathlib.Nat.{not-suc-le-zero}
use lib.Dec.{eqb}
use lib.ListN.{length, get_or, take, drop}
use borrow.Author.Tests.{ne_eqb}
use Rattle.plan.specs.declared.refusal.Refusal.{Refusal}
use Rattle.plan.specs.Lists.{empty?, same, sum}
use Rattle.plan.specs.Sheet.{Sheet, Outcome, refused, done, ◌then◌, parts, onto, numbers, lettered, line_of, read_line, read_lines, no_lines}
use Rattle.storage.specs.Stored.{stored_exprs, stored_steps, table}
use Rattle.plan.proofs.ListLaws.{part_from}
use Rattle.reading.specs.Line.{line, ended, line_here, numbers_after, numbers_of}
use Rattle.reading.specs.Lines.{sheet_of, agg_entries, Sound, AllTaken}
use Rattle.reading.specs.Taken.{LineTaken, LineRead}
use Rattle.reading.specs.declared.lines.Taken.{Taken}
use Rattle.reading.specs.declared.lines.LineCounts.{LineCounts}

-- The letter -----------------------------------------------------------------------------------------------------------------

no_letter : (l : List ℕ) (o : Option (List ℕ)) → same l (69 ∷ []) ≡ false → same l (80 ∷ []) ≡ false → lettered l o ≡ none
unfolding lettered
no_letter l none e f = refl
no_letter l (some ns) e f = rw (e, f)

long_letter : (x y : ℕ) (l : List ℕ) (o : Option (List ℕ)) → lettered (x ∷ y ∷ l) o ≡ none
unfolding same
long_letter x y l o = no_letter (x ∷ y ∷ l) o (and-false (eqb x 69)) (and-false (eqb x 80))

-- a first field of more than a letter
two_bytes : (x y : ℕ) (ps : List (List ℕ)) → lettered (get_or (onto x (onto y ps)) 0 []) (numbers (drop 1 (onto x (onto y ps)))) ≡ none
two_bytes x y [] = long_letter x y [] (numbers [])
two_bytes x y (p ∷ ps) = long_letter x y p (numbers ps)

not_lettered : (l : List ℕ) → lettered l none ≡ none
unfolding lettered
not_lettered l = refl

letter_by : (x y : ℕ) (u : List ℕ) (b : Bool) → eqb x 44 ≡ false → eqb y 44 ≡ b → line_of (x ∷ y ∷ u) ≡ lettered (x ∷ []) (numbers_after (y ∷ u))
unfolding line_of parts numbers_after
letter_by x y u true e f = rw (line_of, parts, e, f)
letter_by x y u false e f = rw (line_of, parts, e, f) (two_bytes x y (parts 44 u) ∙ sym (not_lettered (x ∷ [])))

letter_of : (x : ℕ) (u : List ℕ) → eqb x 44 ≡ false → line_of (x ∷ u) ≡ lettered (x ∷ []) (numbers_after u)
unfolding line_of parts numbers_after numbers
letter_of x [] e = rw (line_of, parts, e)
letter_of x (y ∷ u) e = letter_by x y u (eqb y 44) e refl

-- the line behind a letter
pub behind : (x : ℕ) (m : List ℕ) → eqb x 44 ≡ false → eqb x 10 ≡ false → line_here (x ∷ m) ≡ lettered (x ∷ []) (numbers_of m)
unfolding line_here numbers_of ended line
behind x m e f = rw (line_here, ended, line, f) (by (ended m))
  where
    by : (b : Bool) → (if b then line_of (x ∷ line m) else none) ≡ lettered (x ∷ []) (if b then numbers_after (line m) else none)
    by true = letter_of x (line m) e
    by false = sym (not_lettered (x ∷ []))

other_field : (x : ℕ) (ps : List (List ℕ)) → eqb x 69 ≡ false → eqb x 80 ≡ false → lettered (get_or (onto x ps) 0 []) (numbers (drop 1 (onto x ps))) ≡ none
unfolding same
other_field x [] e f = no_letter (x ∷ []) (numbers []) (rw e) (rw f)
other_field x (p ∷ ps) e f = no_letter (x ∷ p) (numbers ps) (rw e) (rw f)

other_by : (x : ℕ) (u : List ℕ) (b : Bool) → eqb x 44 ≡ b → eqb x 69 ≡ false → eqb x 80 ≡ false → line_of (x ∷ u) ≡ none
unfolding line_of parts same
other_by x u true g e f = rw (line_of, parts, g) (no_letter [] (numbers (parts 44 u)) refl refl)
other_by x u false g e f = rw (line_of, parts, g) (other_field x (parts 44 u) e f)

empty_line : line_of [] ≡ none
unfolding line_of parts same numbers
empty_line = no_letter [] (some []) refl refl

pub no_line : (x : ℕ) (m : List ℕ) → eqb x 69 ≡ false → eqb x 80 ≡ false → line_here (x ∷ m) ≡ none
unfolding line_here line
no_line x m e f = by (ended (x ∷ m)) (eqb x 10) refl
  where
    by : (b c : Bool) → eqb x 10 ≡ c → (if b then line_of (line (x ∷ m)) else none) ≡ none
    by false c g = refl
    by true true g = rw (line, g) empty_line
    by true false g = rw (line, g) (other_by x (line m) (eqb x 44) refl e f)

module _ (s : List ℕ) (t t' : Taken) (r : Result ℕ Refusal) (h : 0 < length s) where
  cut : (x : ℕ) → get_or s 0 0 ≡ x → s ≡ x ∷ take (length s - 1) (drop 1 s)
  cut x e = rw (part_from s 1) (split s h e)
    where
      split : (s : List ℕ) → 0 < length s → get_or s 0 0 ≡ x → s ≡ x ∷ drop 1 s
      split [] h e = absurd (omega arith)
      split (y ∷ s) h e = ap (λ z. z ∷ s) e

  pub lettered_read : (x : ℕ) → eqb x 44 ≡ false → eqb x 10 ≡ false → get_or s 0 0 ≡ x
      → LineRead (lettered (x ∷ []) (numbers_of (take (length s - 1) (drop 1 s)))) (x ∷ take (length s - 1) (drop 1 s)) t t' r → LineRead (line_here s) s t t' r
  lettered_read x a b e l =
      subst (λ z. LineRead (line_here z) z t t' r) (sym (cut x e))
      (subst (λ o. LineRead o (x ∷ take (length s - 1) (drop 1 s)) t t' r) (sym (behind x (take (length s - 1) (drop 1 s)) a b)) l)

pub no_bytes : (s : List ℕ) (sh : Sheet) → length s < 1 → read_line (line_here s) sh ≡ refused 3
unfolding read_line line_here ended
no_bytes [] sh h = refl
no_bytes (x ∷ m) sh h = absurd (omega arith)

pub unlettered : (s : List ℕ) (sh : Sheet) → 0 < length s → (get_or s 0 0 ≡ 69 → ⊥) → (get_or s 0 0 ≡ 80 → ⊥) → read_line (line_here s) sh ≡ refused 3
unfolding read_line
unlettered [] sh h a b = absurd (omega arith)
unlettered (x ∷ m) sh h a b = ap (λ o. read_line o sh) (no_line x m (ne_eqb x 69 a) (ne_eqb x 80 b))

-- Lines ----------------------------------------------------------------------------------------------------------------------

-- what follows the first line
abbrev after : List ℕ → List ℕ
after s = drop (suc (length (line s))) s

first_by : (x : ℕ) (s : List ℕ) (b : Bool) → eqb x 10 ≡ b → (ended s ≡ true → parts 10 s ≡ line s ∷ parts 10 (after s))
    → ended (x ∷ s) ≡ true → parts 10 (x ∷ s) ≡ line (x ∷ s) ∷ parts 10 (after (x ∷ s))
unfolding parts line ended
first_by x s true e ih h = rw (parts, line, e)
first_by x s false e ih h = rw (parts, line, e) (ap (onto x) (ih (sym (rw (ended, e)) ∙ h)))

first : (s : List ℕ) → ended s ≡ true → parts 10 s ≡ line s ∷ parts 10 (after s)
unfolding ended
first [] h = absurd (cc)
first (x ∷ s) h = first_by x s (eqb x 10) refl (first s) h

only_by : (x : ℕ) (s : List ℕ) (b : Bool) → eqb x 10 ≡ b → (ended s ≡ false → parts 10 s ≡ s ∷ []) → ended (x ∷ s) ≡ false → parts 10 (x ∷ s) ≡ (x ∷ s) ∷ []
unfolding parts ended
only_by x s true e ih h = let g : true ≡ false = sym (rw (ended, e)) ∙ h in absurd (cc)
only_by x s false e ih h = rw (parts, e) (ap (onto x) (ih (sym (rw (ended, e)) ∙ h)))

only : (s : List ℕ) → ended s ≡ false → parts 10 s ≡ s ∷ []
unfolding parts
only [] h = refl
only (x ∷ s) h = only_by x s (eqb x 10) refl (only s) h

parts_there : (s : List ℕ) → empty? (parts 10 s) ≡ false
unfolding parts
parts_there [] = refl
parts_there (x ∷ s) = by (eqb x 10) refl
  where
    by : (b : Bool) → eqb x 10 ≡ b → empty? (parts 10 (x ∷ s)) ≡ false
    by true e = rw (parts, e)
    by false e = rw (parts, e) (onto_there x (parts 10 s))
      where
        onto_there : (x : ℕ) (ps : List (List ℕ)) → empty? (onto x ps) ≡ false
        onto_there x [] = refl
        onto_there x (p ∷ ps) = refl

lines_then : (l : List ℕ) (ls : List (List ℕ)) (sh : Sheet) → empty? ls ≡ false → read_lines (l ∷ ls) sh ≡ (read_line (line_of l) sh then λ sh'. read_lines ls sh')
unfolding read_lines
lines_then l [] sh h = absurd (cc)
lines_then l (l' ∷ ls) sh h = refl

-- one line, and then the others
pub one_more : (s : List ℕ) (sh : Sheet) → ended s ≡ true → read_lines (parts 10 s) sh ≡ (read_line (line_here s) sh then λ sh'. read_lines (parts 10 (after s)) sh')
unfolding line_here
one_more s sh h = rw (first s h) (lines_then (line s) (parts 10 (after s)) sh (parts_there (after s)) ∙ rw (line_here, h))

pub refused_here : (s : List ℕ) (sh : Sheet) (k : ℕ) → 0 < length s → read_line (line_here s) sh ≡ refused k → read_lines (parts 10 s) sh ≡ refused k
unfolding ◌then◌ line_here read_line read_lines
refused_here s sh k h e = by (ended s) refl
  where
    three : (s : List ℕ) → 0 < length s → read_lines (s ∷ []) sh ≡ refused 3
    three [] h = absurd (omega arith)
    three (x ∷ s) h = refl

    by : (b : Bool) → ended s ≡ b → read_lines (parts 10 s) sh ≡ refused k
    by true f = one_more s sh f ∙ ap (λ o. o then λ sh'. read_lines (parts 10 (after s)) sh') e
    by false f = let x : read_line (line_here s) sh ≡ refused 3 = rw (line_here, f) in rw (only s f) (three s h ∙ sym x ∙ e)

pub done_here : (s : List ℕ) (sh sh' : Sheet) → ended s ≡ true → read_line (line_here s) sh ≡ done sh' → read_lines (parts 10 s) sh ≡ read_lines (parts 10 (after s)) sh'
unfolding ◌then◌
done_here s sh sh' h e = one_more s sh h ∙ ap (λ o. o then λ sh'. read_lines (parts 10 (after s)) sh') e

pub none_left : (s : List ℕ) (sh : Sheet) → length s ≡ 0 → read_lines (parts 10 s) sh ≡ done sh
unfolding parts read_lines
none_left [] sh h = refl
none_left (x ∷ s) sh h = absurd (omega arith)

-- The loop -------------------------------------------------------------------------------------------------------------------

shorter_by : (x : ℕ) (s : List ℕ) (b : Bool) → eqb x 10 ≡ b → (ended s ≡ true → length (line s) < length s) → ended (x ∷ s) ≡ true → length (line (x ∷ s)) < suc (length s)
unfolding line ended
shorter_by x s true e ih h = rw (line, e) (omega arith)
shorter_by x s false e ih h = let z = ih (sym (rw (ended, e)) ∙ h) in rw (line, e) (omega arith)

shorter : (s : List ℕ) → ended s ≡ true → length (line s) < length s
unfolding ended
shorter [] h = absurd (cc)
shorter (x ∷ s) h = shorter_by x s (eqb x 10) refl (shorter s) h

-- the rest of the bytes, read into what was read of s, comes to the same as s
pub record Along (s rest : List ℕ) (sh : Sheet) (es ps : List ℕ) (t : LineCounts) : Type 0 where
  pub same_end : read_lines (parts 10 s) sh ≡ read_lines (parts 10 rest) (sheet_of es ps t)

pub begin : (s es ps : List ℕ) (t : LineCounts) → Along s s (sheet_of es ps t) es ps t
begin s es ps t = record { same_end = refl }

module _ (rest es ps es' ps' : List ℕ) (t t' : LineCounts) (n : ℕ) (l : LineTaken (line_here rest) rest es ps es' ps' t t' n) where
  pub within : n ≤ length rest
  within = let h = shorter rest l.whole in let e = l.long in omega arith

  pub turn : (s : List ℕ) (sh : Sheet) → Along s rest sh es ps t → Along s (take (length rest - n) (drop n rest)) sh es' ps' t'
  turn s sh a =
      record {
        same_end =
            a.same_end ∙ done_here rest (sheet_of es ps t) (sheet_of es' ps' t') l.whole l.taken
            ∙ ap (λ x. read_lines (parts 10 x) (sheet_of es' ps' t')) (ap (λ k. drop k rest) (sym l.long) ∙ sym (part_from rest n));
      }

pub refuses : (s rest es ps : List ℕ) (sh : Sheet) (t : LineCounts) (k : ℕ) → Along s rest sh es ps t → 0 < length rest → read_line (line_here rest) (sheet_of es ps t) ≡ refused k → read_lines (parts 10 s) sh ≡ refused k
refuses s rest es ps sh t k a h e = a.same_end ∙ refused_here rest (sheet_of es ps t) k h e

pub all_read : (s rest es ps : List ℕ) (sh : Sheet) (t : LineCounts) → Along s rest sh es ps t → length rest ≡ 0 → read_lines (parts 10 s) sh ≡ done (sheet_of es ps t)
all_read s rest es ps sh t a h = a.same_end ∙ none_left rest (sheet_of es ps t) h

-- From no line ---------------------------------------------------------------------------------------------------------------

abbrev none_counted : LineCounts
none_counted = record { exprs = 0; aggs = 0; steps = 0 }

pub none_sound : (es ps : List ℕ) → Sound es ps none_counted
unfolding stored_steps table agg_entries sum
none_sound es ps =
    record {
      exprs = λ i h. absurd (not-suc-le-zero h);
      steps = λ i h. absurd (not-suc-le-zero h);
      aggs = refl;
      few_exprs = omega arith;
      few_steps = omega arith;
    }

pub from_none : (s es ps : List ℕ) {o : Outcome Sheet} → read_lines (parts 10 s) (sheet_of es ps none_counted) ≡ o → read_lines (parts 10 s) no_lines ≡ o
unfolding stored_exprs stored_steps table
from_none s es ps e = e

pub all_taken : (s es ps : List ℕ) {es' ps' e p : List ℕ} {t : LineCounts}
    → read_lines (parts 10 s) (sheet_of es ps none_counted) ≡ done (sheet_of es' ps' t) → Sound es' ps' t → e ≡ es' → p ≡ ps' → AllTaken s e p t
all_taken s es ps l h f g = rw (f, g) (record { taken = from_none s es ps l; sound = h })
