-- Writing one text after another over the front of a buffer.
use mathlib.Core.Path.{◌≡◌, refl, sym, ap, ◌∙◌}
use mathlib.Core.List.{List, [], ◌∷◌, ◌++◌, append_assoc, append-nil}
use Prim.Native.Nat.{ℕ, ◌+◌, ◌-◌, ◌<◌, ◌≤◌}
use native.Mathlib.Omega.{arith}
use native.Mathlib.Numerals.{add-one}
use lib.ListN.{length, get_or, take, drop, length-append, length-drop}
use lib.Seq.{take-append_seam, drop-append_seam, drop-drop, drop-length, take-suc}
use Rattle.plan.specs.Lists.{concat_map}
use Rattle.storage.specs.Stored.{table}
use Rattle.storage.proofs.Laws.{table_more}
use Rattle.plan.proofs.ListLaws.{part_from}
use Rattle.writing.specs.Wrote.{Wrote}

part_rest : (s : List ℕ) (a : ℕ) → drop (length s - a) (drop a s) ≡ []
part_rest s a = ap (λ (n : ℕ). drop n (drop a s)) (sym (length-drop a s)) ∙ drop-length (drop a s)

-- a part that starts at b and is x long
pub span : (b x : ℕ) → b + x - b ≡ x
span b x = omega arith

-- the length of a buffer that was written
pub wrote_length : (t o x : List ℕ) (r : ℕ) → length t ≤ length o → Wrote t o x r → length x ≡ length o
wrote_length t o x r h w = ap length w.bytes ∙ simp (length-append, length-drop) (omega arith)

-- nothing written yet
pub none_yet : (o : List ℕ) → Wrote [] o o 0
none_yet o = record { len = refl; bytes = refl }

after_two : (t u o : List ℕ) → t ++ (u ++ drop (length u) (drop (length t) o)) ≡ (t ++ u) ++ drop (length (t ++ u)) o
after_two t u o = simp (length-append, drop-drop, append_assoc)

-- t was written, and then u into the part that starts behind t: in the shape in which a lent part comes back
pub then : (t u o x y : List ℕ) (r q : ℕ) → Wrote t o x r → Wrote u (take (length x - r) (drop r x)) y q
    → Wrote (t ++ u) o (take r x ++ (y ++ drop (length x - r) (drop r x))) (r + q)
then t u o x y r q v w =
    record {
      len = rw (length-append, v.len, w.len);
      bytes =
          rw (part_rest x r, w.bytes, part_from x r, v.bytes, v.len, take-append_seam, drop-append_seam)
          (simp append-nil (after_two t u o));
    }

-- t was written, and u has room behind it
module _ (t u o x : List ℕ) (r : ℕ) (h : length (t ++ u) ≤ length o) (w : Wrote t o x r) where
  whole : length x ≡ length o
  whole = wrote_length t o x r (omega (arith, length-append t u)) w

  pub at_rest : r ≤ length x
  at_rest = omega (arith, whole, w.len, length-append t u)

  pub room_rest : length u ≤ length (take (length x - r) (drop r x))
  room_rest = rw (part_from x r) (omega (arith, length-drop r x, whole, w.len, length-append t u))

  pub sum_fits : (y : List ℕ) (q : ℕ) → Wrote u (take (length x - r) (drop r x)) y q → r + q ≤ length o
  sum_fits y q v = omega (arith, w.len, v.len, length-append t u)

  pub back_length : (y : List ℕ) (q : ℕ) → Wrote u (take (length x - r) (drop r x)) y q
      → length (take r x ++ (y ++ drop (length x - r) (drop r x))) ≡ length o
  back_length y q v = wrote_length (t ++ u) o _ (r + q) h (then t u o x y r q w v)

-- The texts of a list's entries, one after the other -------------------------------------------------------------------------

module _ {A : Type 0} (f : A → List ℕ) where
  pub concat_append : (xs ys : List A) → concat_map f (xs ++ ys) ≡ concat_map f xs ++ concat_map f ys
  unfolding concat_map
  concat_append [] ys = refl
  concat_append (x ∷ xs) ys =
      ap (λ (l : List ℕ). f x ++ l) (concat_append xs ys) ∙ sym (append_assoc (f x) (concat_map f xs) (concat_map f ys))

  concat_one : (x : A) → concat_map f (x ∷ []) ≡ f x
  unfolding concat_map
  concat_one x = append-nil (f x)

  one_more : (xs : List A) (i : ℕ) (d : A) → i < length xs
      → concat_map f (take i xs) ++ f (get_or xs i d) ≡ concat_map f (take (i + 1) xs)
  one_more xs i d h =
      sym (rw (add-one, take-suc xs i d h, concat_append, concat_one))

  -- a loop over the entries of xs: its invariant is Wrote (concat_map f (take i xs)) entry out len
  pub no_turn : (xs : List A) (o : List ℕ) → Wrote (concat_map f (take 0 xs)) o o 0
  unfolding concat_map
  no_turn xs o = none_yet o

  pub turn : (xs : List A) (i : ℕ) (d : A) (o x y : List ℕ) (r q : ℕ) → i < length xs → Wrote (concat_map f (take i xs)) o x r
      → Wrote (f (get_or xs i d)) (take (length x - r) (drop r x)) y q
      → Wrote (concat_map f (take (i + 1) xs)) o (take r x ++ (y ++ drop (length x - r) (drop r x))) (r + q)
  turn xs i d o x y r q h v w = rw (← one_more xs i d h) (then (concat_map f (take i xs)) (f (get_or xs i d)) o x y r q v w)

-- The texts of a table's entries: the invariant of a loop is Wrote (concat_map f (table g 0 i)) entry out len ----------------------

module _ {A : Type 0} (f : A → List ℕ) (g : ℕ → A) where
  entry_more : (i : ℕ) → concat_map f (table g 0 i) ++ f (g i) ≡ concat_map f (table g 0 (i + 1))
  entry_more i =
      sym
      (rw (add-one, table_more g 0 i, concat_append, concat_one)
      (ap (λ (j : ℕ). concat_map f (table g 0 i) ++ f (g j)) (omega arith)))

  pub next_entry : (i : ℕ) (o x y : List ℕ) (r q : ℕ) → Wrote (concat_map f (table g 0 i)) o x r
      → Wrote (f (g i)) (take (length x - r) (drop r x)) y q
      → Wrote (concat_map f (table g 0 (i + 1))) o (take r x ++ (y ++ drop (length x - r) (drop r x))) (r + q)
  next_entry i o x y r q v w = rw (← entry_more i) (then (concat_map f (table g 0 i)) (f (g i)) o x y r q v w)
