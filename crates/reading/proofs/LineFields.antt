-- Laws of a line's fields.
use Rattle.std.specs.Prelude.{if◌then◌else◌, Some, None, Result, Ok, Err}
use mathlib.Core.Path.{◌≡◌, refl, sym, ap, ◌∙◌}
use mathlib.Core.Bool.{Bool, true, false, ◌||◌}
use mathlib.Core.List.{List, [], ◌∷◌, ◌++◌, append_assoc, append-nil}
use mathlib.Core.Option.{Option, none, some}
use Prim.Native.Nat.{ℕ, suc, ◌+◌, ◌-◌, ◌<◌, ◌≤◌}
use native.Mathlib.Omega.{arith}
use lib.Dec.{eqb, ltb}
use lib.ListN.{length, get_or, take, drop, set, length-drop, length-append, length-set, get_or-append}
use lib.Seq.{get_or-set_same, get_or-set_other, get_or-append_seam}
use native.Mathlib.Decide.{ℕ_discrete}
use native.Mathlib.Nat.{not-suc-le-zero}
use borrow.Author.Tests.{ltb-true, ltb-false, eq-eqb, ne_eqb, eqb-true}
use Rattle.plan.specs.Sheet.{parts, onto, numbers, number, cons?}
use Rattle.plan.proofs.ListLaws.{part_from}
use Rattle.plan.specs.declared.refusal.Refusal.{Refusal}
use Rattle.reading.specs.Number.{separator?, field, number_at, found}
use Rattle.reading.specs.Field.{Field, field_of, field_at}
use Rattle.reading.specs.declared.line.Numbers.{Numbers}
use Rattle.reading.specs.Line.{line, ended, numbers_after, numbers_of, placed, Kept, NoneRead, NumbersRead}
use Rattle.reading.specs.declared.number.Number.{Number}

pub length_from : (s : List ℕ) (a : ℕ) → length (take (length s - a) (drop a s)) ≡ length s - a
length_from s a = ap length (part_from s a) ∙ length-drop a s

-- The first field and what follows it ---------------------------------------------------------------------------------------

abbrev fields_after : List ℕ → List (List ℕ)
fields_after [] = []
fields_after (x ∷ xs) = if eqb x 44 then parts 44 xs else []

-- what follows the first field
abbrev rest_of : List ℕ → List ℕ
rest_of m = drop (length (field m)) m

record Divided (m : List ℕ) : Type 0 where
  parted : parts 44 (line m) ≡ field m ∷ fields_after (line (rest_of m))
  told : numbers (fields_after (line (rest_of m))) ≡ numbers_after (line (rest_of m))
  ends : ended m ≡ ended (rest_of m)
  long : length (line m) ≡ length (field m) + length (line (rest_of m))
  fits : length (field m) ≤ length m

divided_by : (x : ℕ) (m : List ℕ) (a b : Bool) → eqb x 44 ≡ a → eqb x 10 ≡ b → Divided m → Divided (x ∷ m)
unfolding parts line ended field numbers_after numbers
divided_by x m a true e f d =
    let s : separator? x ≡ true = rw f (either a e) in
    record {
      parted = rw (line, field, s, f);
      told = rw (field, s) (rw (line, f));
      ends = rw (field, s);
      long = rw (field, s) (rw (line, f));
      fits = rw (field, s) (omega arith);
    }
  where
    either : (t : Bool) → eqb x 44 ≡ t → (eqb x 44 || true) ≡ true
    either true e = rw e
    either false e = rw e
divided_by x m true false e f d =
    let s : separator? x ≡ true = rw e in
    record {
      parted = rw (field, s) (rw (line, f) (rw (parts, e)));
      told = rw (field, s) (rw (line, f) (rw e));
      ends = rw (field, s);
      long = rw (field, s) (omega arith);
      fits = rw (field, s) (omega arith);
    }
divided_by x m false false e f d =
    let s : separator? x ≡ false = rw (e, f) in
    record {
      parted = rw (line, field, s, f) (rw (parts, e) (ap (onto x) d.parted));
      told = rw (field, s) d.told;
      ends = rw (field, s) (rw (ended, f) d.ends);
      long = rw (field, s) (rw (line, f) (ap suc d.long ∙ omega arith));
      fits = rw (field, s) (omega (arith, d.fits));
    }

divided : (m : List ℕ) → Divided m
unfolding parts line ended field numbers_after numbers
divided [] = record { parted = refl; told = refl; ends = refl; long = refl; fits = omega arith }
divided (x ∷ m) = divided_by x m (eqb x 44) (eqb x 10) refl refl (divided m)

-- What stands at the front --------------------------------------------------------------------------------------------------

none_joins : (o : Option ℕ) → cons? o none ≡ none
none_joins none = refl
none_joins (some n) = refl

-- behind a comma: the first field's number, and the numbers after it
numbers_comma : (m : List ℕ) → numbers_of (44 ∷ m) ≡ cons? (number (field m)) (numbers_of (rest_of m))
unfolding numbers_of ended line numbers_after numbers
numbers_comma m = by (ended m) refl
  where
    by : (t : Bool) → ended m ≡ t → numbers_of (44 ∷ m) ≡ cons? (number (field m)) (numbers_of (rest_of m))
    by true e = let f : ended (rest_of m) ≡ true = sym (divided m).ends ∙ e in rw (numbers_of, e, f, (divided m).parted) (ap (cons? (number (field m))) (divided m).told)
    by false e = let f : ended (rest_of m) ≡ false = sym (divided m).ends ∙ e in rw (numbers_of, e, f) (sym (none_joins (number (field m))))

-- a number was there
pub record Stood (s : List ℕ) (x n : ℕ) : Type 0 where
  are : numbers_of s ≡ cons? (some x) (numbers_of (drop n s))
  long : length (line s) ≡ n + length (line (drop n s))
  pub some_bytes : 1 ≤ n
  pub fits : n ≤ length s

found_value : (o : Option ℕ) (w : ℕ) (f : Number) → field_of (found o w) ≡ Ok (Some f) → (o ≡ some f.value) × (w + 1 ≡ f.width)
found_value none w f e = absurd (cc)
found_value (some v) w f e =
    let q : ◌≡◌ {A = Number} (record { value = v; width = w + 1 }) f = cc in
    (ap (λ (x : Number). some x.value) q, ap (λ (x : Number). x.width) q)

found_end : (o : Option ℕ) (w : ℕ) → field_of (found o w) ≡ Ok None → ⊥
found_end none w e = cc
found_end (some v) w e = cc

found_broken : (o : Option ℕ) (w : ℕ) (r : Refusal) → field_of (found o w) ≡ Err r → (o ≡ none) × (r ≡ Refusal.Form)
found_broken none w r e = (refl, cc)
found_broken (some v) w r e = absurd (cc)

abbrev picked : Bool → Bool → Field → Field
picked a b f = if a then Ok None else if b then f else Err Refusal.Form

comma_stood : (m : List ℕ) (x w n : ℕ) → number (field m) ≡ some x → length (field m) ≡ w → n ≡ suc w → Stood (44 ∷ m) x n
unfolding line
comma_stood m x w n e f g =
    rw g
    record {
      are = numbers_comma m ∙ rw (e, f);
      long = rw (← f) (omega (arith, (divided m).long));
      some_bytes = omega arith;
      fits = omega (arith, (divided m).fits);
    }

stood_by : (y : ℕ) (m : List ℕ) (f : Number) (a b : Bool) → eqb y 44 ≡ b → picked a b (field_of (found (number (field m)) (length (field m)))) ≡ Ok (Some f) → Stood (y ∷ m) f.value f.width
stood_by y m f true b g e = absurd (cc)
stood_by y m f false false g e = absurd (cc)
stood_by y m f false true g e =
    let (o, w) = found_value (number (field m)) (length (field m)) f e in
    rw (eqb-true y 44 g) (comma_stood m f.value (length (field m)) f.width o refl (omega (arith, w)))

pub stood : (s : List ℕ) (f : Number) → field_at s ≡ Ok (Some f) → Stood s f.value f.width
unfolding field_at number_at
stood [] f e = absurd (cc)
stood (y ∷ m) f e = stood_by y m f (eqb y 10) (eqb y 44) refl e

end_by : (y : ℕ) (m : List ℕ) (a b : Bool) → eqb y 10 ≡ a → picked a b (field_of (found (number (field m)) (length (field m)))) ≡ Ok None → (numbers_of (y ∷ m) ≡ some []) × (line (y ∷ m) ≡ [])
unfolding numbers_of ended line numbers_after
end_by y m true b f e = (rw (numbers_of, ended, line, f), rw (line, f))
end_by y m false false f e = absurd (cc)
end_by y m false true f e = absurd (found_end (number (field m)) (length (field m)) e)

at_end : (s : List ℕ) → field_at s ≡ Ok None → (numbers_of s ≡ some []) × (line s ≡ [])
unfolding field_at number_at
at_end [] e = absurd (cc)
at_end (y ∷ m) e = end_by y m (eqb y 10) (eqb y 44) refl e

no_comma : (y : ℕ) (m : List ℕ) → eqb y 10 ≡ false → eqb y 44 ≡ false → numbers_of (y ∷ m) ≡ none
unfolding numbers_of ended line numbers_after
no_comma y m f g = by (ended m) refl
  where
    by : (t : Bool) → ended m ≡ t → numbers_of (y ∷ m) ≡ none
    by true e = rw (numbers_of, ended, line, f) (rw (e, g))
    by false e = rw (numbers_of, ended, line, f) (rw e)

broken_by : (y : ℕ) (m : List ℕ) (r : Refusal) (a b : Bool) → eqb y 10 ≡ a → eqb y 44 ≡ b → picked a b (field_of (found (number (field m)) (length (field m)))) ≡ Err r
    → (numbers_of (y ∷ m) ≡ none) × (r ≡ Refusal.Form)
broken_by y m r true b f g e = absurd (cc)
broken_by y m r false false f g e = (no_comma y m f g, cc)
broken_by y m r false true f g e =
    let (o, form) = found_broken (number (field m)) (length (field m)) r e in
    (rw (eqb-true y 44 g) (numbers_comma m ∙ ap (λ o. cons? o (numbers_of (rest_of m))) o), form)

broken : (s : List ℕ) (r : Refusal) → field_at s ≡ Err r → (numbers_of s ≡ none) × (r ≡ Refusal.Form)
unfolding field_at number_at numbers_of ended
broken [] r e = (refl, cc)
broken (y ∷ m) r e = broken_by y m r (eqb y 10) (eqb y 44) refl refl e

-- The loop ------------------------------------------------------------------------------------------------------------------

abbrev pub prepend : List ℕ → Option (List ℕ) → Option (List ℕ)
prepend ns none = none
prepend ns (some ms) = some (ns ++ ms)

prepend_more : (ns : List ℕ) (x : ℕ) (o : Option (List ℕ)) → prepend ns (cons? (some x) o) ≡ prepend (ns ++ (x ∷ [])) o
prepend_more ns x none = refl
prepend_more ns x (some ms) = ap some (sym (append_assoc ns (x ∷ []) ms))

prepend_nil : (o : Option (List ℕ)) → o ≡ prepend [] o
prepend_nil none = refl
prepend_nil (some ms) = refl

kept_push : (ns v : List ℕ) (x : ℕ) → Kept ns v → length ns < 31 → Kept (ns ++ (x ∷ [])) (set v (length ns) x)
kept_push ns v x k h =
    record {
      size = length-set v (length ns) x ∙ k.size;
      first = λ i l m. by i l (omega (arith, length-append ns (x ∷ []))) (ℕ_discrete i (length ns));
    }
  where
    by : (i : ℕ) → i < 31 → i < length ns + 1 → Dec (i ≡ length ns) → get_or (set v (length ns) x) i 0 ≡ get_or (ns ++ (x ∷ [])) i 0
    by i l m (yes e) = rw e (get_or-set_same v (length ns) x 0 (omega (arith, k.size)) ∙ sym (get_or-append_seam ns x [] 0))
    by i l m (no e) = get_or-set_other v (length ns) i x 0 e ∙ k.first i l (omega arith) ∙ sym (get_or-append ns (x ∷ []) 0 i (omega arith))

kept_full : (ns v : List ℕ) (x : ℕ) → Kept ns v → 31 ≤ length ns → Kept (ns ++ (x ∷ [])) v
kept_full ns v x k h =
    record { size = k.size; first = λ i l m. k.first i l (omega arith) ∙ sym (get_or-append ns (x ∷ []) 0 i (omega arith)) }

kept_more : (ns v : List ℕ) (x : ℕ) → Kept ns v → (t : Bool) → ltb (length ns) 31 ≡ t → Kept (ns ++ (x ∷ [])) (if t then set v (length ns) x else v)
kept_more ns v x k true e = kept_push ns v x k (ltb-true (length ns) 31 e)
kept_more ns v x k false e = kept_full ns v x k (ltb-false (length ns) 31 e)

-- what was read of s so far, with the rest to come: so many bytes, so many numbers, kept in v
pub record Sofar (s : List ℕ) (len count : ℕ) (v rest : List ℕ) : Type 0 where
  list : List ℕ
  are : numbers_of s ≡ prepend list (numbers_of rest)
  counted : count ≡ length list
  kept : Kept list v
  long : suc (length (line s)) ≡ len + length (line rest)
  pub fits : len + length rest ≡ suc (length s)
  pub few : count < len

pub begin : (s v : List ℕ) → length v ≡ 32 → Sofar s 1 0 v s
begin s v e =
    record {
      list = [];
      are = prepend_nil (numbers_of s);
      counted = refl;
      kept = record { size = e; first = λ i l m. absurd (not-suc-le-zero m) };
      long = omega arith;
      fits = omega arith;
      few = omega arith;
    }

module _ (s rest v : List ℕ) (len count : ℕ) (w : Sofar s len count v rest) where
  more : (x n : ℕ) → Stood rest x n → Sofar s (len + n) (count + 1) (placed v count x) (drop n rest)
  more x n t =
      record {
        list = w.list ++ (x ∷ []);
        are = w.are ∙ ap (prepend w.list) t.are ∙ prepend_more w.list x (numbers_of (drop n rest));
        counted = omega (arith, w.counted, length-append w.list (x ∷ []));
        kept = rw w.counted (kept_more w.list v x w.kept (ltb (length w.list) 31) refl);
        long = omega (arith, w.long, t.long);
        fits = omega (arith, w.fits, t.fits, length-drop n rest);
        few = omega (arith, w.few, t.some_bytes);
      }

  pub turn : (v' : List ℕ) (c' : ℕ) (f : Number) → field_at rest ≡ Ok (Some f) → (v' ≡ placed v count f.value) × (c' ≡ count + 1) → Sofar s (len + f.width) c' v' (take (length rest - f.width) (drop f.width rest))
  turn v' c' f e p = rw (p.0, p.1, part_from rest f.width) (more f.value f.width (stood rest f e))

  pub ends : (n : Numbers) → n.kept ≡ v → n.count ≡ count → field_at rest ≡ Ok None → NumbersRead s (Ok len) n
  ends n k c e =
      let (a, b) = at_end rest e in
      record {
        list = w.list;
        are = w.are ∙ rw a (ap some (append-nil w.list));
        count = c ∙ w.counted;
        kept = rw k w.kept;
        len_is = omega (arith, w.long, ap length b);
      }

  pub breaks : (r : Refusal) → field_at rest ≡ Err r → NoneRead s r
  breaks r e =
      let (a, form) = broken rest r e in
      record { are = w.are ∙ ap (prepend w.list) a; answer = form }

-- The code's needs ----------------------------------------------------------------------------------------------------------

-- the fields of empty bytes, and of bytes by the first
pub field_none : (s : List ℕ) → length s ≡ 0 → Err Refusal.Form ≡ field_at s
unfolding field_at
field_none [] h = refl
field_none (x ∷ s) h = absurd (omega arith)

field_here : (s : List ℕ) → 0 < length s → field_at s ≡ picked (eqb (get_or s 0 0) 10) (eqb (get_or s 0 0) 44) (field_of (number_at (drop 1 s)))
unfolding field_at
field_here [] h = absurd (omega arith)
field_here (x ∷ s) h = refl

module _ (s : List ℕ) (h : 0 < length s) where
  pub field_end : get_or s 0 0 ≡ 10 → Ok None ≡ field_at s
  field_end e = sym (field_here s h ∙ rw (eq-eqb (get_or s 0 0) 10 e))

  pub field_comma : get_or s 0 0 ≡ 44 → (r : Result Number Refusal) → r ≡ number_at (take (length s - 1) (drop 1 s)) → field_of r ≡ field_at s
  field_comma e r f = sym (field_here s h ∙ rw (e, f ∙ ap number_at (part_from s 1)))

  pub field_broken : (get_or s 0 0 ≡ 10 → ⊥) → (get_or s 0 0 ≡ 44 → ⊥) → Err Refusal.Form ≡ field_at s
  field_broken e f = sym (field_here s h ∙ rw (ne_eqb (get_or s 0 0) 10 e, ne_eqb (get_or s 0 0) 44 f))

found_width : (o : Option ℕ) (w : ℕ) (f : Number) → Ok f ≡ found o w → f.width ≤ w
found_width none w f e = absurd (cc)
found_width (some v) w f e = let q : ◌≡◌ {A = Number} f (record { value = v; width = w }) = cc in omega (arith, ap (λ (x : Number). x.width) q)

-- a number stands within the bytes
pub width_from : (s : List ℕ) (f : Number) → Ok f ≡ number_at s → f.width ≤ length s
unfolding number_at
width_from s f e = omega (arith, found_width (number (field s)) (length (field s)) f e, (divided s).fits)
