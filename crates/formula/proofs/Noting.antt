-- What is noted of the bytes read: with a byte more, its items are noted too.
use Rattle.std.specs.Prelude.{if◌then◌else◌, Some}
use mathlib.Core.Path.{◌≡◌, refl, sym, ap, ◌∙◌, subst}
use mathlib.Core.Bool.{Bool, true, false}
use mathlib.Core.List.{List, [], ◌∷◌, ◌++◌, append_assoc}
use Prim.Native.Nat.{ℕ, ◌+◌, ◌*◌, ◌-◌, ◌<◌, ◌≤◌}
use native.Mathlib.Omega.{arith}
use native.Mathlib.Decide.{dec_le, dec_lt}
use lib.Dec.{eqb, ltb}
use borrow.Author.Tests.{lt-ltb, le-ltb}
use lib.ListN.{length, length-append, length-set, take, set}
use lib.Seq.{length-take-le, take-append-le}
use Rattle.std.proofs.lemmas.List.{take_all}
use Rattle.std.proofs.lemmas.Grind.{take-set_at}
use Rattle.formula.specs.declared.token.Class.{Class}
use Rattle.formula.specs.declared.items.Kind.{Kind}
use Rattle.formula.specs.declared.seen.Seen.{Seen}
use Rattle.formula.specs.declared.items.Item.{Item}
use Rattle.formula.specs.Tokens.{level, class}
use Rattle.formula.specs.Formula.{Tree}
use Tree.{letter, number, bracket, operator}
use Rattle.formula.specs.Parse.{Frame, Tail, State, behind, spaced?, reduce, space_before, space_behind, longer, digit_behind, value, close, sign, wanted, had, step}
use Frame.{opened, left}
use Tail.{digits, closed, spaced}
use State.{bad, want, have}
use Rattle.formula.specs.Items.{item, items_of, depth, items_before, items_read, Notes, notes, with_item, Noted}
use Rattle.formula.proofs.Classes.{Is, is}
use Rattle.formula.specs.Seen.{wants, seen_of, with_begun}
use Rattle.formula.proofs.Constructors.{some_same}
use Rattle.formula.proofs.Kept.{kept}
use Rattle.formula.proofs.Reading.{pick_good}
use Rattle.formula.proofs.Seeing.{wanted_wants, had_wants, wanted_seen, had_seen}

-- The places ----------------------------------------------------------------------------------------------------------------------------

module _ (m : Notes) (xs : List Item) (h : Noted m xs) where
  taken_long : m.count ≡ length (take (length m.places) xs)
  taken_long = sym (length-take-le m.count m.places h.few) ∙ ap length h.same

  many : length m.places ≤ length xs → m.count ≡ length m.places
  many k = taken_long ∙ length-take-le (length m.places) xs k

  few : length xs ≤ length m.places → m.count ≡ length xs
  few k = taken_long ∙ ap length (take_all (length m.places) xs k)

  -- no more places are taken than there are items
  pub noted_least : m.count ≤ length xs
  noted_least = by (dec_le (length xs) (length m.places))
    where
      by : Dec (length xs ≤ length m.places) → m.count ≤ length xs
      by (yes k) = omega (arith, few k)
      by (no k) = omega (arith, many (omega arith))

  -- and if a place is left, all items stand there
  pub noted_all : m.count < length m.places → length xs ≤ m.count
  noted_all l = by (dec_le (length xs) (length m.places))
    where
      by : Dec (length xs ≤ length m.places) → length xs ≤ m.count
      by (yes k) = omega (arith, few k)
      by (no k) = absurd (omega (arith, l, many (omega arith)))

  pub noted_same : m.count < length m.places → take m.count m.places ≡ xs
  noted_same l = h.same ∙ take_all (length m.places) xs (omega (arith, noted_all l, h.few))

-- no item yet
pub noted_none : (ps : List Item) → Noted (notes ps 0) []
noted_none ps = record { same = sym (take_all (length ps) [] (omega arith)); few = omega arith }

-- an item more
pub noted_more : (x : Item) (m : Notes) (xs : List Item) → Noted m xs → Noted (with_item x m) (xs ++ (x ∷ []))
unfolding with_item
noted_more x m xs h = by (dec_lt m.count (length m.places))
  where
    room : m.count < length m.places → length (xs ++ (x ∷ [])) ≤ length (set m.places m.count x)
    room l = omega (arith, l, length-set m.places m.count x, length-append xs (x ∷ []), noted_all m xs h l)

    by : Dec (m.count < length m.places) → Noted (with_item x m) (xs ++ (x ∷ []))
    by (yes l) =
        rw (lt-ltb m.count (length m.places) l) (record {
          same =
              take-set_at m.places m.count (m.count + 1) x refl l
              ∙ ap (λ v. v ++ (x ∷ [])) (noted_same m xs h l)
              ∙ sym (take_all (length (set m.places m.count x)) (xs ++ (x ∷ [])) (room l));
          few = omega (arith, l, length-set m.places m.count x);
        })
    by (no l) =
        rw (le-ltb m.count (length m.places) (omega arith)) (record {
          same = h.same ∙ sym (take-append-le (length m.places) xs (x ∷ []) (omega (arith, l, noted_least m xs h)));
          few = h.few;
        })

-- there are as many places as before
pick_long : (b : Bool) (x y m : Notes) → length x.places ≡ length m.places → length y.places ≡ length m.places
    → length (if b then x else y).places ≡ length m.places
pick_long true x y m e f = e
pick_long false x y m e f = f

with_item_long : (x : Item) (m : Notes) → length (with_item x m).places ≡ length m.places
unfolding with_item
with_item_long x m = pick_long (ltb m.count (length m.places)) _ m m (length-set m.places m.count x) refl

pub with_begun_long : (c : Class) (s : Seen) (m : Notes) → length (with_begun c s m).places ≡ length m.places
unfolding with_begun
with_begun_long (Class.Sign k) s m = pick_long (wants s.next) m _ m refl (with_item_long _ m)
with_begun_long Class.Space s m = refl
with_begun_long Class.Opens s m = refl
with_begun_long Class.Closes s m = refl
with_begun_long Class.Letter s m = pick_long (wants s.next) _ m m (with_item_long _ m) refl
with_begun_long Class.Digit s m = pick_long (wants s.next) _ m m (with_item_long _ m) refl
with_begun_long Class.Other s m = refl

-- A byte more ------------------------------------------------------------------------------------------------------------------------------

sign_level : (b n : ℕ) → class b ≡ Class.Sign n → n ≡ level b
unfolding Is
sign_level b n c = (subst (λ d. Is d b) c (is b)).0

-- a sign: one operator more
sign_items : (n b : ℕ) (s : Bool) (t : Tree) (fs : List Frame) → class b ≡ Class.Sign n
    → items_read (sign s b (reduce n t fs)) ≡ (items_before fs ++ items_of (depth fs) t) ++ (item (depth fs) (Kind.Operator n) ∷ [])
unfolding sign items_read items_before
sign_items n b s t fs c =
    let r = reduce n t fs in
    let q = kept n t fs in
    sym (append_assoc (items_before r.frames) (items_of (depth r.frames) r.tree) (item (depth r.frames) (Kind.Operator (level b)) ∷ []))
    ∙ (λ i. q.items i ++ (item (q.brackets i) (Kind.Operator (sym (sign_level b n c) i)) ∷ []))

-- y has the items of x, if it is not the bad state
abbrev SameItems : State → State → Type 0
SameItems x y = (y ≡ bad → ⊥) → items_read y ≡ items_read x

close_items : (s : Bool) (t : Tree) (fs : List Frame) → (close s (behind t fs) ≡ bad → ⊥)
    → items_read (close s (behind t fs)) ≡ items_before fs ++ items_of (depth fs) t
unfolding close items_read items_before items_of depth
close_items s t [] g = absurd (g refl)
close_items s t (opened s' ∷ fs) g = refl
close_items s t (left l s' b s'' ∷ fs) g = absurd (g refl)

space_wanted : (fs : List Frame) → SameItems (want fs) (space_before fs)
unfolding space_before items_read items_before
space_wanted [] g = absurd (g refl)
space_wanted (opened true ∷ fs) g = absurd (g refl)
space_wanted (opened false ∷ fs) g = refl
space_wanted (left l s b true ∷ fs) g = absurd (g refl)
space_wanted (left l s b false ∷ fs) g = refl

space_had : (t : Tree) (e : Tail) (fs : List Frame) → SameItems (have t e fs) (space_behind t e fs)
unfolding space_behind items_read
space_had t digits fs g = refl
space_had t closed fs g = refl
space_had t spaced fs g = absurd (g refl)

longer_items : (t : Tree) (e : Tail) (d : ℕ) (fs : List Frame) → SameItems (have t e fs) (longer (value t) d fs)
unfolding longer value items_read items_of
longer_items (letter x) e d fs g = absurd (g refl)
longer_items (number v) e d fs g =
    pick_good (λ x. items_read x ≡ items_read (have (number v) e fs)) (eqb v 0) (ltb (10 * v + d) 256) (have (number (10 * v + d)) digits fs) refl g
longer_items (bracket s t s') e d fs g = absurd (g refl)
longer_items (operator l s x s' r) e d fs g = absurd (g refl)

digit_items : (t : Tree) (e : Tail) (d : ℕ) (fs : List Frame) → SameItems (have t e fs) (digit_behind t e d fs)
unfolding digit_behind
digit_items t digits d fs g = longer_items t digits d fs g
digit_items t closed d fs g = absurd (g refl)
digit_items t spaced d fs g = absurd (g refl)

closed_items : (s : Bool) (t : Tree) (fs : List Frame) → SameItems (have t closed fs) (close s (reduce 0 t fs))
unfolding items_read
closed_items s t fs g = let r = reduce 0 t fs in close_items s r.tree r.frames g ∙ (kept 0 t fs).items

wanted_noted : (c : Class) (b : ℕ) (fs : List Frame) (m : Notes) → Noted m (items_before fs) → (wanted c b fs ≡ bad → ⊥)
    → Noted (with_begun c (wanted_seen fs) m) (items_read (wanted c b fs))
unfolding wanted with_begun items_read items_before items_of
wanted_noted (Class.Sign k) b fs m h g = absurd (g refl)
wanted_noted Class.Space b fs m h g = subst (Noted m) (sym (space_wanted fs g)) h
wanted_noted Class.Opens b fs m h g = h
wanted_noted Class.Closes b fs m h g = absurd (g refl)
wanted_noted Class.Letter b fs m h g = rw (wanted_wants fs) (noted_more _ m (items_before fs) h)
wanted_noted Class.Digit b fs m h g = rw (wanted_wants fs) (noted_more _ m (items_before fs) h)
wanted_noted Class.Other b fs m h g = absurd (g refl)

had_noted : (c : Class) (b : ℕ) → class b ≡ c → (t : Tree) (e : Tail) (fs : List Frame) (m : Notes)
    → Noted m (items_before fs ++ items_of (depth fs) t)
    → (had c b t e fs ≡ bad → ⊥)
    → Noted (with_begun c (had_seen t e fs) m) (items_read (had c b t e fs))
unfolding had with_begun items_read
had_noted (Class.Sign k) b c t e fs m h g =
    rw (had_wants t e) (subst (Noted _) (sym (sign_items k b (spaced? e) t fs c)) (noted_more _ m (items_before fs ++ items_of (depth fs) t) h))
had_noted Class.Space b c t e fs m h g = subst (Noted m) (sym (space_had t e fs g)) h
had_noted Class.Opens b c t e fs m h g = absurd (g refl)
had_noted Class.Closes b c t e fs m h g = subst (Noted m) (sym (closed_items (spaced? e) t fs g)) h
had_noted Class.Letter b c t e fs m h g = absurd (g refl)
had_noted Class.Digit b c t e fs m h g = rw (had_wants t e) (subst (Noted m) (sym (digit_items t e (b - 48) fs g)) h)
had_noted Class.Other b c t e fs m h g = absurd (g refl)

-- with a byte by which the reading goes on, what is noted are its items still
pub step_noted : (x : State) (b : ℕ) (s : Seen) (m : Notes) → seen_of x ≡ Some s → Noted m (items_read x) → (step x b ≡ bad → ⊥)
    → Noted (with_begun (class b) s m) (items_read (step x b))
unfolding step seen_of items_read
step_noted bad b s m e h g = absurd (g refl)
step_noted (want fs) b s m e h g =
    subst (λ z. Noted (with_begun (class b) z m) (items_read (wanted (class b) b fs))) (some_same _ s e) (wanted_noted (class b) b fs m h g)
step_noted (have t l fs) b s m e h g =
    subst (λ z. Noted (with_begun (class b) z m) (items_read (had (class b) b t l fs))) (some_same _ s e) (had_noted (class b) b refl t l fs m h g)
