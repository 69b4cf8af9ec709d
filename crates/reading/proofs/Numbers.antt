-- The number that the first four bytes tell is that of the first field.
use Rattle.std.specs.Prelude.{if◌then◌else◌, Result, Ok, Err}
use mathlib.Core.Path.{◌≡◌, refl, sym, ap, ◌∙◌}
use mathlib.Core.Logic.{◌⊎◌, inl, inr}
use mathlib.Core.Bool.{Bool, true, false, ◌&&◌}
use mathlib.Core.List.{List, [], ◌∷◌}
use mathlib.Core.Option.{none, some}
use Prim.Native.Nat.{ℕ, zero, suc, ◌+◌, ◌*◌, ◌-◌, ◌<◌, ◌≤◌}
use native.Mathlib.Omega.{arith}
use native.Mathlib.Decide.{dec_le, ℕ_discrete}
use lib.Dec.{eqb, ltb, leb}
use lib.ListN.{length, get_or, drop}
use borrow.Author.Tests.{lt-ltb, le-ltb, le-leb, lt-leb, eq-eqb, ne_eqb}
use Rattle.plan.specs.Sheet.{value, number, at_most}
use Rattle.reading.specs.Number.{separator?, field, found, number_at, digit_of, digit_at, TwoDigits}
use Rattle.plan.specs.declared.refusal.Refusal.{Refusal}
use Rattle.reading.specs.declared.number.Number.{Number}
use Rattle.reading.specs.declared.number.Byte.{Byte}
use Rattle.reading.specs.declared.number.Byte.TheVariants.{Digit, End, Other}

-- Digits of a value ----------------------------------------------------------------------------------------------------------

abbrev digit? : ℕ → Bool
digit? x = leb 48 x && leb x 57

value_digit : (v d : ℕ) (l : List ℕ) → d < 10 → value v ((48 + d) ∷ l) ≡ value (v * 10 + d) l
unfolding value
value_digit v d l h =
    let e : (48 + d) - 48 ≡ d = omega arith in
    simp (value, le-leb 48 (48 + d) (omega arith), le-leb (48 + d) 57 (omega arith), e)

value_other : (v x : ℕ) (l : List ℕ) → digit? x ≡ false → value v (x ∷ l) ≡ none
unfolding value
value_other v x l h = rw (value, h)

over_by : (v x : ℕ) (l : List ℕ) (t : Bool) → digit? x ≡ t → at_most 255 (value (v * 10 + (x - 48)) l) ≡ none → at_most 255 (value v (x ∷ l)) ≡ none
unfolding value
over_by v x l true e h = rw (value, e) h
over_by v x l false e h = rw (value, e)

-- a value above the limit stays there
over : (v : ℕ) (l : List ℕ) → 255 < v → at_most 255 (value v l) ≡ none
unfolding value
over v [] h = simp (value, lt-leb v 255 h)
over v (x ∷ l) h = over_by v x l (digit? x) refl (over (v * 10 + (x - 48)) l (omega arith))

kept : (v : ℕ) → v ≤ 255 → at_most 255 (some v) ≡ some v
kept v h = rw (le-leb v 255 h)

lost : (v : ℕ) → 255 < v → at_most 255 (some v) ≡ none
lost v h = rw (lt-leb v 255 h)

-- What a byte is -------------------------------------------------------------------------------------------------------------

-- how the bytes begin, with b what the first of them is
data Front : List ℕ → Byte → Type 0 where
  digit : {d : ℕ} {s : List ℕ} → d < 10 → separator? (48 + d) ≡ false → Front ((48 + d) ∷ s) (Digit d)
  end : Front [] End
  separated : {x : ℕ} {s : List ℕ} → separator? x ≡ true → Front (x ∷ s) End
  other : {x : ℕ} {s : List ℕ} → separator? x ≡ false → digit? x ≡ false → Front (x ∷ s) Other

not_separator : (x : ℕ) → (x ≡ 44 → ⊥) → (x ≡ 10 → ⊥) → separator? x ≡ false
not_separator x h k = simp (ne_eqb x 44 h, ne_eqb x 10 k)

digit_by : (x : ℕ) → digit_of x ≡ (if separator? x then End else if ltb x 48 then Other else if ltb 57 x then Other else Digit (x - 48))
unfolding digit_of
digit_by x = refl

front_of : (x : ℕ) (s : List ℕ) → (t : Bool) → separator? x ≡ t → Dec (48 ≤ x) → Dec (x ≤ 57) → Front (x ∷ s) (digit_of x)
front_of x s true p m n = rw (digit_by x, p) (separated {x = x} p)
front_of x s false p (no m) n = rw (digit_by x, p, lt-ltb x 48 (omega arith)) (other {x = x} p (simp (lt-leb 48 x (omega arith))))
front_of x s false p (yes m) (no n) = rw (digit_by x, p, le-ltb x 48 m, lt-ltb 57 x (omega arith)) (other {x = x} p (simp (le-leb 48 x m, lt-leb x 57 (omega arith))))
front_of x s false p (yes m) (yes n) =
    rw (digit_by x, p, le-ltb x 48 m, le-ltb 57 x n)
    (let e : 48 + (x - 48) ≡ x = omega arith in
    rw e at (digit {d = x - 48} {s = s} (omega arith) (rw e p)))

front : (s : List ℕ) → Front s (digit_at s 0)
unfolding digit_at
front [] = end
front (x ∷ s) = front_of x s (separator? x) refl (dec_le 48 x) (dec_le x 57)

-- the fields of bytes that begin so
field_digit : (s : List ℕ) (d : ℕ) → separator? (48 + d) ≡ false → field ((48 + d) ∷ s) ≡ (48 + d) ∷ field s
unfolding field
field_digit s d h = rw (field, h)

field_end : (s : List ℕ) (x : ℕ) → separator? x ≡ true → field (x ∷ s) ≡ []
unfolding field
field_end s x h = rw (field, h)

field_other : (s : List ℕ) (x : ℕ) → separator? x ≡ false → field (x ∷ s) ≡ x ∷ field s
unfolding field
field_other s x h = rw (field, h)

-- A byte that is no digit makes the number bad -------------------------------------------------------------------------------

number_other : (x : ℕ) (l : List ℕ) → digit? x ≡ false → number (x ∷ l) ≡ none
unfolding number
number_other x [] h = value_other 0 x [] h
number_other x (y ∷ l) h = choice (eqb x 48)
  where
    choice : (t : Bool) → (if t then none else at_most 255 (value 0 (x ∷ y ∷ l))) ≡ none
    choice true = refl
    choice false = rw (value_other 0 x (y ∷ l) h)

-- of two digits and more, by what the value of the first two comes to
number_two : (a b : ℕ) (l : List ℕ) → a < 10 → b < 10 → (a ≡ 0 → ⊥) → number ((48 + a) ∷ (48 + b) ∷ l) ≡ at_most 255 (value (a * 10 + b) l)
unfolding number
number_two a b l h k z =
    rw (number, ne_eqb (48 + a) 48 (λ e. z (omega arith)))
    (ap (at_most 255) (value_digit 0 a ((48 + b) ∷ l) h ∙ value_digit (0 * 10 + a) b l k ∙ ap (λ v. value v l) (omega arith)))

number_led : (b : ℕ) (l : List ℕ) → number (48 ∷ b ∷ l) ≡ none
unfolding number
number_led b l = refl

number_second : (a x : ℕ) (l : List ℕ) → a < 10 → digit? x ≡ false → number ((48 + a) ∷ x ∷ l) ≡ none
unfolding number
number_second a x l h k = choice (eqb (48 + a) 48)
  where
    choice : (t : Bool) → (if t then none else at_most 255 (value 0 ((48 + a) ∷ x ∷ l))) ≡ none
    choice true = refl
    choice false = ap (at_most 255) (value_digit 0 a (x ∷ l) h ∙ value_other (0 * 10 + a) x l k)

number_one : (a : ℕ) → a < 10 → number ((48 + a) ∷ []) ≡ some a
unfolding number value
number_one a h = value_digit 0 a [] h ∙ ap some (omega arith)

-- what the first four bytes tell
abbrev pub Told : Type 0
Told = Result Number Refusal

abbrev pub bad : Told
bad = Err Refusal.Form

abbrev pub is : ℕ → ℕ → Told
is v n = Ok (record { value = v; width = n })

abbrev pub three : ℕ → Byte → Told
three v End = if ltb 255 v then bad else is v 3
three v (Digit d) = bad
three v Other = bad

abbrev pub two : ℕ → Byte → Byte → Told
two v End d = is v 2
two v (Digit c) d = three (v * 10 + c) d
two v Other d = bad

abbrev pub one : ℕ → Byte → Byte → Byte → Told
one a End c d = is a 1
one a (Digit b) c d = if eqb a 0 then bad else two (a * 10 + b) c d
one a Other c d = bad

abbrev pub number_of : Byte → Byte → Byte → Byte → Told
number_of (Digit a) b c d = one a b c d
number_of End b c d = bad
number_of Other b c d = bad

-- The same of the first field ------------------------------------------------------------------------------------------------

abbrev told : List ℕ → Told
told l = found (number l) (length l)

module _ (a b c : ℕ) (h : a < 10) (k : b < 10) (z : a ≡ 0 → ⊥) (l : c < 10) where
  abbrev v : ℕ
  v = (a * 10 + b) * 10 + c

  three_on : (m : List ℕ) → number ((48 + a) ∷ (48 + b) ∷ (48 + c) ∷ m) ≡ at_most 255 (value v m)
  three_on m = number_two a b ((48 + c) ∷ m) h k z ∙ ap (at_most 255) (value_digit (a * 10 + b) c m l)

  three_end : Dec (v ≤ 255) → three v End ≡ told ((48 + a) ∷ (48 + b) ∷ (48 + c) ∷ [])
  unfolding value
  three_end (yes n) = rw (le-ltb 255 v n) (sym (ap (λ o. found o 3) (three_on [] ∙ kept v n)))
  three_end (no n) = rw (lt-ltb 255 v (omega arith)) (sym (ap (λ o. found o 3) (three_on [] ∙ lost v (omega arith))))

  fourth : (s : List ℕ) (d : Byte) → Front s d → three v d ≡ told ((48 + a) ∷ (48 + b) ∷ (48 + c) ∷ field s)
  unfolding field
  fourth _ _ (digit {d = d} {s = s} m p) =
      sym (rw (field_digit s d p) (ap (λ o. found o (length ((48 + a) ∷ (48 + b) ∷ (48 + c) ∷ (48 + d) ∷ field s))) (three_on ((48 + d) ∷ field s) ∙ ap (at_most 255) (value_digit v d (field s) m) ∙ over (v * 10 + d) (field s) (omega arith))))
  fourth _ _ end = three_end (dec_le v 255)
  fourth _ _ (separated {x = x} {s = s} p) = rw (field_end s x p) (three_end (dec_le v 255))
  fourth _ _ (other {x = x} {s = s} p q) =
      sym (rw (field_other s x p) (ap (λ o. found o (length ((48 + a) ∷ (48 + b) ∷ (48 + c) ∷ x ∷ field s))) (three_on (x ∷ field s) ∙ ap (at_most 255) (value_other v x (field s) q))))

module _ (a b : ℕ) (d : Byte) (h : a < 10) (k : b < 10) (z : a ≡ 0 → ⊥) where
  two_end : is (a * 10 + b) 2 ≡ told ((48 + a) ∷ (48 + b) ∷ [])
  unfolding value
  two_end = sym (ap (λ o. found o 2) (number_two a b [] h k z ∙ kept (a * 10 + b) (omega arith)))

  third : (s : List ℕ) (c : Byte) → Front s c → Front (drop 1 s) d → two (a * 10 + b) c d ≡ told ((48 + a) ∷ (48 + b) ∷ field s)
  unfolding field
  third _ _ (digit {d = c} {s = s} m p) f = fourth a b c h k z m s d f ∙ sym (ap (λ l. told ((48 + a) ∷ (48 + b) ∷ l)) (field_digit s c p))
  third _ _ end f = two_end
  third _ _ (separated {x = x} {s = s} p) f = rw (field_end s x p) two_end
  third _ _ (other {x = x} {s = s} p q) f =
      sym (rw (field_other s x p) (ap (λ o. found o (length ((48 + a) ∷ (48 + b) ∷ x ∷ field s))) (number_two a b (x ∷ field s) h k z ∙ ap (at_most 255) (value_other (a * 10 + b) x (field s) q))))

module _ (a : ℕ) (c d : Byte) (h : a < 10) where
  one_end : is a 1 ≡ told ((48 + a) ∷ [])
  one_end = sym (ap (λ o. found o 1) (number_one a h))

  second_digit : (b : ℕ) (s : List ℕ) → b < 10 → Dec (a ≡ 0) → Front s c → Front (drop 1 s) d → one a (Digit b) c d ≡ told ((48 + a) ∷ (48 + b) ∷ field s)
  second_digit b s k (yes z) f g = rw (eq-eqb a 0 z) (sym (ap (λ n. told ((48 + n) ∷ (48 + b) ∷ field s)) z ∙ ap (λ o. found o (length (48 ∷ (48 + b) ∷ field s))) (number_led (48 + b) (field s))))
  second_digit b s k (no z) f g = rw (ne_eqb a 0 z) (third a b d h k z s c f g)

  second : (s : List ℕ) (b : Byte) → Front s b → Front (drop 1 s) c → Front (drop 2 s) d → one a b c d ≡ told ((48 + a) ∷ field s)
  unfolding field
  second _ _ (digit {d = b} {s = s} m p) f g = second_digit b s m (ℕ_discrete a 0) f g ∙ sym (ap (λ l. told ((48 + a) ∷ l)) (field_digit s b p))
  second _ _ end f g = one_end
  second _ _ (separated {x = x} {s = s} p) f g = rw (field_end s x p) one_end
  second _ _ (other {x = x} {s = s} p q) f g =
      sym (rw (field_other s x p) (ap (λ o. found o (length ((48 + a) ∷ x ∷ field s))) (number_second a x (field s) h q)))

first : (b c d : Byte) (s : List ℕ) (a : Byte) → Front s a → Front (drop 1 s) b → Front (drop 2 s) c → Front (drop 3 s) d → number_of a b c d ≡ told (field s)
unfolding field number
first b c d _ _ (digit {d = a} {s = s} m p) e f g = second a c d m s b e f g ∙ sym (ap told (field_digit s a p))
first b c d _ _ end e f g = refl
first b c d _ _ (separated {x = x} {s = s} p) e f g = rw (field_end s x p) refl
first b c d _ _ (other {x = x} {s = s} p q) e f g = sym (rw (field_other s x p) (ap (λ o. found o (length (x ∷ field s))) (number_other x (field s) q)))

front_at : (s : List ℕ) (i : ℕ) → Front (drop i s) (digit_at s i)
unfolding digit_at
front_at s zero = front s
front_at [] (suc i) = end
front_at (x ∷ s) (suc i) = front_at s i

numeral : (s : List ℕ) → number_of (digit_at s 0) (digit_at s 1) (digit_at s 2) (digit_at s 3) ≡ number_at s
unfolding number_at
numeral s = first (digit_at s 1) (digit_at s 2) (digit_at s 3) s (digit_at s 0) (front s) (front_at s 1) (front_at s 2) (front_at s 3)

-- The code's needs -----------------------------------------------------------------------------------------------------------

pub byte_digit : (x : ℕ) → 48 ≤ x → x ≤ 57 → Digit (x - 48) ≡ digit_of x
byte_digit x h k = sym (rw (digit_by x, ne_eqb x 44 (λ e. omega arith), ne_eqb x 10 (λ e. omega arith), le-ltb x 48 h, le-ltb 57 x k))

pub digit_here : (s : List ℕ) (i d : ℕ) {r : Byte} {x : ℕ} → i < length s → r ≡ digit_of x → x ≡ get_or s i d → r ≡ digit_at s i
unfolding digit_at
digit_here [] i d h e f = absurd (omega arith)
digit_here (x ∷ s) zero d h e f = rw f at e
digit_here (x ∷ s) (suc i) d h e f = digit_here s i d (omega arith) e f

pub digit_past : (s : List ℕ) (i : ℕ) → length s ≤ i → End ≡ digit_at s i
unfolding digit_at
digit_past [] i h = refl
digit_past (x ∷ s) zero h = absurd (omega arith)
digit_past (x ∷ s) (suc i) h = digit_past s i (omega arith)

-- a digit is below 10
digit_front : (s : List ℕ) (b : Byte) (d : ℕ) → Front s b → b ≡ Digit d → d < 10
digit_front _ _ d (digit {d = n} m p) e = let f : n ≡ d = cc in omega arith
digit_front _ _ d end e = absurd (cc)
digit_front _ _ d (separated p) e = absurd (cc)
digit_front _ _ d (other p q) e = absurd (cc)

pub digit_small : (s : List ℕ) (i d : ℕ) → Digit d ≡ digit_at s i → d < 10
digit_small s i d e = digit_front (drop i s) (digit_at s i) d (front_at s i) (sym e)

-- the number, by the bytes that tell it
pub told_by : (s : List ℕ) (a b c d : Byte) → a ≡ digit_at s 0 → b ≡ digit_at s 1 → c ≡ digit_at s 2 → d ≡ digit_at s 3 → number_of a b c d ≡ number_at s
told_by s a b c d e f g h = rw (e, f, g, h) (numeral s)

pub no_digit : (s : List ℕ) (a : Byte) → a ≡ digit_at s 0 → ((d : ℕ) → a ≡ Digit d → ⊥) → bad ≡ number_at s
no_digit s (Digit a) e n = absurd (n a refl)
no_digit s End e n = told_by s End _ _ _ e refl refl refl
no_digit s Other e n = told_by s Other _ _ _ e refl refl refl

module _ (s : List ℕ) (a b : ℕ) (e : Digit a ≡ digit_at s 0) (f : Digit b ≡ digit_at s 1) where
  past_one : (c d : Byte) → c ≡ digit_at s 2 → d ≡ digit_at s 3 → one a (Digit b) c d ≡ number_at s
  past_one c d g h = told_by s (Digit a) (Digit b) c d e f g h

  pub leading_zero : a ≡ 0 → bad ≡ number_at s
  leading_zero z = rw (eq-eqb a 0 z) at (past_one _ _ refl refl)

module _ (s : List ℕ) (a b : ℕ) (t : TwoDigits s a b) where
  pub past_two : (c d : Byte) → c ≡ digit_at s 2 → d ≡ digit_at s 3 → two (a * 10 + b) c d ≡ number_at s
  past_two c d g h = rw (ne_eqb a 0 (λ z. let p = t.not_zero in omega arith)) at (past_one s a b t.first t.second c d g h)

  module _ (c : ℕ) (g : Digit c ≡ digit_at s 2) where
    pub too_long : (d : Byte) → d ≡ digit_at s 3 → (d ≡ End → ⊥) → bad ≡ number_at s
    too_long (Digit d) h n = past_two (Digit c) (Digit d) g h
    too_long End h n = absurd (n refl)
    too_long Other h n = past_two (Digit c) Other g h

    module _ (h : End ≡ digit_at s 3) (n : ℕ) (m : n ≡ (a * 10 + b) * 10 + c) where
      pub too_large : (n < 256 → ⊥) → bad ≡ number_at s
      too_large l = rw (lt-ltb 255 ((a * 10 + b) * 10 + c) (by (dec_le 256 n))) at (past_two (Digit c) End g h)
        where
          by : Dec (256 ≤ n) → 255 < (a * 10 + b) * 10 + c
          by (yes k) = omega arith
          by (no k) = absurd (l (omega arith))

      pub three_digits : (v : ℕ) → n < 256 → v ≡ n → is v 3 ≡ number_at s
      three_digits v l w = rw (w ∙ m) (rw (le-ltb 255 ((a * 10 + b) * 10 + c) (omega arith)) at (past_two (Digit c) End g h))

pub other_byte : (x : ℕ) → ((x ≡ 10) ⊎ (x ≡ 44) → ⊥) → (48 ≤ x → x ≤ 57 → ⊥) → Other ≡ digit_of x
other_byte x h l = sym (rw (digit_by x, ne_eqb x 44 (λ e. h (inr e)), ne_eqb x 10 (λ e. h (inl e))) (by (dec_le 48 x)))
  where
    by : Dec (48 ≤ x) → (if ltb x 48 then Other else if ltb 57 x then Other else Digit (x - 48)) ≡ Other
    by (no m) = rw (lt-ltb x 48 (omega arith))
    by (yes m) = rw (le-ltb x 48 m, lt-ltb 57 x (let n = l m in omega arith))

pub end_byte : (x : ℕ) → (x ≡ 10) ⊎ (x ≡ 44) → End ≡ digit_of x
end_byte x (inl e) = sym (rw (digit_by x, e))
end_byte x (inr e) = sym (rw (digit_by x, e))
