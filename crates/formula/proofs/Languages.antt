-- The call takes just the language, and gives each number on its condition alone.
use Rattle.std.specs.Prelude.{Option, None, Some}
use mathlib.Core.Logic.{◌⊎◌, inl, inr}
use mathlib.Core.Path.{◌≡◌, refl, sym, ap, ◌∙◌, subst}
use mathlib.Core.List.{List, ◌++◌, Memᴰ}
use Prim.Native.Nat.{ℕ, ◌*◌, ◌<◌, ◌≤◌}
use native.Mathlib.Omega.{arith}
use native.Mathlib.Decide.{dec_lt}
use lib.Dec.{leb, T, leb→le}
use lib.ListN.{length, drop, length-append, length-drop}
use borrow.Author.Tests.{lt-ltb, le-ltb}
use Rattle.plan.specs.Lists.{sum, times}
use Rattle.plan.proofs.Conditions.{same_number, no_refusal}
use Rattle.plan.proofs.Counts.{stands_in}
use Rattle.plan.specs.Sheet.{Expr, Outcome, refused, done, refuse◌when◌else◌, ◌then◌}
use Rattle.writing.specs.Wrote.{Wrote}
use Rattle.formula.specs.declared.refusal.Refusal.{Refusal}
use Rattle.formula.specs.declared.items.Item.{Item}
use Rattle.formula.specs.Formula.{Whole, Tree, tree, yield, lines, e_lines}
use Rattle.formula.specs.Parse.{parse}
use Rattle.formula.specs.Converted.{within_limit, refusal_number, judged, converted, Called, call, called, convert, text, answer_number, answer_length}
use Rattle.formula.specs.Items.{items_of}
use Rattle.formula.specs.Progress.{lines_of}
use Rattle.formula.specs.Language.{refusal_numbers, Enters, Derived, TurnedBack, Converts, Refuses, Language}
use Rattle.formula.proofs.Derivations.{parse_yield, read_derived, one_reading, none_derived}
use Rattle.formula.specs.OnASheet.{OnASheet}
use Rattle.formula.proofs.LetThrough.{accepted}
use Rattle.formula.proofs.FormulaLines.{forms}
use Rattle.formula.proofs.OnASheet.{on_a_sheet}
use Rattle.formula.proofs.ReadSheet.{lines_short}
use Rattle.formula.proofs.Verdicts.{lines_length, many, few}

-- The ways through the call ----------------------------------------------------------------------------------------------------------

module _ (w output : List ℕ) where
  pub short_call : length output < 16384 → call (refused 1) output ≡ convert w output
  unfolding convert refuse◌when◌else◌ called
  short_call h = sym (rw (lt-ltb (length output) 16384 h) refl)

  pub long_call : 16384 ≤ length output → 16384 < length w → call (refused 2) output ≡ convert w output
  unfolding convert converted refuse◌when◌else◌ called
  long_call r h = sym (rw (le-ltb (length output) 16384 r, lt-ltb 16384 (length w) h) refl)

  judged_call : 16384 ≤ length output → length w ≤ 16384 → convert w output ≡ called output (judged w)
  unfolding convert converted refuse◌when◌else◌
  judged_call r h = rw (le-ltb (length output) 16384 r, le-ltb 16384 (length w) h) refl

none_judged : (w : List ℕ) → parse w ≡ None → judged w ≡ refused 14
unfolding judged ◌then◌
none_judged w e = rw e refl

limit_judged : (w : List ℕ) (t : Tree) → parse w ≡ Some t → judged w ≡ within_limit (lines 0 t)
unfolding judged ◌then◌
limit_judged w t e = rw e refl

refused_called : (output : List ℕ) (n : ℕ) → called output (refused n) ≡ call (refused n) output
unfolding called
refused_called output n = refl

done_called : (output : List ℕ) (es : List Expr)
    → called output (done es) ≡ call (done (length (text es))) (text es ++ drop (length (text es)) output)
unfolding called
done_called output es = refl

text_short : (d : Whole) → length (e_lines d) ≤ 128 → length (text (e_lines d)) ≤ 50 * length (e_lines d)
unfolding text
text_short d h = lines_short 0 (e_lines d) (forms 0 (tree d)) (omega arith)

on_list : (n : ℕ) → T (leb 1 (times n refusal_numbers)) → Memᴰ n refusal_numbers
on_list n t = stands_in n refusal_numbers (leb→le 1 (times n refusal_numbers) t)

-- the lines of a formula are those of the tree that is read
derived_parse : (w output : List ℕ) (d : Whole) → Derived w output d → parse w ≡ Some (tree d)
derived_parse w output d v = ap parse (sym v.yields) ∙ parse_yield d

module _ (w output : List ℕ) where
  every : (d : Whole) → Derived w output d → length (e_lines d) ≤ 128
      → convert w output ≡ call (done (length (text (e_lines d)))) (text (e_lines d) ++ drop (length (text (e_lines d))) output)
  every d v h =
      judged_call w output v.enters.room v.enters.short
      ∙ ap (called output) (limit_judged w (tree d) (derived_parse w output d v) ∙ few (e_lines d) h) ∙ done_called output (e_lines d)

  no_parse : ((d : Whole) → ¬ (yield d ≡ w)) → parse w ≡ None
  no_parse n = by (parse w) refl
    where
      by : (o : Option Tree) → parse w ≡ o → parse w ≡ None
      by None e = e
      by (Some t) e = let r = read_derived w t e in absurd (n r.derivation r.yields)

  alone : (n : ℕ) → TurnedBack w output n → convert w output ≡ call (refused n) output
  alone _ (TurnedBack.short_output h) = sym (short_call w output h)
  alone _ (TurnedBack.long_formula r h) = sym (long_call w output r h)
  alone _ (TurnedBack.no_formula e n) =
      judged_call w output e.room e.short ∙ ap (called output) (none_judged w (no_parse n)) ∙ refused_called output 14
  alone _ (TurnedBack.many_lines d v h) =
      judged_call w output v.enters.room v.enters.short
      ∙ ap (called output) (limit_judged w (tree d) (derived_parse w output d v) ∙ many (e_lines d) h) ∙ refused_called output 15

  answered : (c c' : Called) → c ≡ c' → c.answer ≡ c'.answer
  answered c c' e = ap (λ (z : Called). z.answer) e

  refuses : (n : ℕ) → TurnedBack w output n → Refuses w output
  unfolding sum
  refuses n t =
      record {
        number = n;
        listed = listed n t;
        condition = t;
        answer = answered _ _ (alone n t);
        bytes = ap (λ (z : Called). z.output) (alone n t);
      }
    where
      listed : (n : ℕ) → TurnedBack w output n → Memᴰ n refusal_numbers
      listed _ (TurnedBack.short_output _) = on_list _ tt
      listed _ (TurnedBack.long_formula _ _) = on_list _ tt
      listed _ (TurnedBack.no_formula _ _) = on_list _ tt
      listed _ (TurnedBack.many_lines _ _ _) = on_list _ tt

  converts : (d : Whole) → Derived w output d → length (e_lines d) ≤ 128 → Converts w output
  converts d v h =
      record {
        derivation = d;
        derived = v;
        few = h;
        answer = answered _ _ (every d v h);
        bytes = ap (λ (z : Called). z.output) (every d v h);
      }

  entered : Enters w output → Converts w output ⊎ Refuses w output
  entered e = by (parse w) refl
    where
      few_or_many : (d : Whole) → yield d ≡ w → Dec (128 < length (e_lines d)) → Converts w output ⊎ Refuses w output
      few_or_many d y (yes h) = inr (refuses 15 (TurnedBack.many_lines d (record { enters = e; yields = y }) h))
      few_or_many d y (no h) = inl (converts d (record { enters = e; yields = y }) (omega arith))

      by : (o : Option Tree) → parse w ≡ o → Converts w output ⊎ Refuses w output
      by None p = inr (refuses 14 (TurnedBack.no_formula e (none_derived w p)))
      by (Some t) p = let r = read_derived w t p in few_or_many r.derivation r.yields (dec_lt 128 (length (e_lines r.derivation)))

  either : Converts w output ⊎ Refuses w output
  either = by (dec_lt (length output) 16384) (dec_lt 16384 (length w))
    where
      by : Dec (length output < 16384) → Dec (16384 < length w) → Converts w output ⊎ Refuses w output
      by (yes h) _ = inr (refuses 1 (TurnedBack.short_output h))
      by (no r) (yes h) = inr (refuses 2 (TurnedBack.long_formula (omega arith) h))
      by (no r) (no h) = entered (record { room = omega arith; short = omega arith })

  exclude : (m n : ℕ) → TurnedBack w output m → TurnedBack w output n → m ≡ n
  exclude m n s t = same_number (sym (answered _ _ (alone m s)) ∙ answered _ _ (alone n t))

  converted_none : Converts w output → (n : ℕ) → ¬ TurnedBack w output n
  converted_none c n t = no_refusal (sym c.answer ∙ answered _ _ (alone n t))

  size : length (convert w output).output ≡ length output
  size = by either
    where
      by : Converts w output ⊎ Refuses w output → length (convert w output).output ≡ length output
      by (inl c) =
          let es = e_lines c.derivation in
          let m : length (text es) ≤ 50 * length es = text_short c.derivation c.few in
          let d = c.derived.enters.room in
          ap length c.bytes ∙ simp (length-append, length-drop) (omega (arith, m, c.few, d))
      by (inr r) = ap length r.bytes

  pub language : Language w output
  language =
      record {
        one_reading = λ d d' e e'. one_reading d d' (e ∙ sym e');
        either = either;
        every = every;
        count = λ d. lines_length 0 (tree d);
        alone = alone;
        exclude = exclude;
        converted_none = converted_none;
        size = size;
      }

-- What the call promises ---------------------------------------------------------------------------------------------------------------

pub record Promised (w output now : List ℕ) (r : Outcome ℕ) : Type 0 where
  pub out_after : call r now ≡ convert w output
  pub language : Language w output
  pub on_a_sheet : OnASheet
  pub result_in_bounds : answer_length r ≤ length output

module _ (w output : List ℕ) where
  fits : (r : Outcome ℕ) → (convert w output).answer ≡ r → answer_length r ≤ length output
  fits r e = by (either w output)
    where
      by : Converts w output ⊎ Refuses w output → answer_length r ≤ length output
      by (inl c) =
          let m : length (text (e_lines c.derivation)) ≤ 50 * length (e_lines c.derivation) = text_short c.derivation c.few in
          let d = c.derived.enters.room in
          rw (← e, c.answer) (omega (arith, m, c.few, d))
      by (inr q) = rw (← e, q.answer) (omega arith)

  pub promised : (now : List ℕ) (r : Outcome ℕ) → call r now ≡ convert w output → Promised w output now r
  promised now r e =
      record {
        out_after = e;
        language = language w output;
        on_a_sheet = on_a_sheet;
        result_in_bounds = fits r (ap (λ (z : Called). z.answer) (sym e));
      }

  -- turned back by the first pass
  pub turned_call : 16384 ≤ length output → length w ≤ 16384 → (e : Refusal) → refusal_number e ≡ answer_number (judged w)
      → call (refused (refusal_number e)) output ≡ convert w output
  turned_call r h e p = by (judged w) refl p
    where
      some_number : (e : Refusal) → refusal_number e ≡ 0 → ⊥
      some_number Refusal.ShortOutput z = omega arith
      some_number Refusal.LongFormula z = omega arith
      some_number Refusal.NoFormula z = omega arith
      some_number Refusal.ManyLines z = omega arith

      by : (o : Outcome (List Expr)) → judged w ≡ o → refusal_number e ≡ answer_number o
          → call (refused (refusal_number e)) output ≡ convert w output
      by (refused n) q p = sym (judged_call w output r h ∙ ap (called output) (q ∙ ap refused (sym p)) ∙ refused_called output (refusal_number e))
      by (done es) q p = absurd (some_number e p)

  -- converted by the second, from its items
  pub written_call : 16384 ≤ length output → length w ≤ 16384 → 0 ≡ answer_number (judged w) → (xs : List Item)
      → ((t : Tree) → parse w ≡ Some t → xs ≡ items_of 0 t) → (n : ℕ) (now : List ℕ) → Wrote (text (lines_of xs)) output now n
      → call (done n) now ≡ convert w output
  written_call r h z xs f n now o =
      let a = accepted w (sym z) in
      let es = lines 0 a.tree in
      let q : Wrote (text es) output now n = subst (λ es. Wrote (text es) output now n) (ap lines_of (f a.tree a.parsed) ∙ a.same) o in
      sym (judged_call w output r h ∙ ap (called output) a.is ∙ done_called output es ∙ sym (λ i. call (done (q.len i)) (q.bytes i)))
