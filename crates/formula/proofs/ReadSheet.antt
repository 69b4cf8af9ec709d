-- The bytes of a formula's sheet are read as that sheet.
use mathlib.Core.Path.{◌≡◌, refl, ap, sym, ◌∙◌, subst}
use Prim.Native.Nat.{ℕ, suc, ◌+◌, ◌*◌, ◌≤◌, ◌<◌}
use native.Mathlib.Omega.{arith}
use mathlib.Core.Logic.{inl, inr}
use mathlib.Core.Bool.{Bool, true, false, not}
use mathlib.Core.List.Memᴰ
use mathlib.Core.List.{List, [], ◌∷◌, ◌++◌}
use lib.Dec.{T}
use lib.ListN.{length, length-append}
use borrow.Author.Tests.{le-ltb, le-leb}
use Rattle.plan.specs.Lists.{all?, concat_map, sum}
use Rattle.plan.specs.Sheet.{Expr, Step, Sheet, Outcome, done, refuse◌when◌else◌, ◌then◌, read, read_lines, parts, no_lines, no_plan, too_long, with_step, in_expr_table, expr_table, step_of, step_fits, in_step_table, step_table, expr_count}
use Rattle.plan.specs.Text.{step_line, expr_line}
use Rattle.plan.proofs.Conditions.{goes_on}
use Rattle.plan.proofs.FunctionOutput.{at_most_one}
use Rattle.claims.proofs.TextLength.{ShortList, expr_line_short, step_line_short}
use Rattle.formula.specs.Formula.{column, literal, binary}
use Rattle.formula.specs.Converted.{text}
use Rattle.formula.specs.OnASheet.{scan, select, sink, last, sheet, sheet_text}
use Rattle.formula.proofs.ReadBack.{Readable, AllReadable, ReadableStep, read_exprs, read_step, within}
use Rattle.formula.proofs.FormulaLines.{LineForm, AllForms}

-- Its lines --------------------------------------------------------------------------------------------------------------------

readable : (i : ℕ) (e : Expr) → LineForm i e → i ≤ 255 → Readable e
unfolding in_expr_table expr_table all?
readable i _ LineForm.a_column h = record { table = tt; option = omega arith; children = tt }
readable i _ LineForm.a_literal h = record { table = tt; option = omega arith; children = tt }
readable i _ (LineForm.a_binary s l a b j k) h =
    record { table = tt; option = omega arith; children = rw (le-leb a 255 (omega arith), le-leb b 255 (omega arith)) tt }

all_readable : (n : ℕ) (es : List Expr) → AllForms n es → n + length es ≤ 128 → AllReadable es
all_readable n [] f h = tt
all_readable n (e ∷ es) f h = (readable n e f.0 (omega arith), all_readable (suc n) es f.1 (omega arith))

scan_readable : ReadableStep scan
unfolding all? step_of step_fits in_step_table step_table
scan_readable = record { bytes = tt; back = refl; fits = tt }

select_readable : (q : ℕ) → q ≤ 255 → ReadableStep (select q)
unfolding all? step_of step_fits in_step_table step_table
select_readable q h = record { bytes = rw (le-leb q 255 h) tt; back = refl; fits = tt }

sink_readable : (keeps : Bool) → ReadableStep (sink keeps)
unfolding all? step_of step_fits in_step_table step_table
sink_readable true = record { bytes = tt; back = refl; fits = tt }
sink_readable false = record { bytes = tt; back = refl; fits = tt }

-- Its length --------------------------------------------------------------------------------------------------------------------

short_none : ShortList []
short_none = record { few = omega arith; small = λ n m. absurd (Memᴰ.not-nil m) }

short_more : (n : ℕ) (ns : List ℕ) → n < 1000 → length ns < 8 → ShortList ns → ShortList (n ∷ ns)
short_more n ns h k s =
    record {
      few = omega arith;
      small = λ m i. elim (Memᴰ.cases_cons i) [ inl e ↦ subst (λ x. x < 1000) (sym e) h | inr j ↦ s.small m j ];
    }

short_one : (n : ℕ) → n < 1000 → ShortList (n ∷ [])
short_one n h = short_more n [] h (omega arith) short_none

line_short : (i : ℕ) (e : Expr) → LineForm i e → i ≤ 255 → length (expr_line e) ≤ 50
line_short i _ LineForm.a_column h = expr_line_short column (omega arith) (omega arith) short_none.small
line_short i _ LineForm.a_literal h = expr_line_short literal (omega arith) (omega arith) short_none.small
line_short i _ (LineForm.a_binary s l a b j k) h =
    expr_line_short (binary s l a b) (omega arith) (omega arith)
    (short_more a (b ∷ []) (omega arith) (omega arith) (short_one b (omega arith))).small

pub lines_short : (n : ℕ) (es : List Expr) → AllForms n es → n + length es ≤ 128 → length (concat_map expr_line es) ≤ 50 * length es
unfolding concat_map
lines_short n [] f h = omega arith
lines_short n (e ∷ es) f h =
    omega (
      arith,
      length-append (expr_line e) (concat_map expr_line es),
      line_short n e f.0 (omega arith),
      lines_short (suc n) es f.1 (omega arith),
    )

-- The whole ---------------------------------------------------------------------------------------------------------------------

nothing_left : (sh : Sheet) → read_lines (parts 10 []) sh ≡ done sh
unfolding parts read_lines
nothing_left sh = refl

module _ (es : List Expr) (keeps : Bool) (f : AllForms 0 es) (h : length es ≤ 128) where
  length_short : length (sheet_text es keeps) ≤ 16384
  unfolding concat_map text
  length_short =
      let third : List ℕ = step_line (sink keeps) ++ [] in
      let second : List ℕ = step_line (select (last es)) ++ third in
      omega (
        arith,
        length-append (concat_map expr_line es) (step_line scan ++ second),
        length-append (step_line scan) second,
        length-append (step_line (select (last es))) third,
        length-append (step_line (sink keeps)) [],
        lines_short 0 es f (omega arith),
        step_line_short scan (omega arith) (omega arith) (omega arith) short_none short_none short_none,
        step_line_short (select (last es)) (omega arith) (omega arith) (omega arith)
            (short_one 0 (omega arith)) (short_one (last es) (omega arith)) short_none,
        step_line_short (sink keeps) (omega (arith, at_most_one keeps)) (omega arith) (omega arith)
            (short_one 1 (omega arith)) short_none short_none,
      )

  not_long : T (not (too_long (sheet_text es keeps)))
  not_long = rw (le-ltb 16384 (length (sheet_text es keeps)) length_short) tt

  abbrev with_steps : List Step → Sheet
  with_steps ps = record { exprs = es; steps = ps }

  lines_read : read_lines (parts 10 (sheet_text es keeps)) no_lines ≡ done (sheet es keeps)
  unfolding concat_map text with_step expr_count sum
  lines_read =
      let third : List ℕ = step_line (sink keeps) ++ [] in
      let second : List ℕ = step_line (select (last es)) ++ third in
      read_exprs es [] (step_line scan ++ second) (all_readable 0 es f (omega arith)) (omega arith)
      ∙ read_step scan (with_steps []) second scan_readable (within (with_steps (scan ∷ [])) (omega arith) (omega arith))
      ∙ read_step (select (last es)) (with_steps (scan ∷ [])) third (select_readable (last es) (omega arith))
      (within (with_steps (scan ∷ select (last es) ∷ [])) (omega arith) (omega arith))
      ∙ read_step (sink keeps) (with_steps (scan ∷ select (last es) ∷ [])) [] (sink_readable keeps)
      (within (sheet es keeps) (omega arith) (omega arith))
      ∙ nothing_left (sheet es keeps)

  pub sheet_read : read (sheet_text es keeps) ≡ done (sheet es keeps)
  unfolding read ◌then◌ refuse◌when◌else◌
  sheet_read =
      goes_on 2 (too_long (sheet_text es keeps)) _ not_long
      ∙ ap (λ (o : Outcome Sheet). o then λ sh. refuse 6 when no_plan sh else done sh) lines_read
