-- The lines of a formula, with a Scan, a Select of the last of them and a Sink, make an accepted sheet, which is finished.
use mathlib.Core.Path.{◌≡◌, refl, sym, ◌∙◌, subst}
use Prim.Native.Nat.{ℕ, zero, suc, ◌-◌, ◌≤◌, ◌<◌}
use native.Mathlib.Omega.{arith}
use mathlib.Core.Bool.{Bool}
use mathlib.Core.List.{List, [], ◌∷◌}
use lib.Dec.{T}
use lib.ListN.{length}
use borrow.Author.Tests.{lt-ltb}
use Rattle.plan.specs.Lists.{all?, concat_map, numbered, times, sum}
use Rattle.plan.specs.Sheet.{Expr, Sheet}
use Rattle.plan.specs.Faults.{Indexed, children_earlier, inputs_earlier, exprs_there, references_right, exprs_named, named, named_right, id_right, field_right}
use Rattle.plan.specs.Faults as faults
use Rattle.plan.proofs.Booleans.{and_both, equal}
use Rattle.plan.proofs.FaultLaws.{over_lines}
use Rattle.plan.proofs.ListLaws.{sum_append}
use Rattle.plan.proofs.Counts.{only}
use Rattle.claims.specs.WellFormed.{Accepted, Tested}
use Rattle.claims.proofs.Taken.{accepted_are}
use Rattle.formula.specs.Formula.{tree, e_lines, Tree, lines}
use Rattle.formula.specs.OnASheet.{sheet, sheet_text, OnASheet}
use Rattle.formula.proofs.PlainWalks.{Plain, AllPlain, plain_runs}
use Rattle.formula.proofs.ReadSheet.{sheet_read}
use Rattle.formula.proofs.FormulaLines.{LineForm, all_forms, forms, lines_count, named_once}

-- The tests --------------------------------------------------------------------------------------------------------------------

earlier : (i : ℕ) (e : Expr) → LineForm i e → T (children_earlier (i, e))
unfolding children_earlier all?
earlier i _ LineForm.a_column = tt
earlier i _ LineForm.a_literal = tt
earlier i _ (LineForm.a_binary s l a b h k) = rw (lt-ltb a i h, lt-ltb b i k) tt

no_field : (es : List Expr) (i : ℕ) (e : Expr) → LineForm i e → T (field_right es (i, e))
unfolding field_right
no_field es i _ LineForm.a_column = tt
no_field es i _ LineForm.a_literal = tt
no_field es i _ (LineForm.a_binary s l a b h k) = tt

module _ (t : Tree) (keeps : Bool) where
  abbrev its : List Expr
  its = lines 0 t

  abbrev whole_sheet : Sheet
  whole_sheet = sheet its keeps

  expr_once : (i : ℕ) → i < length its → times i (exprs_named whole_sheet) ≡ 1
  unfolding exprs_named concat_map
  expr_once i h = sum_append (only i) (concat_map (λ (e : Expr). e.children) its) ((length its - 1) ∷ []) ∙ named_once i t h

  references : T (all? (references_right whole_sheet) (faults.lines whole_sheet))
  unfolding all? numbered references_right inputs_earlier exprs_there
  references =
      subst T (sym (over_lines (references_right whole_sheet) whole_sheet))
      (and_both _ _ (all_forms children_earlier 0 its (forms 0 t) (λ i e k h l. earlier i e k))
      (rw (lt-ltb (length its - 1) (length its) (omega (arith, lines_count 0 t))) tt))

  uses : T (all? (named_right whole_sheet) (faults.lines whole_sheet))
  unfolding all? numbered named_right named concat_map sum
  uses =
      subst T (sym (over_lines (named_right whole_sheet) whole_sheet))
      (and_both _ _
      (all_forms (λ x. named_right whole_sheet (Indexed.expr x)) 0 its (forms 0 t) (λ i e k h l. equal _ 1 (expr_once i (omega arith))))
      tt)

  ids : T (all? (id_right whole_sheet.steps) (numbered 0 whole_sheet.steps))
  unfolding all? numbered id_right
  ids = tt

  tested : Tested whole_sheet
  tested =
      record {
        references = references;
        uses = uses;
        ids = ids;
        fields = all_forms (field_right its) 0 its (forms 0 t) (λ i e k h l. no_field its i e k);
      }

  accepted : length its ≤ 128 → Accepted (sheet_text its keeps) whole_sheet
  accepted h = (accepted_are (sheet_text its keeps) whole_sheet).accepted (sheet_read its keeps (forms 0 t) h) tested

plain_steps : (es : List Expr) (keeps : Bool) → AllPlain (sheet es keeps).steps
plain_steps es keeps zero = Plain.scan refl
plain_steps es keeps (suc zero) = Plain.select refl
plain_steps es keeps (suc (suc zero)) = Plain.sink refl refl
plain_steps es keeps (suc (suc (suc n))) = Plain.scan refl

pub on_a_sheet : OnASheet
on_a_sheet =
    record {
      accepted = λ d h keeps. accepted (tree d) keeps h;
      finished = λ d h keeps.
          let es = e_lines d in
          plain_runs (sheet_text es keeps) (sheet es keeps) (accepted (tree d) keeps h) (plain_steps es keeps);
    }
