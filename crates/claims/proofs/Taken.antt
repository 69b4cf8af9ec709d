-- Which sheets are accepted; each of them is well formed.
use mathlib.Core.Path.{◌≡◌, ap, sym, ◌∙◌, subst}
use Prim.Native.Nat.{ℕ}
use native.Mathlib.Omega.{arith}
use mathlib.Core.Bool.{◌&&◌, not}
use mathlib.Core.Option.{Option, none, some}
use mathlib.Core.List.{List, [], ◌∷◌, map}
use lib.Dec.{T, ltb, leb, eqb}
use lib.ListN.{length, get_or}
use Rattle.plan.specs.Lists.{all?, sum, empty?, numbered}
use Rattle.plan.specs.Sheet.{Sheet, Outcome, done, ◌then◌, Line, E, P, expr_of, step_of, expr_fits, step_fits, in_expr_table, in_step_table, over_limits, with_expr, with_step, within_limits, line_of, read_line, read_lines, no_lines, read, parts, too_long, no_plan, expr_count}
use Rattle.plan.specs.Faults.{lines, references_right, id_right, field_right, use_fault, first_fault, checked}
use Rattle.plan.proofs.ListLaws.{and_right}
use Rattle.plan.proofs.Checked.{checked_is, all_named_is}
use Rattle.plan.proofs.Conditions.{goes_on_not}
use Rattle.claims.specs.WellFormed.{Accepted, Tested, AcceptedAre, WellFormed}
use Rattle.plan.proofs.Outcomes.{same_value, came, both_done, passed, passed_not}
use Rattle.plan.proofs.Booleans.{all_append}

-- what holds after every line
record Read (sh : Sheet) : Type 0 where
  exprs : T (all? in_expr_table sh.exprs)
  steps : T (all? in_step_table sh.steps)
  within : T (not (over_limits sh))

add_expr : (ns : List ℕ) (sh : Sheet) {sh' : Sheet} → Read sh → T (expr_fits ns) → within_limits (with_expr (expr_of ns) sh) ≡ done sh' → Read sh'
unfolding expr_fits with_expr
add_expr ns sh k t e =
    let (w, i) = passed (over_limits (with_expr (expr_of ns) sh)) _ _ e in
    let fits = and_right (ltb (get_or ns 0 0) 25 && leb (get_or ns 1 0) 1 && leb (get_or ns 2 0) 1) (in_expr_table (expr_of ns)) t in
    subst Read (same_value i)
    (record { exprs = all_append in_expr_table sh.exprs (expr_of ns) k.exprs fits; steps = k.steps; within = w })

add_step : (ns : List ℕ) (sh : Sheet) {sh' : Sheet} → Read sh → T (step_fits ns) → within_limits (with_step (step_of ns) sh) ≡ done sh' → Read sh'
unfolding step_fits with_step
add_step ns sh k t e =
    let (w, i) = passed (over_limits (with_step (step_of ns) sh)) _ _ e in
    let fits = and_right (ltb (get_or ns 0 0) 19 && eqb (length ns) _) (in_step_table (step_of ns)) t in
    subst Read (same_value i)
    (record { exprs = k.exprs; steps = all_append in_step_table sh.steps (step_of ns) k.steps fits; within = w })

one_line : (l : Option Line) (sh : Sheet) {sh' : Sheet} → Read sh → read_line l sh ≡ done sh' → Read sh'
unfolding read_line
one_line none sh k e = let z : ◌≡◌ {A = ℕ} 0 1 = cc in absurd (omega arith)
one_line (some (E ns)) sh k e =
    let (_, e₁) = passed_not (empty? sh.steps) _ _ e in
    let (t, e₂) = passed_not (expr_fits ns) _ _ e₁ in
    add_expr ns sh k t e₂
one_line (some (P ns)) sh k e = let (t, e₁) = passed_not (step_fits ns) _ _ e in add_step ns sh k t e₁

all_lines : (ls : List (List ℕ)) (sh : Sheet) {sh' : Sheet} → Read sh → read_lines ls sh ≡ done sh' → Read sh'
unfolding read_lines
all_lines [] sh k e = subst Read (same_value e) k
all_lines (l ∷ []) sh k e = subst Read (came (empty? l) sh _ e) k
all_lines (l ∷ l' ∷ ls) sh k e =
    let (sh₁, first, rest) = both_done (read_line (line_of l) sh) (λ x. read_lines (l' ∷ ls) x) e in
    all_lines (l' ∷ ls) sh₁ (one_line (line_of l) sh k first) rest

nothing_read : Read no_lines
unfolding all? over_limits expr_count sum
nothing_read = record { exprs = tt; steps = tt; within = tt }

-- Which sheets are accepted ----------------------------------------------------------------------------------------------------

module _ (s : List ℕ) (sh : Sheet) where
  passes : Accepted s sh → (read s ≡ done sh) × Tested sh
  passes e =
      let (sh₁, reads, c) = both_done (read s) checked e in
      let (refs, c₁) = passed_not (all? (references_right sh₁) (lines sh₁)) _ _ (sym (checked_is sh₁) ∙ c) in
      let (given, c₂) = passed_not (eqb (first_fault (map (use_fault sh₁) (lines sh₁))) 0) _ _ c₁ in
      let (ids, c₃) = passed_not (all? (id_right sh₁.steps) (numbered 0 sh₁.steps)) _ _ c₂ in
      let (fields, c₄) = passed_not (all? (field_right sh₁.exprs) (numbered 0 sh₁.exprs)) _ _ c₃ in
      subst (λ (x : Sheet). (read s ≡ done x) × Tested x) (same_value c₄)
      (reads, record { references = refs; uses = subst T (sym (all_named_is sh₁)) given; ids = ids; fields = fields })

  accepted : read s ≡ done sh → Tested sh → Accepted s sh
  unfolding ◌then◌
  accepted reads t =
      ap (λ (o : Outcome Sheet). o then checked) reads ∙ checked_is sh
      ∙ goes_on_not 7 (all? (references_right sh) (lines sh)) _ t.references
      ∙ goes_on_not _ (eqb (first_fault (map (use_fault sh) (lines sh))) 0) _ (subst T (all_named_is sh) t.uses)
      ∙ goes_on_not 13 (all? (id_right sh.steps) (numbered 0 sh.steps)) _ t.ids
      ∙ goes_on_not 9 (all? (field_right sh.exprs) (numbered 0 sh.exprs)) _ t.fields

  pub accepted_are : AcceptedAre s sh
  accepted_are = record { tested = passes; accepted = accepted }

pub well_formed : (s : List ℕ) (sh : Sheet) → Accepted s sh → WellFormed sh
unfolding read
well_formed s sh e =
    let (r, tested) = (accepted_are s sh).tested e in
    let (_, r₁) = passed (too_long s) _ _ r in
    let (sh₁, reads, r₂) = both_done (read_lines (parts 10 s) no_lines) _ r₁ in
    let (plan, r₃) = passed (no_plan sh₁) _ _ r₂ in
    let same : sh₁ ≡ sh = same_value r₃ in
    let k = subst Read same (all_lines (parts 10 s) no_lines nothing_read reads) in
    record {
      exprs_in_table = k.exprs;
      steps_in_table = k.steps;
      within_limits = k.within;
      has_plan = subst (λ (x : Sheet). T (not (no_plan x))) same plan;
      tested = tested;
    }
