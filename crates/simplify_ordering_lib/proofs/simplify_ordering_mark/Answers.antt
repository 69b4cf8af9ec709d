use mathlib.Core.Path.{◌≡◌, refl, sym, ap, ◌∙◌}
use Prim.Native.Nat.{ℕ}
use mathlib.Core.List.{List}
use Rattle.std.specs.Prelude.{Result, Ok}
use Rattle.plan.specs.declared.refusal.Refusal.{Refusal}
use Rattle.plan.specs.Refusals.{outcome_of}
use Rattle.marking.specs.declared.answer.Mark.{Mark}
use Rattle.marking.specs.Marking.{MarkCalled, mark_call, marked, mark_answer}
use Rattle.simplify_ordering_lib.proofs.simplify_ordering_mark.Goals as goal

-- what is told of a mark is what the definition's says
told : (s paper entry exit : List ℕ) (a known : Result Mark Refusal) (n : ℕ) → mark_call (outcome_of a) exit ≡ marked s paper entry → a ≡ known
    → n ≡ mark_answer (outcome_of known) → (n ≡ mark_answer (marked s paper entry).answer) × (exit ≡ (marked s paper entry).output)
told s paper entry exit a known n e is number =
    (number ∙ ap mark_answer (ap outcome_of (sym is) ∙ ap (λ (x : MarkCalled). x.answer) e), ap (λ (x : MarkCalled). x.output) e)

pub returns-in-Ok-Right : goal.returns-in-Ok-Right
unfolding mark_answer
returns-in-Ok-Right c =
    let i = c.in-Ok-Right.is in
    let j = c.in-Ok-Right.field-0-is in
    let m : c.in-Ok-Right.field-0 ≡ Mark.Right = cc in
    let both = told _ _ _ _ c.mark.result (Ok Mark.Right) _ c.mark.ensures (i ∙ ap Ok m) refl in
    record { value = both.0; out_after = both.1 }

pub returns-in-Ok-Wrong : goal.returns-in-Ok-Wrong
unfolding mark_answer
returns-in-Ok-Wrong c =
    let i = c.in-Ok-Wrong.is in
    let j = c.in-Ok-Wrong.field-0-is in
    let m : c.in-Ok-Wrong.field-0 ≡ Mark.Wrong = cc in
    let both = told _ _ _ _ c.mark.result (Ok Mark.Wrong) _ c.mark.ensures (i ∙ ap Ok m) refl in
    record { value = both.0; out_after = both.1 }

pub returns-in-Err : goal.returns-in-Err
unfolding mark_answer
returns-in-Err c = let both = told _ _ _ _ _ _ _ c.mark.ensures c.in-Err.is c.from.ensures in record { value = both.0; out_after = both.1 }
