use mathlib.Core.Path.{◌≡◌, refl, sym, ap, ◌∙◌}
use Prim.Native.Nat.{ℕ}
use mathlib.Core.List.{List}
use Rattle.std.specs.Prelude.{Result}
use Rattle.plan.specs.declared.answer.Finished.{Finished}
use Rattle.plan.specs.declared.refusal.Refusal.{Refusal}
use Rattle.plan.specs.Finished.{Called, finish, answer_number, answer_length}
use Rattle.plan.specs.Refusals.{outcome_of}
use Rattle.engine.specs.Call.{call}
use Rattle.simplify_ordering_lib.proofs.simplify_ordering_finish.Goals as goal

-- what is told of an answer is what the definition's says
told : (s entry exit : List ℕ) (a known : Result Finished Refusal) (n : ℕ) → call (outcome_of a) exit ≡ finish s entry → a ≡ known
    → n ≡ answer_number (outcome_of known)
    → (n ≡ answer_number (finish s entry).answer)
    × ((answer_length (outcome_of known) ≡ answer_length (finish s entry).answer) × (exit ≡ (finish s entry).output))
told s entry exit a known n e is number =
    let same : outcome_of known ≡ (finish s entry).answer = ap outcome_of (sym is) ∙ ap (λ (x : Called). x.answer) e in
    (number ∙ ap answer_number same, (ap answer_length same, ap (λ (x : Called). x.output) e))

pub returns-in-Ok : goal.returns-in-Ok
returns-in-Ok c = let both = told _ _ _ _ _ _ c.finish.ensures.out_after c.in-Ok.is refl in record { value = both.0; length_after = both.1.0; out_after = both.1.1 }

pub returns-in-Err : goal.returns-in-Err
returns-in-Err c = let both = told _ _ _ _ _ _ c.finish.ensures.out_after c.in-Err.is c.from.ensures in record { value = both.0; length_after = both.1.0; out_after = both.1.1 }
