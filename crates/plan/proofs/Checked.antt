-- All passes of `checked` as one chain of refusals.
use Rattle.std.specs.Prelude.{if◌then◌else◌}
use mathlib.Core.Path.{◌≡◌, refl, ap, ◌∙◌}
use Prim.Native.Nat.{ℕ, zero, suc}
use mathlib.Core.Bool.{Bool, true, false, not}
use mathlib.Core.List.{map}
use native.Mathlib.Omega.{arith}
use lib.Dec.{eqb, eqb-suc-zero}
use Rattle.plan.specs.Lists.{all?, concat_map, numbered}
use Rattle.plan.specs.Sheet.{Sheet, done, refuse◌when◌else◌}
use Rattle.plan.specs.Faults.{lines, references_right, uses, named_right, use_number, id_right, field_right, use_fault, passes, first_fault, refused_by, checked}
use Rattle.plan.proofs.FaultLaws.{first_of_two, all_right_is, one_number}
use Rattle.plan.proofs.LineFaults.{uses_given}

-- the pass of 8 and 12 gives nothing exactly if every line is named rightly
pub all_named_is : (sh : Sheet) → all? (named_right sh) (lines sh) ≡ eqb (first_fault (map (use_fault sh) (lines sh))) 0
all_named_is sh = all_right_is (named_right sh) (λ l. use_number (uses sh l)) (uses_given sh) (lines sh)

-- the passes one after the other, each as one test; that of 8 and 12 by the number it comes to
pub checked_is : (sh : Sheet)
    → let k = first_fault (map (use_fault sh) (lines sh)) in
    checked sh
    ≡ (refuse 7 when not (all? (references_right sh) (lines sh)) else
    refuse k when not (eqb k 0) else
    refuse 13 when not (all? (id_right sh.steps) (numbered 0 sh.steps)) else
    refuse 9 when not (all? (field_right sh.exprs) (numbered 0 sh.exprs)) else
    done sh)
unfolding checked passes first_fault concat_map refuse◌when◌else◌
checked_is sh =
    ap (refused_by sh)
    (one_number (references_right sh) 7 (λ e. omega arith) (lines sh) _
    ∙ ap (λ n. if a then n else 7)
    (first_of_two (map (use_fault sh) (lines sh)) _
    ∙ ap (λ n. if eqb k 0 then n else k)
    (one_number (id_right sh.steps) 13 (λ e. omega arith) (numbered 0 sh.steps) _
    ∙ ap (λ n. if c then n else 13) (one_number (field_right sh.exprs) 9 (λ e. omega arith) (numbered 0 sh.exprs) _))))
    ∙ by a k c d
  where
    a : Bool
    a = all? (references_right sh) (lines sh)

    k : ℕ
    k = first_fault (map (use_fault sh) (lines sh))

    c : Bool
    c = all? (id_right sh.steps) (numbered 0 sh.steps)

    d : Bool
    d = all? (field_right sh.exprs) (numbered 0 sh.exprs)

    by : (a : Bool) (n : ℕ) (c d : Bool)
        → refused_by sh (if a then (if eqb n 0 then (if c then (if d then 0 else 9) else 13) else n) else 7)
        ≡ (refuse 7 when not a else refuse n when not (eqb n 0) else refuse 13 when not c else refuse 9 when not d else done sh)
    by false _ _ _ = refl
    by true (suc n) _ _ = rw (eqb-suc-zero n)
    by true zero false _ = refl
    by true zero true false = refl
    by true zero true true = refl
