-- Steps by their kind: its number, and what refusal 4 leaves of their inputs.
use mathlib.Core.Path.{◌≡◌, refl, ap, subst}
use Prim.Native.Nat.{ℕ, ◌≤◌, ◌<◌}
use native.Mathlib.Omega.{arith}
use native.Mathlib.Nat.{not-suc-le-zero}
use native.Mathlib.Decide.{dec_lt}
use mathlib.Core.Bool.{Bool, ◌&&◌}
use mathlib.Core.List.{List}
use lib.Dec.{T, leb, leb→le}
use lib.ListN.{length, get_or, get_or-eq_default}
use Rattle.plan.specs.declared.ir.IR.{IR}
use Rattle.plan.specs.Kinds.{ir_number}
use Rattle.plan.specs.Lists.{all?}
use Rattle.plan.specs.Sheet.{Step, no_step, step_at, step_table, in_step_table}
use Rattle.plan.proofs.ListLaws.{and_left, and_right}
use Rattle.plan.proofs.Booleans.{all_at}

-- Kinds and their numbers -----------------------------------------------------------------------------------------------------

-- a step with an input is there
pub has_inputs : (ps : List Step) (n : ℕ) → 1 ≤ length (step_at ps n).inputs → n < length ps
has_inputs ps n h = by (dec_lt n (length ps))
  where
    by : Dec (n < length ps) → n < length ps
    by (yes l) = l
    by (no l) = absurd (not-suc-le-zero (subst (λ (s : Step). 1 ≤ length s.inputs) (get_or-eq_default ps no_step (omega arith)) h))

-- The table -------------------------------------------------------------------------------------------------------------------

abbrev Row : Type 0
Row = ℕ × ℕ × ℕ × ℕ × ℕ × ℕ × ℕ × ℕ

abbrev no_row : Row
no_row = (0, 0, 0, 0, 0, 0, 0, 0)

-- the row of a step has the fewest and the most inputs that it may have
inputs_fit : (s : Step) → T (in_step_table s)
    → let row : Row = get_or step_table (ir_number s.kind) no_row in (row.3 ≤ length s.inputs) × (length s.inputs ≤ row.4)
unfolding in_step_table
inputs_fit s t =
    let row : Row = get_or step_table (ir_number s.kind) no_row in
    let n1 = length s.inputs in
    let n2 = length s.exprs in
    let (least, most) =
    fourth_and_fifth (leb s.a row.0) (leb s.b row.1) (leb s.c row.2) (leb row.3 n1) (leb n1 row.4)
    (leb row.5 n2) (leb n2 row.6) (leb (length s.aggs) row.7) _ t in
    (leb→le row.3 n1 least, leb→le n1 row.4 most)
  where
    fourth_and_fifth : (a b c d e f g h i : Bool) → T (a && b && c && d && e && f && g && h && i) → T d × T e
    fourth_and_fifth a b c d e f g h i t =
        let five = a && b && c && d && e in
        let t₅ = and_left five f (and_left (five && f) g (and_left (five && f && g) h (and_left (five && f && g && h) i t))) in
        (and_right (a && b && c) d (and_left (a && b && c && d) e t₅), and_right (a && b && c && d) e t₅)

-- no kind has more than 8 inputs
pub few_inputs : (s : Step) → T (in_step_table s) → length s.inputs ≤ 8
unfolding step_table all?
few_inputs s t =
    let most = (get_or step_table (ir_number s.kind) no_row).4 in
    omega (arith, (inputs_fit s t).1, leb→le most 8 (in_every_row (ir_number s.kind)))
  where
    in_every_row : (k : ℕ) → T (leb (get_or step_table k no_row).4 8)
    in_every_row k = by (dec_lt k 19)
      where
        by : Dec (k < 19) → T (leb (get_or step_table k no_row).4 8)
        by (yes h) = all_at (λ (x : Row). leb x.4 8) step_table no_row tt k h
        by (no h) = rw (get_or-eq_default step_table no_row {n = k} (omega arith)) tt

-- a kind whose row has one input
one_input : (k : IR) → (get_or step_table (ir_number k) no_row).3 ≡ 1 → (get_or step_table (ir_number k) no_row).4 ≡ 1
    → (s : Step) → s.kind ≡ k → T (in_step_table s) → length s.inputs ≡ 1
one_input k l m s e t =
    let (least, most) = inputs_fit s t in
    let row = ap (λ (k : IR). get_or step_table (ir_number k) no_row) e in
    omega (arith, l, m, ap (λ (x : Row). x.3) row, ap (λ (x : Row). x.4) row)

pub sort_has_one_input : (s : Step) → s.kind ≡ IR.Sort → T (in_step_table s) → length s.inputs ≡ 1
unfolding step_table
sort_has_one_input = one_input IR.Sort refl refl

pub sink_has_one_input : (s : Step) → s.kind ≡ IR.Sink → T (in_step_table s) → length s.inputs ≡ 1
unfolding step_table
sink_has_one_input = one_input IR.Sink refl refl

pub cache_has_one_input : (s : Step) → s.kind ≡ IR.Cache → T (in_step_table s) → length s.inputs ≡ 1
unfolding step_table
cache_has_one_input = one_input IR.Cache refl refl
