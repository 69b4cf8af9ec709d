-- A kind that was read by its number: what its line may have, by that number, and which kind it is.
use Rattle.std.specs.Prelude.{if◌then◌else◌, Ok, Err}
use mathlib.Core.Path.{◌≡◌, refl, sym, ap, ◌∙◌}
use mathlib.Core.Bool.{Bool, true, false, ◌&&◌}
use Prim.Native.Nat.{ℕ, ◌+◌, ◌<◌, ◌≤◌}
use native.Mathlib.Omega.{arith}
use native.Mathlib.Decide.{dec_le}
use lib.Dec.{eqb, ltb, leb}
use lib.ListN.{get_or-eq_default}
use borrow.Author.Tests.{ltb-true, ne_eqb}
use Rattle.plan.specs.declared.refusal.Refusal.{Refusal}
use Rattle.plan.specs.declared.aexpr.AExpr.{AExpr}
use Rattle.plan.specs.declared.ir.IR.{IR}
use Rattle.plan.specs.Kinds.{in_table, aexprs, aexpr, aexpr_number, irs, ir, ir_number}
use Rattle.plan.proofs.KindNumbers.{aexpr_there, ir_there}
use Rattle.reading.specs.Tables.{expr_kind_fits, expr_numbers_fit, step_kind_fits, step_numbers_fit}

module _ {A : Type 0} (number : A → ℕ) (n : ℕ) (kind : ℕ → A) (there : (k : ℕ) → k < n → number (kind k) ≡ k) where
  read : (k : ℕ) (x : A) → in_table n kind k ≡ Ok x → (ltb k n ≡ true) × (number x ≡ k)
  read k x h = by (ltb k n) refl h
    where
      by : (b : Bool) → ltb k n ≡ b → (if b then Ok (kind k) else Err Refusal.Table) ≡ Ok x → (ltb k n ≡ true) × (number x ≡ k)
      by true e g = let t = there k (ltb-true k n e) in (e, cc)
      by false e g = absurd (cc)

  unread : (k : ℕ) (e : Refusal) → in_table n kind k ≡ Err e → ltb k n ≡ false
  unread k x h = by (ltb k n) refl h
    where
      by : (b : Bool) → ltb k n ≡ b → (if b then Ok (kind k) else Err Refusal.Table) ≡ Err x → ltb k n ≡ false
      by true e g = absurd (cc)
      by false e g = e

pub expr_read : (k s l a n : ℕ) (x : AExpr) → in_table 25 aexpr k ≡ Ok x → expr_numbers_fit k s l a n ≡ (leb s 1 && leb l 1 && expr_kind_fits (aexpr_number x) a n)
unfolding expr_numbers_fit
expr_read k s l a n x h = let r = read aexpr_number 25 aexpr aexpr_there k x h in rw (r.0, r.1)

pub expr_unread : (k s l a n : ℕ) (e : Refusal) → in_table 25 aexpr k ≡ Err e → expr_numbers_fit k s l a n ≡ false
unfolding expr_numbers_fit
expr_unread k s l a n e h = rw (unread aexpr_number 25 aexpr aexpr_there k e h)

pub step_read : (k a b c n1 n2 n3 n : ℕ) (x : IR) → in_table 19 ir k ≡ Ok x
    → step_numbers_fit k a b c n1 n2 n3 n ≡ (eqb n (7 + n1 + n2 + n3) && step_kind_fits (ir_number x) a b c n1 n2 n3)
unfolding step_numbers_fit
step_read k a b c n1 n2 n3 n x h = let r = read ir_number 19 ir ir_there k x h in rw (r.0, r.1)

pub step_unread : (k a b c n1 n2 n3 n : ℕ) (e : Refusal) → in_table 19 ir k ≡ Err e → step_numbers_fit k a b c n1 n2 n3 n ≡ false
unfolding step_numbers_fit
step_unread k a b c n1 n2 n3 n e h = rw (unread ir_number 19 ir ir_there k e h)

-- a kind by its number, but the first, which stands for what is past the table too
pub step_kind_is : (k n : ℕ) → 0 < n → n < 19 → eqb (ir_number (ir k)) n ≡ eqb k n
step_kind_is k n h l = by (dec_le 19 k)
  where
    by : Dec (19 ≤ k) → eqb (ir_number (ir k)) n ≡ eqb k n
    by (yes m) = rw (ap ir_number (get_or-eq_default irs IR.Scan m)) (ne_eqb 0 n (λ e. omega arith) ∙ sym (ne_eqb k n (λ e. omega arith)))
    by (no m) = ap (λ j. eqb j n) (ir_there k (omega arith))

pub expr_kind_is : (k n : ℕ) → 0 < n → n < 25 → eqb (aexpr_number (aexpr k)) n ≡ eqb k n
expr_kind_is k n h l = by (dec_le 25 k)
  where
    by : Dec (25 ≤ k) → eqb (aexpr_number (aexpr k)) n ≡ eqb k n
    by (yes m) = rw (ap aexpr_number (get_or-eq_default aexprs AExpr.Column m)) (ne_eqb 0 n (λ e. omega arith) ∙ sym (ne_eqb k n (λ e. omega arith)))
    by (no m) = ap (λ j. eqb j n) (aexpr_there k (omega arith))
