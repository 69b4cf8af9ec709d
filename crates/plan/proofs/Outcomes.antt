-- Outcomes that came to a value.
use Rattle.std.specs.Prelude.{if◌then◌else◌}
use mathlib.Core.Path.{◌≡◌, refl}
use Prim.Native.Nat.{ℕ}
use native.Mathlib.Omega.{arith}
use mathlib.Core.Bool.{Bool, true, false, not}
use lib.Dec.{T}
use Rattle.plan.specs.Sheet.{Outcome, refused, done, ◌then◌, refuse◌when◌else◌}

pub same_value : {A : Type 0} {x y : A} → done x ≡ done y → x ≡ y
same_value e = cc

-- a choice between a value and a refusal
pub came : {A : Type 0} (b : Bool) (x : A) (k : ℕ) {y : A} → (if b then done x else refused k) ≡ done y → x ≡ y
came true x k e = cc
came false x k e = let z : ◌≡◌ {A = ℕ} 0 1 = cc in absurd (omega arith)

-- of two things done one after the other, both were done
pub both_done : {A B : Type 0} (o : Outcome A) (f : A → Outcome B) {y : B} → (o then f) ≡ done y → (x : A) × (o ≡ done x) × (f x ≡ done y)
unfolding ◌then◌
both_done (refused n) f e = let z : ◌≡◌ {A = ℕ} 0 1 = cc in absurd (omega arith)
both_done (done x) f e = (x, refl, e)

-- what was not refused went on
pub passed : {A : Type 0} (b : Bool) (k : ℕ) (o : Outcome A) {y : A} → (refuse k when b else o) ≡ done y → T (not b) × (o ≡ done y)
unfolding refuse◌when◌else◌
passed true k o e = let z : ◌≡◌ {A = ℕ} 0 1 = cc in absurd (omega arith)
passed false k o e = (tt, e)

pub passed_not : {A : Type 0} (b : Bool) (k : ℕ) (o : Outcome A) {y : A} → (refuse k when not b else o) ≡ done y → T b × (o ≡ done y)
unfolding refuse◌when◌else◌
passed_not true k o e = (tt, e)
passed_not false k o e = let z : ◌≡◌ {A = ℕ} 0 1 = cc in absurd (omega arith)
