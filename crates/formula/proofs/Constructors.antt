-- Two constructors are never equal, and one is equal in what it holds.
use Rattle.std.specs.Prelude.{Option, None, Some}
use mathlib.Core.Path.{◌≡◌}
use mathlib.Core.Bool.{true, false}
use Prim.Native.Nat.{ℕ}
use native.Mathlib.Omega.{arith}

pub clash : {A : Type 0} {P : Type 0} → (x : A) → ◌≡◌ {A = Option A} None (Some x) → P
clash x e = absurd (let z : ◌≡◌ {A = ℕ} 0 1 = cc in omega arith)

pub some_same : {A : Type 0} (x y : A) → Some x ≡ Some y → x ≡ y
some_same x y e = cc

pub true_false : {P : Type 0} → true ≡ false → P
true_false e = absurd (let z : ◌≡◌ {A = ℕ} 0 1 = cc in omega arith)
