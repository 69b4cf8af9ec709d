-- The lines before anything is changed.
use mathlib.Core.Path.{◌≡◌, refl}
use Prim.Native.Nat.{ℕ, zero, suc}
use mathlib.Core.Bool.{Bool, false}
use lib.ListN.{get_or, replicate, length-replicate}
use Rattle.storage.specs.Start.{NoneOff}

pub all_same : {A : Type 0} (m q : ℕ) (a : A) → get_or (replicate m a) q a ≡ a
all_same zero q a = refl
all_same (suc m) zero a = refl
all_same (suc m) (suc q) a = all_same m q a

pub none_off : NoneOff (replicate 128 false)
none_off = record { size = length-replicate {A = Bool} 128 false; on = λ q. all_same 128 q false }
