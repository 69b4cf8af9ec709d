-- Laws of a record's children, and of the tests of a look.
use mathlib.Core.Path.{◌≡◌, refl}
use Prim.Native.Nat.{ℕ, zero, suc, ◌≤◌, ◌<◌}
use native.Mathlib.Omega.{arith}
use mathlib.Core.Bool.{Bool}
use mathlib.Core.List.{List, [], ◌∷◌}
use lib.ListN.{length, get_or}
use lib.Seq.{length-take-le, get_or-take}
use Rattle.std.specs.List.{list_all}
use Rattle.plan.specs.Lists.{all?}
use Rattle.storage.specs.declared.entries.Entries.{Entries}
use Rattle.storage.specs.Entries.{list_of, Shaped}
use Rattle.storage.specs.Based.{Falls}
use Rattle.expr.specs.State.{above}

-- Its children -------------------------------------------------------------------------------------------------------------------

pub above_each : (cs : List ℕ) (k : ℕ) → k < length cs → get_or cs k 0 < above cs
unfolding above
above_each [] k h = absurd (omega arith)
above_each (c ∷ cs) zero h = omega arith
above_each (c ∷ cs) (suc k) h = omega (arith, above_each cs k (omega arith))

pub above_least : (cs : List ℕ) (m : ℕ) → Falls m cs → above cs ≤ m
unfolding above
above_least [] m f = omega arith
above_least (c ∷ cs) m f = omega (arith, f.child 0 (omega arith), above_least cs m (record { child = λ k h. f.child (suc k) (omega arith) }))

module _ (e : Entries) (shaped : Shaped e) where
  pub children_length : length (list_of e) ≡ e.count
  children_length = length-take-le e.count e.nodes (omega (arith, shaped.few, shaped.room))

  pub children_at : (i : ℕ) → i < e.count → get_or (list_of e) i 0 ≡ get_or e.nodes i 0
  children_at i h = get_or-take e.count e.nodes i 0 h

pub all_is : (f : ℕ → Bool) (xs : List ℕ) → list_all f xs ≡ all? f xs
unfolding all?
all_is f [] = refl
all_is f (x ∷ xs) = rw (all_is f xs)
