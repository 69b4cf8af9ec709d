-- Reading a constant table.
use mathlib.Core.Path.{◌≡◌, refl, sym}
use Prim.Native.Nat.{ℕ, ◌≤◌}
use mathlib.Core.Bool.{Bool, true, false}
use mathlib.Core.List.{List}
use lib.ListN.{length, get_or, get_or-eq_default}
use lib.Dec.{ltb}
use Rattle.std.proofs.lemmas.Bool.{ltb-true, ltb-false}
use Rattle.std.proofs.lemmas.Option.{slice_get-get_or, slice_get_past}
use Rattle.plan.specs.Kinds.{in_table, listed}

-- past its end
pub past : {A : Type 0} (l : List A) (d : A) {k : ℕ} → length l ≤ k → d ≡ get_or l k d
past l d h = sym (get_or-eq_default l d h)

-- a list of kinds is the table of as many numbers
pub listed_in_table : {A : Type 0} (kinds : List A) (d : A) (k : ℕ) → listed kinds k ≡ in_table (length kinds) (λ i. get_or kinds i d) k
listed_in_table kinds d k = go (ltb k (length kinds)) refl
  where
    go : (b : Bool) → ltb k (length kinds) ≡ b → listed kinds k ≡ in_table (length kinds) (λ i. get_or kinds i d) k
    go true e = rw (e, slice_get-get_or kinds k d (ltb-true k (length kinds) e)) refl
    go false e = rw (e, slice_get_past kinds k (ltb-false k (length kinds) e)) refl
