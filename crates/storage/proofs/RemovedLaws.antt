-- Which sorts were removed: none, and one more.
use mathlib.Core.Path.{◌≡◌, refl, ap, ◌∙◌}
use Prim.Native.Nat.{ℕ, ◌<◌}
use native.Mathlib.Omega.{arith}
use native.Mathlib.Decide.{ℕ_discrete}
use mathlib.Core.Bool.{Bool, true, false, ◌||◌}
use mathlib.Core.List.{List, [], ◌∷◌}
use lib.Dec.{eqb}
use lib.ListN.{get_or, set, replicate}
use lib.Seq.{get_or-set_same, get_or-set_other}
use borrow.Author.Tests.{eq-eqb, ne_eqb}
use Rattle.plan.specs.Lists.{any?, among}
use Rattle.storage.specs.declared.removed.Removed.{Removed}
use Rattle.storage.specs.Removed.{RemovedAre, OneMore}
use Rattle.storage.proofs.Starts.{all_same}

pub none_marked : (n : ℕ) → get_or (replicate 32 false) n false ≡ among n []
unfolding any?
none_marked n = all_same 32 n false

module _ (gone : List ℕ) (m m' : Removed) (n : ℕ) (h : n < 32) (o : OneMore n m m') (k : RemovedAre gone m) where
  marked : (q : ℕ) → q < 32 → get_or (set m.marks n true) q false ≡ among q (n ∷ gone)
  unfolding any?
  marked q l = by (ℕ_discrete q n)
    where
      by : Dec (q ≡ n) → get_or (set m.marks n true) q false ≡ (eqb q n || among q gone)
      by (yes e) = rw (e, eq-eqb n n refl) (get_or-set_same m.marks n true false (omega (arith, m.sized, h)))
      by (no e) = rw (ne_eqb q n e) (get_or-set_other m.marks n q true false e ∙ k.marks q l)

  pub one_more : RemovedAre (n ∷ gone) m'
  one_more =
      record {
        marks = λ q l. ap (λ (x : List Bool). get_or x q false) o.marks ∙ marked q l;
        count = omega (arith, o.count, k.count);
      }
