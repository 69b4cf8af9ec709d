-- A run that comes to its end: both walks, and what update_cache_nodes leaves.
use mathlib.Core.Path.{◌≡◌, refl, ap, sym, ◌∙◌, subst}
use Prim.Native.Nat.{ℕ}
use mathlib.Core.List.{List}
use Rattle.plan.specs.Sheet.{Sheet, Outcome, refused, done, ◌then◌, read}
use Rattle.plan.specs.Faults.{checked}
use Rattle.plan.specs.Finished.{run}
use Rattle.plan.specs.Visit.{Run}
use Rattle.plan.specs.Walks.{down, up, updated, simplify_and_fetch_orderings}
use Rattle.claims.specs.WellFormed.{Accepted, WellFormed}
use Rattle.plan.proofs.Outcomes.{both_done, same_value}
use Rattle.claims.proofs.MergedPlan.{updated_own}

pub record Ends (sh : Sheet) (r : Run) : Type 0 where
  pub half : Run
  pub whole : Run
  pub down_ends : down sh ≡ done half
  pub up_ends : up half ≡ done whole
  pub updates : r ≡ updated sh whole

pub ends : (sh : Sheet) (r : Run) → simplify_and_fetch_orderings sh ≡ done r → Ends sh r
unfolding simplify_and_fetch_orderings
ends sh r e =
    let (whole, e₁, e₂) = both_done (down sh then up) (λ r. done (updated sh r)) e in
    let (half, e₃, e₄) = both_done (down sh) up e₁ in
    record { half = half; whole = whole; down_ends = e₃; up_ends = e₄; updates = sym (same_value e₂) }

unchanged : {A : Type 0} (o : Outcome A) (f : A → A) → ((x : A) → f x ≡ x) → (o then λ x. done (f x)) ≡ o
unfolding ◌then◌
unchanged (refused n) f h = refl
unchanged (done x) f h = ap done (h x)

-- on a well-formed sheet it leaves what the walks do
pub walks_alone : (sh : Sheet) → WellFormed sh → simplify_and_fetch_orderings sh ≡ (down sh then up)
unfolding simplify_and_fetch_orderings
walks_alone sh w = unchanged (down sh then up) (updated sh) (updated_own sh w)

-- a run on the bytes of an accepted sheet
pub ends_on : (s : List ℕ) (sh : Sheet) (r : Run) → Accepted s sh → run s ≡ done r → Ends sh r
unfolding run
ends_on s sh r accepted e =
    let (sh₁, a, walks) = both_done (read s then checked) simplify_and_fetch_orderings e in
    ends sh r (subst (λ (x : Sheet). simplify_and_fetch_orderings x ≡ done r) (same_value (sym a ∙ accepted)) walks)

-- that sheet
pub accepted_by : (s : List ℕ) (r : Run) → run s ≡ done r → (sh : Sheet) × Accepted s sh
unfolding run
accepted_by s r e = let (sh, a, walks) = both_done (read s then checked) simplify_and_fetch_orderings e in (sh, a)
