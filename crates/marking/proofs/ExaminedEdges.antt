-- The edges that are examined: their lines are those that the code leaves in, and stand in the right paper; the others' do not.
use Rattle.std.specs.Prelude.{if◌then◌else◌}
use mathlib.Core.Path.{◌≡◌, refl, sym, ap, ◌∙◌}
use mathlib.Core.Logic.{◌⊎◌, inl, inr}
use Prim.Native.Nat.{ℕ}
use mathlib.Core.Bool.{Bool, true, false, not}
use mathlib.Core.List.Memᴰ
use mathlib.Core.List.{List, [], ◌∷◌, Memᴰ}
use Rattle.plan.specs.Finished.{run}
use Rattle.plan.specs.Graph.{Edge}
use Rattle.plan.specs.Lists.{any?, among, concat_map, select}
use Rattle.plan.specs.Sheet.{done}
use Rattle.plan.specs.Text.{edge_line}
use Rattle.plan.specs.Visit.{Run}
use Rattle.plan.proofs.Counts.{T_of, false_of, not_both, among_times, times_among, times_of, stands_in}
use Rattle.claims.specs.Limits.{ShortEdge}
use Rattle.claims.proofs.Ends.{accepted_by}
use Rattle.claims.proofs.WithinLimits.{within_limits}
use Rattle.storage.specs.declared.removed.Removed.{Removed}
use Rattle.storage.specs.Removed.{RemovedAre}
use Rattle.marking.specs.Unmarked.{unmarked, unmarked_lines}
use Rattle.marking.specs.Marking.{examined, examined_block}

pub short_edges : (s : List ℕ) (whole : Run) → run s ≡ done whole → (d : Edge) → Memᴰ d whole.edges → ShortEdge d
short_edges s whole runs = let (sh, accepted) = accepted_by s whole runs in (within_limits s sh accepted).edges whole runs

select_same : (f g : Edge → Bool) (l : List Edge) → ((d : Edge) → Memᴰ d l → f d ≡ g d) → select f l ≡ select g l
unfolding select
select_same f g [] h = refl
select_same f g (x ∷ l) h =
    ap (λ (b : Bool). if b then x ∷ select f l else select f l) (h x (Memᴰ.head refl))
    ∙ ap (λ (k : List Edge). if g x then x ∷ k else k) (select_same f g l (λ d m. h d (Memᴰ.tail m)))

-- the marks say of each edge whether it is examined
pub examined_are : (m : Removed) (r : Run) → RemovedAre r.removed m → ((d : Edge) → Memᴰ d r.edges → ShortEdge d) → unmarked_lines m r.edges ≡ examined_block r
unfolding examined_block
examined_are m r k short =
    ap (concat_map edge_line) (select_same (unmarked m) (examined r) r.edges (λ d i. ap not (k.marks d.consumer (short d i).consumer)))

-- What is examined --------------------------------------------------------------------------------------------------------------

selected : (f : Edge → Bool) (l : List Edge) (d : Edge) → Memᴰ d l → f d ≡ true → Memᴰ d (select f l)
unfolding select
selected f [] d m e = absurd (Memᴰ.not-nil m)
selected f (x ∷ l) d m e = by (f x) refl (Memᴰ.cases_cons m) (λ k. selected f l d k e)
  where
    by : (b : Bool) → f x ≡ b → (d ≡ x) ⊎ Memᴰ d l → (Memᴰ d l → Memᴰ d (select f l)) → Memᴰ d (if b then x ∷ select f l else select f l)
    by true i (inl h) on = Memᴰ.head h
    by true i (inr h) on = Memᴰ.tail (on h)
    by false i (inl h) on = absurd (not_both (f x) (T_of (f x) (ap f (sym h) ∙ e)) i)
    by false i (inr h) on = on h

of_selected : (f : Edge → Bool) (l : List Edge) (d : Edge) → Memᴰ d (select f l) → Memᴰ d l × (f d ≡ true)
unfolding select
of_selected f [] d m = absurd (Memᴰ.not-nil m)
of_selected f (x ∷ l) d m = by (f x) refl m (λ k. of_selected f l d k)
  where
    by : (b : Bool) → f x ≡ b → Memᴰ d (if b then x ∷ select f l else select f l) → (Memᴰ d (select f l) → Memᴰ d l × (f d ≡ true))
        → Memᴰ d (x ∷ l) × (f d ≡ true)
    by true i k on =
        elim (Memᴰ.cases_cons k) [
          | inl h ↦ (Memᴰ.head h, ap f h ∙ i)
          | inr h ↦ let (j, e) = on h in (Memᴰ.tail j, e)
        ]
    by false i k on = let (j, e) = on k in (Memᴰ.tail j, e)

module _ (r : Run) (d : Edge) where
  -- an edge of the run whose consumer was not removed
  pub is_examined : Memᴰ d r.edges → ¬ Memᴰ d.consumer r.removed → Memᴰ d (select (examined r) r.edges)
  is_examined m n =
      let none : among d.consumer r.removed ≡ false =
      false_of (among d.consumer r.removed) (λ t. n (stands_in d.consumer r.removed (among_times d.consumer r.removed t))) in
      selected (examined r) r.edges d m (ap not none)

  -- and no other
  pub was_examined : Memᴰ d (select (examined r) r.edges) → Memᴰ d r.edges × (¬ Memᴰ d.consumer r.removed)
  was_examined m =
      let (i, e) = of_selected (examined r) r.edges d m in
      (i, λ k. not_both (among d.consumer r.removed) (times_among d.consumer r.removed (times_of d.consumer r.removed k)) (true_not (among d.consumer r.removed) e))
    where
      true_not : (b : Bool) → not b ≡ true → b ≡ false
      true_not true e = sym e
      true_not false e = refl

-- where nothing was removed, every edge is
all_selected : (l : List Edge) → select (λ (d : Edge). true) l ≡ l
unfolding select
all_selected [] = refl
all_selected (x ∷ l) = ap (λ (k : List Edge). x ∷ k) (all_selected l)

pub all_examined : (r : Run) → r.removed ≡ [] → examined_block r ≡ concat_map edge_line r.edges
unfolding examined_block any?
all_examined r e =
    ap (concat_map edge_line) (ap (λ (l : List ℕ). select (λ (d : Edge). not (among d.consumer l)) r.edges) e ∙ all_selected r.edges)
