-- More fuel changes nothing: of the records reached from one, and of both passes of the graph.
use Rattle.std.specs.Prelude.{if◌then◌else◌}
use mathlib.Core.Path.{◌≡◌, refl, ap, sym, ◌∙◌}
use mathlib.Core.Logic.{inl, inr}
use Prim.Native.Nat.{ℕ, zero, suc, ◌+◌, ◌<◌}
use native.Mathlib.Omega.{arith}
use native.Mathlib.Nat.{suc-add, not-suc-le-zero}
use mathlib.Core.Bool.{Bool, true, false, ◌&&◌}
use mathlib.Core.List.Memᴰ
use mathlib.Core.List.{List, [], ◌∷◌, ◌++◌, reverse, append-nil, Memᴰ}
use lib.ListN.{length, length-append}
use Rattle.plan.specs.Lists.{sum, concat_map, among}
use Rattle.plan.specs.Sheet.{Expr, Step, expr_at, step_at}
use Rattle.plan.specs.Faults.{reach, named}
use Rattle.plan.specs.Graph.{Edge, is_cache, most_places, sinks}
use Rattle.claims.specs.Limits.{ChildrenEarlier}
use Rattle.plan.proofs.Counts.{sum_ones, mem_reverse}
use Rattle.claims.proofs.ByLine.{pushes, pop, popped, opens, following, edges_into, grow}
use Rattle.claims.specs.Plan.{Plan}
use Rattle.claims.proofs.Plans.{input_there}
use Rattle.claims.proofs.Reached.{followed, followed_le}
use Rattle.claims.proofs.Hits as hits
use Rattle.claims.proofs.Places as places

-- The records reached from p ---------------------------------------------------------------------------------------------------------------

same_concat : {A B : Type 0} (f g : A → List B) (l : List A) → ((x : A) → Memᴰ x l → f x ≡ g x) → concat_map f l ≡ concat_map g l
unfolding concat_map
same_concat f g [] h = refl
same_concat f g (x ∷ l) h = rw (h x (Memᴰ.head refl), same_concat f g l (λ y m. h y (Memᴰ.tail m)))

pub reach_enough : (es : List Expr) → ChildrenEarlier es → (f g p : ℕ) → p < f → p < g → reach f es p ≡ reach g es p
unfolding reach
reach_enough es d zero g p h l = absurd (not-suc-le-zero h)
reach_enough es d (suc f) zero p h l = absurd (not-suc-le-zero l)
reach_enough es d (suc f) (suc g) p h l =
    ap (λ (x : List ℕ). p ∷ x)
    (same_concat (λ q. reach f es q) (λ q. reach g es q) (expr_at es p).children
    (λ q m. let e = d p q m in reach_enough es d f g q (omega arith) (omega arith)))

-- with no turn left nothing waits, in either pass
no_turn_left : (ps : List Step) (gone waiting : List ℕ) (n : ℕ) (opened : ℕ → Bool) → length gone + 0 ≡ most_places ps
    → ((w : ℕ → ℕ) → sum w gone + sum w (n ∷ waiting) ≡ sum w (sinks ps) + followed w ps opened) → ⊥
unfolding sum
no_turn_left ps gone waiting n opened h c =
    omega (arith, c (λ _. 1), followed_le (λ _. 1) ps opened, sum_ones gone, sum_ones (sinks ps), sum_ones (named ps))

-- The first pass -----------------------------------------------------------------------------------------------------------------------------

module _ (ps : List Step) (plan : Plan ps) where
  nothing_waits : (k : ℕ) (met : List ℕ) → pop k ps met [] ≡ met
  unfolding pop
  nothing_waits zero met = refl
  nothing_waits (suc k) met = refl

  pub pop_enough : (f k : ℕ) (met stack : List ℕ) → length met + f ≡ most_places ps → hits.Counted ps met stack
      → ((n : ℕ) → Memᴰ n stack → n < length ps) → pop (f + k) ps met stack ≡ pop f ps met stack
  unfolding pop pushes
  pop_enough zero k met [] h c r = nothing_waits (0 + k) met
  pop_enough zero k met (n ∷ stack) h c r =
      absurd (no_turn_left ps met stack n (λ m. among m met) h c)
  pop_enough (suc f) k met [] h c r = nothing_waits (suc f + k) met
  pop_enough (suc f) k met (n ∷ stack) h c r =
      ap (λ (m : ℕ). pop m ps met (n ∷ stack)) (suc-add f k)
      ∙ pop_enough f k (met ++ (n ∷ [])) (reverse (pushes ps met n) ++ stack) (simp length-append (omega arith))
      (hits.counted_next ps plan met stack n (r n (Memᴰ.head refl)) c)
      (λ m i.
      elim (Memᴰ.append_cases (reverse (pushes ps met n)) i) [
        | inl j ↦ in_range m (is_cache ps n && among n met) (mem_reverse m (pushes ps met n) j)
        | inr j ↦ r m (Memᴰ.tail j)
      ])
    where
      in_range : (m : ℕ) (b : Bool) → Memᴰ m (if b then [] else (step_at ps n).inputs) → m < length ps
      in_range m true j = absurd (Memᴰ.not-nil j)
      in_range m false j = input_there ps plan n m j

  -- The second pass ------------------------------------------------------------------------------------------------------------------------------

  no_place_waits : (k : ℕ) (past : List ℕ) (es : List Edge) → grow k ps (popped ps) past [] es ≡ (reverse past, es)
  unfolding grow
  no_place_waits zero past es = ap (λ (l : List ℕ). (l, es)) (append-nil (reverse past))
  no_place_waits (suc k) past es = refl

  pub grow_enough : (f k : ℕ) (past waiting : List ℕ) (es : List Edge) → length past + f ≡ most_places ps → places.Counted ps past waiting
      → ((n : ℕ) → Memᴰ n waiting → n < length ps)
      → grow (f + k) ps (popped ps) past waiting es ≡ grow f ps (popped ps) past waiting es
  unfolding grow following
  grow_enough zero k past [] es h c r = no_place_waits (0 + k) past es ∙ sym (no_place_waits 0 past es)
  grow_enough zero k past (n ∷ ns) es h c r = absurd (no_turn_left ps past ns n (places.opened ps past) h c)
  grow_enough (suc f) k past [] es h c r = no_place_waits (suc f + k) past es
  grow_enough (suc f) k past (n ∷ ns) es h c r =
      ap (λ (m : ℕ). grow m ps (popped ps) past (n ∷ ns) es) (suc-add f k)
      ∙ grow_enough f k (n ∷ past) (ns ++ following ps (popped ps) past n) (es ++ edges_into n (following ps (popped ps) past n)) (omega arith)
      (places.counted_next ps plan past ns n c (r n (Memᴰ.head refl)))
      (λ m i.
      elim (Memᴰ.append_cases ns i) [ inl j ↦ r m (Memᴰ.tail j) | inr j ↦ in_range m (opens ps (popped ps) past n) j ])
    where
      in_range : (m : ℕ) (b : Bool) → Memᴰ m (if b then (step_at ps n).inputs else []) → m < length ps
      in_range m true j = input_there ps plan n m j
      in_range m false j = absurd (Memᴰ.not-nil j)
