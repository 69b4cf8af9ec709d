-- Demand 3, sorts: which are removed.
use mathlib.Core.Path.{◌≡◌, refl, ap, sym, ◌∙◌, subst}
use mathlib.Core.Logic.{◌⊎◌, inl, inr, ◌↔◌}
use Prim.Native.Nat.{ℕ, ◌+◌, ◌≤◌, ◌<◌}
use native.Mathlib.Omega.{arith}
use native.Mathlib.Decide.{dec_le}
use mathlib.Core.Bool.{true, ◌&&◌, not}
use mathlib.Core.List.Memᴰ
use mathlib.Core.List.{List, [], ◌∷◌, Memᴰ}
use lib.Dec.{T}
use lib.ListN.{length}
use Rattle.plan.specs.declared.ir.IR.{IR}
use Rattle.plan.specs.Kinds.{same_ir}
use Rattle.plan.specs.Lists.{yes?, sum, times}
use Rattle.plan.specs.Sheet.{Sheet, Outcome, done, step_at}
use Rattle.plan.specs.Graph.{Edge, graph}
use Rattle.plan.specs.Visit.{Run, simplify_ir_node_orders, goes, unlink_node, is_out_of, no_edge, out_edge, settled_by}
use Rattle.plan.specs.Walks.{walk, trace, then_all, begin, down, up, trace_by, walk_by}
use Rattle.plan.proofs.ListLaws.{and_right}
use Rattle.claims.specs.WellFormed.{Accepted}
use Rattle.plan.specs.Conditions.{Down, Up}
use Rattle.claims.specs.Demand3.{leaving, UnorderedAt, RemovedAt, IsSort, NoSlice, RemovedDown, Removed, EdgeOf, SortsRemoved}
use Rattle.plan.proofs.Outcomes.{same_value, both_done}
use Rattle.claims.proofs.Taken.{well_formed}
use Rattle.claims.proofs.Walks.{two_ways, walk_keeps, trace_keeps, walk_at}
use Rattle.claims.proofs.Visits.{walked}
use Rattle.plan.proofs.Counts.{T_of, not_both, mem_at, counted_in, times_of, stands_in, only}
use Rattle.claims.proofs.Merged.{ordered_graph}
use Rattle.claims.proofs.MergedPlan.{Keyed, keyed_of}
use Rattle.claims.proofs.Edges.{edge_at, out_edge_at, leaving_there, leaving_out, unordered_there, walk_looser}
use Rattle.claims.proofs.Stays.{unsliced_sort, sort_kind, goes_sort, kept_at}
use Rattle.claims.proofs.Links.{Linked, one_out, linked_visit}
use Rattle.claims.proofs.Starts.{linked_begin, sort_rooted}
use Rattle.claims.proofs.Rises.{held_out, Rising, rising_stays, rising_visit}
use Rattle.claims.proofs.NoCacheAfter.{none_after}

-- The steps removed by a walk ---------------------------------------------------------------------------------------------------------

-- a visit removes just the step that it is at, if that goes
pub removes : (n : ℕ) (r r' : Run) → simplify_ir_node_orders n r ≡ done r'
    → ((goes n r ≡ true) × (r'.removed ≡ n ∷ r.removed) × (r'.back ≡ r.back)) ⊎ ((r'.removed ≡ r.removed) × (r'.back ≡ n ∷ r.back))
unfolding unlink_node settled_by
removes n r r' e =
    elim (two_ways n r e) [
      | inl w ↦ inl (w.0, ap (λ (q : Run). q.removed) w.1, ap (λ (q : Run). q.back) w.1)
      | inr w ↦ inr (ap (λ (q : Run). q.removed) w.1, ap (λ (q : Run). q.back) w.1)
    ]

removal_goes : (n : ℕ) (r : Run) → RemovedAt n r → T (goes n r)
removal_goes n r (r', v, k) =
    elim (removes n r r' v) [ inl w ↦ T_of (goes n r) w.0 | inr w ↦ absurd (omega (arith, ap length k, ap length w.0)) ]

-- what a walk removed, it removed at a visit
was_removed : (n : ℕ) (ns : List ℕ) (r : Run) {r' : Run} → walk ns r ≡ done r' → Memᴰ n r'.removed
    → Memᴰ n r.removed ⊎ ((v : Run) × Memᴰ (n, v) (trace ns r) × RemovedAt n v)
unfolding walk_by trace_by
was_removed n [] r e m = inl (subst (λ (q : Run). Memᴰ n q.removed) (sym (same_value e)) m)
was_removed n (k ∷ ns) r e m =
    let (r₁, first, rest) = both_done (simplify_ir_node_orders k r) (λ x. walk ns x) e in
    elim (was_removed n ns r₁ rest m) [
      | inl m₁ ↦
          elim (removes k r r₁ first) [
            | inl w ↦
                elim (Memᴰ.cases_cons (subst (λ l. Memᴰ n l) w.1 m₁)) [
                  | inl i ↦ inr (r, Memᴰ.head (λ j. (i j, r)), subst (λ x. RemovedAt x r) (sym i) (r₁, first, w.1))
                  | inr m₀ ↦ inl m₀
                ]
            | inr w ↦ inl (subst (λ l. Memᴰ n l) w.0 m₁)
          ]
      | inr (v, i, x) ↦ inr (v, Memᴰ.tail (subst (λ (o : Outcome Run). Memᴰ (n, v) (then_all o (λ x. trace ns x))) (sym first) i), x)
    ]

-- and what a visit removed stays removed
stays_removed : (n : ℕ) (ns : List ℕ) (r : Run) {r' : Run} → walk (n ∷ ns) r ≡ done r' → RemovedAt n r → Memᴰ n r'.removed
unfolding walk_by
stays_removed n ns r e (q, v, i) =
    let (r₁, first, rest) = both_done (simplify_ir_node_orders n r) (λ x. walk ns x) e in
    let same : q ≡ r₁ = same_value (sym v ∙ first) in
    walk_keeps (λ _ q. Memᴰ n q.removed) next ns r₁
    (subst (λ (x : Run). Memᴰ n x.removed) same (subst (λ l. Memᴰ n l) (sym i) (Memᴰ.head refl))) rest
  where
    next : (k : ℕ) (ns : List ℕ) (r r' : Run) → Memᴰ n r.removed → simplify_ir_node_orders k r ≡ done r' → Memᴰ n r'.removed
    next k ns r r' m e =
        elim (removes k r r' e) [
          | inl w ↦ subst (λ l. Memᴰ n l) (sym w.1) (Memᴰ.tail m)
          | inr w ↦ subst (λ l. Memᴰ n l) (sym w.0) m
        ]

-- each place of a walk is removed or visited on the way back
back_or_removed : (n : ℕ) (ns : List ℕ) (r : Run) {r' : Run} → walk ns r ≡ done r'
    → times n r'.back + times n r'.removed ≡ times n r.back + times n r.removed + times n ns
unfolding sum
back_or_removed n ns r {r'} e =
    let kept = walk_keeps (λ ms q. times n q.back + times n q.removed + times n ms ≡ times n r.back + times n r.removed + times n ns) next ns r refl e in
    omega arith
  where
    next : (k : ℕ) (ms : List ℕ) (q q' : Run) → times n q.back + times n q.removed + times n (k ∷ ms) ≡ times n r.back + times n r.removed + times n ns
        → simplify_ir_node_orders k q ≡ done q' → times n q'.back + times n q'.removed + times n ms ≡ times n r.back + times n r.removed + times n ns
    next k ms q q' h e =
        elim (removes k q q' e) [
          | inl w ↦ rw (w.1, w.2) (omega arith)
          | inr w ↦ rw (w.0, w.1) (omega arith)
        ]

-- The claim -------------------------------------------------------------------------------------------------------------------------------

module _ (sh : Sheet) (keyed : Keyed sh.steps) (half : Run) (e₁ : down sh ≡ done half) where
  abbrev places : List ℕ
  places = (graph sh.steps).0

  at_end : Linked sh.steps [] half
  unfolding down
  at_end = walk_keeps (Linked sh.steps) (linked_visit sh.steps) places (begin sh) (linked_begin sh keyed) e₁

  -- at a visit on the way down
  at_visit : (n : ℕ) (r : Run) → Down sh n r → (ms : List ℕ) × Linked sh.steps (n ∷ ms) r × (walk (n ∷ ms) r ≡ done half)
  unfolding down
  at_visit n r m = walk_at (Linked sh.steps) (linked_visit sh.steps) places (begin sh) (linked_begin sh keyed) e₁ n r m

  rising : Rising sh.steps half.removed half.back half
  unfolding sum
  rising = record {
    sorts = at_end.sorts;
    one_out = λ n t. let is_sort = sort_kind (step_at sh.steps n) t in omega (arith, at_end.leaves n is_sort, at_end.once n is_sort);
    kept = at_end.kept;
    removed = refl;
  }

  none_up : (n : ℕ) (r : Run) → Up half n r → ¬ RemovedAt n r
  none_up n r m x =
      let (ms, g) = trace_keeps (Rising sh.steps half.removed) (rising_visit sh.steps half.removed) half.back half rising n r m in
      not_both (goes n r) (removal_goes n r x) (rising_stays sh.steps half.removed n ms r g)

  same_removed : (whole : Run) → up half ≡ done whole → whole.removed ≡ half.removed
  unfolding up
  same_removed whole e₂ = (walk_keeps (Rising sh.steps half.removed) (rising_visit sh.steps half.removed) half.back half rising e₂).removed

  -- on the way down
  down_exactly : (n : ℕ) → Memᴰ n half.removed ↔ RemovedDown sh n
  unfolding down begin
  down_exactly n = (
    λ m. elim (was_removed n places (begin sh) e₁ m) [ inl z ↦ absurd (Memᴰ.not-nil z) | inr y ↦ y ],
    λ (r, m, x). let (ms, g, w) = at_visit n r m in stays_removed n ms r w x,
  )

  down_sorts : (n : ℕ) → Memᴰ n half.removed → IsSort sh n
  down_sorts n y =
      let (r, m, x) = (down_exactly n).0 y in
      let (ms, g, w) = at_visit n r m in
      sort_kind (step_at sh.steps n) (subst T (g.sorts n) (goes_sort n r (removal_goes n r x)).0)

  down_once : (n : ℕ) → times n half.removed ≤ 1
  unfolding down begin sum
  down_once n = by (dec_le 1 (times n half.removed))
    where
      by : Dec (1 ≤ times n half.removed) → times n half.removed ≤ 1
      by (yes h) =
          omega (arith, back_or_removed n places (begin sh) e₁, (linked_begin sh keyed).once n (down_sorts n (stands_in n half.removed h)))
      by (no h) = omega arith

  -- a run removes nothing but sorts
  pub removed_sort : (whole : Run) → up half ≡ done whole → (n : ℕ) → Memᴰ n whole.removed → IsSort sh n
  removed_sort whole e₂ n m = down_sorts n (subst (λ (l : List ℕ). Memᴰ n l) (same_removed whole e₂) m)

  -- in both walks
  removed_down : (n : ℕ) → Memᴰ n half.removed ↔ Removed sh half n
  removed_down n = (
    λ m. let (r, i, x) = (down_exactly n).0 m in (r, inl i, x),
    λ (r, v, x). elim v [ inl m ↦ (down_exactly n).1 (r, m, x) | inr m ↦ absurd (none_up n r m x) ],
  )

  -- a sort that goes has no slice, and its edge stays unordered
  gone : (n : ℕ) (r : Run) → Down sh n r → RemovedAt n r → UnorderedAt (leaving n r) half × NoSlice sh n
  gone n r m x =
      let (ms, g, w) = at_visit n r m in
      let (s, o) = goes_sort n r (removal_goes n r x) in
      let u = subst T (g.sorts n) s in (
        walk_looser (n ∷ ms) r w (leaving n r) (subst (λ (d : Edge). T d.unordered) (sym (out_edge_at n r.edges)) o),
        and_right (same_ir (step_at sh.steps n).kind IR.Sort) (not (yes? (step_at sh.steps n).b)) u,
      )

  -- at the end no sort without slice has an unordered edge
  ordered_at_end : (n : ℕ) → T (unsliced_sort (step_at sh.steps n)) → ¬ UnorderedAt (leaving n half) half
  unfolding sum
  ordered_at_end n t v =
      let is_sort = sort_kind (step_at sh.steps n) t in
      let k = leaving n half in
      let h = unordered_there k half v in
      let one = counted_in (is_out_of n) half.edges (edge_at k half) (mem_at half.edges k no_edge h) (leaving_out n half.edges h) in
      let m = stands_in n half.back (omega (arith, at_end.leaves n is_sort)) in
      let held = kept_at sh.steps half.back [] half.edges at_end.kept n m t in
      not_both (out_edge n half.edges).unordered (subst (λ (d : Edge). T d.unordered) (out_edge_at n half.edges) v)
      (held_out n [] half (rising.one_out n t) held)

  has_edge : (n : ℕ) → IsSort sh n → (k : ℕ) × EdgeOf sh half n k × (k < length half.edges)
  unfolding down begin sum
  has_edge n is_sort = by (dec_le 1 (times n half.removed))
    where
      by : Dec (1 ≤ times n half.removed) → (k : ℕ) × EdgeOf sh half n k × (k < length half.edges)
      by (yes h) =
          elim (was_removed n places (begin sh) e₁ (stands_in n half.removed h)) [
            | inl z ↦ absurd (Memᴰ.not-nil z)
            | inr (r, m, x) ↦
                let (ms, g, w) = at_visit n r m in
                let there = leaving_there n r.edges (omega (arith, one_out sh.steps n ms r g is_sort)) in
                (leaving n r, inl (r, inl m, x, refl), omega (arith, (walked (n ∷ ms) r w).edges))
          ]
      by (no h) =
          let placed = (ordered_graph sh.steps keyed.plan).placed_all (only n) in
          let rooted = sort_rooted sh keyed n is_sort in
          let there = leaving_there n half.edges (omega (arith, at_end.leaves n is_sort, back_or_removed n places (begin sh) e₁)) in
          (leaving n half, inr ((λ x. h (times_of n half.removed ((removed_down n).1 x))), refl), there)

  removed_exactly : (n : ℕ) → IsSort sh n → (k : ℕ) → EdgeOf sh half n k → Removed sh half n ↔ (UnorderedAt k half × NoSlice sh n)
  removed_exactly n s k (inl (r, inl m, x, i)) = (λ _. rw i (gone n r m x), λ _. (r, inl m, x))
  removed_exactly n s k (inl (r, inr m, x, i)) = absurd (none_up n r m x)
  removed_exactly n s k (inr (f, i)) = (
    λ y. absurd (f y),
    λ (v, w).
        let unsliced = subst (λ (j : IR). T (same_ir j IR.Sort && not (yes? (step_at sh.steps n).b))) (sym s) w in
        absurd (ordered_at_end n unsliced (subst (λ j. UnorderedAt j half) i v)),
  )

pub removal : (s : List ℕ) (sh : Sheet) (half whole : Run) → Accepted s sh → down sh ≡ done half → up half ≡ done whole → SortsRemoved sh half whole
removal s sh half whole a e₁ e₂ =
    let keyed = keyed_of sh (well_formed s sh a) in
    record {
      has_edge = has_edge sh keyed half e₁;
      no_cache = λ n l _. removed_exactly sh keyed half e₁ n l;
      none_up = λ n _. none_up sh keyed half e₁ n;
      under_cache = λ n l k. absurd (none_after sh keyed n l k);
      removed_down = down_exactly sh keyed half e₁;
      down_once = down_once sh keyed half e₁;
      down_sorts = down_sorts sh keyed half e₁;
      counted_once = λ n. rw (same_removed sh keyed half e₁ whole e₂) (down_once sh keyed half e₁ n);
      counted = λ n. rw (same_removed sh keyed half e₁ whole e₂) (removed_down sh keyed half e₁ n);
    }
