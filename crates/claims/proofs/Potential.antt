-- What looks cost: a look at p makes at most size p + Φ before p − Φ after p looks, where Φ p is the sum of (size v − 1) over the
-- records v of p's tree that are not cached.
use Rattle.std.specs.Prelude.{if◌then◌else◌}
use mathlib.Core.Path.{◌≡◌, refl, ap, ◌∙◌}
use Prim.Native.Nat.{ℕ, ◌+◌, ◌-◌, ◌≤◌}
use native.Mathlib.Omega.{arith}
use native.Mathlib.Nat.{le_trans}
use mathlib.Core.Bool.{Bool, true, false, not}
use mathlib.Core.List.{List, [], ◌∷◌, ◌++◌, Memᴰ}
use lib.Dec.{T}
use lib.ListN.{take, drop}
use lib.Seq.{get_or-set_other}
use Rattle.plan.specs.declared.orders.ExprOrderAcc.{ExprOrderAcc}
use Rattle.plan.specs.declared.orders.ObservableOrders.{ObservableOrders}
use Rattle.plan.specs.Lists.{sum}
use Rattle.plan.specs.Sheet.{Expr, no_expr, expr_at}
use Rattle.plan.specs.Orders.{add}
use Rattle.plan.specs.Look.{Eos, Look, look_along, look_again, one_look, ALLOW_DEORDER, replace_by_input}
use Rattle.plan.proofs.Counts.{sum_le, only}
use Rattle.claims.proofs.Sums.{sum_part}
use Rattle.claims.proofs.Loads.{load, size, load_le, outside_own}
use Rattle.claims.proofs.RevisitCache.{Cache, seen_in, seen}
use Rattle.claims.proofs.Changes.{sort?, Formed, earlier_of, Changes, no_change, takes_input, changes_on, changed_formed, changed_load, changed_loads, input_of, input_formed, input_size}

-- what looking at v's children once more may still cost
unfoldable pub weight : List Expr → Cache → ℕ → ℕ
weight es c v = if seen_in c v then 0 else size es v - 1

abbrev pub Φ : Eos → ℕ → ℕ
Φ s q = load (weight s.expr_arena s.revisit_cache) s.expr_arena q

-- What looks do to the state ---------------------------------------------------------------------------------------------

pub record Goes (s s' : Eos) : Type 0 where
  pub changes : Changes s'.expr_arena s.expr_arena
  pub keeps : (q : ℕ) → T (seen s q) → T (seen s' q)

pub stays : (s : Eos) → Goes s s
stays s = record { changes = no_change; keeps = λ q t. t }

pub both : {s s₁ s₂ : Eos} → Goes s s₁ → Goes s₁ s₂ → Goes s s₂
both g h = record { changes = changes_on g.changes h.changes; keeps = λ q t. h.keeps q (g.keeps q t) }

module _ {s s' : Eos} (g : Goes s s') (formed : Formed s.expr_arena) where
  pub weight_le : (v : ℕ) → weight s'.expr_arena s'.revisit_cache v ≤ weight s.expr_arena s.revisit_cache v
  unfolding weight
  weight_le v = by (seen s v) (seen s' v) (g.keeps v)
    where
      by : (a b : Bool) → (T a → T b) → (if b then 0 else size s'.expr_arena v - 1) ≤ (if a then 0 else size s.expr_arena v - 1)
      by true true k = omega arith
      by true false k = absurd (k tt)
      by false true k = omega arith
      by false false k = omega (arith, changed_load g.changes formed (λ _. 1) v)

  pub Φ_le : (q : ℕ) → Φ s' q ≤ Φ s q
  Φ_le q =
      let w = weight s.expr_arena s.revisit_cache in
      let w' = weight s'.expr_arena s'.revisit_cache in
      le_trans (changed_load g.changes formed w' q) (load_le w' w s.expr_arena q weight_le)

  pub sum_Φ_le : (qs : List ℕ) → sum (Φ s') qs ≤ sum (Φ s) qs
  sum_Φ_le qs = sum_le _ _ qs (λ q _. Φ_le q)

-- Looks ------------------------------------------------------------------------------------------------------------------

-- of a look at p in the mode m
pub record Spent (m : Bool) (p : ℕ) (s s' : Eos) : Type 0 where
  pub goes : Goes s s'
  -- a record that is not in p's tree stays
  pub outside : (x : ℕ) → load (only x) s.expr_arena p ≡ 0 → expr_at s'.expr_arena x ≡ expr_at s.expr_arena x
  -- without leave, p's is not replaced by its input
  pub scalar : T (not m) → (expr_at s'.expr_arena p).scalar ≡ (expr_at s.expr_arena p).scalar
  pub looks : s'.tally.looks + Φ s' p ≤ s.tally.looks + size s.expr_arena p + Φ s p

abbrev pub Bounded : Look → Type 0
Bounded rec = (m : Bool) (q : ℕ) (s : Eos) → Formed s.expr_arena → Spent m q s (rec m q s).1

-- of looks along a list
pub record SpentAlong (qs : List ℕ) (s s' : Eos) : Type 0 where
  pub goes : Goes s s'
  pub outside : (x : ℕ) → sum (load (only x) s.expr_arena) qs ≡ 0 → expr_at s'.expr_arena x ≡ expr_at s.expr_arena x
  pub looks : s'.tally.looks + sum (Φ s') qs ≤ s.tally.looks + sum (size s.expr_arena) qs + sum (Φ s) qs

-- one list after another
spent_both : {s s₁ s₂ : Eos} (l m qs : List ℕ) → Formed s.expr_arena → ((w : ℕ → ℕ) → sum w qs ≡ sum w l + sum w m)
    → SpentAlong l s s₁ → SpentAlong m s₁ s₂ → SpentAlong qs s s₂
spent_both {s} {s₁} {s₂} l m qs g i a b =
    let g₁ = changed_formed a.goes.changes g in
    record {
      goes = both a.goes b.goes;
      outside =
          λ x h.
          let in_both = i (load (only x) s.expr_arena) in
          b.outside x (omega (arith, changed_loads a.goes.changes g (only x) m)) ∙ a.outside x (omega arith);
      looks =
          omega (
            arith,
            i (Φ s₂),
            i (Φ s),
            i (size s.expr_arena),
            sum_Φ_le b.goes g₁ l,
            sum_Φ_le a.goes g m,
            changed_loads a.goes.changes g (λ _. 1) m,
            a.looks,
            b.looks,
          );
    }

spent_none : (s : Eos) → SpentAlong [] s s
unfolding sum
spent_none s = record { goes = stays s; outside = λ x h. refl; looks = omega arith }

spent_one : {m : Bool} {q : ℕ} {s s' : Eos} → Spent m q s s' → SpentAlong (q ∷ []) s s'
unfolding sum
spent_one {m} {q} {s} {s'} a =
    record { goes = a.goes; outside = λ x h. a.outside x (omega arith); looks = omega (arith, a.looks) }

pub spent_along : (rec : Look) → Bounded rec → (m : Bool) (qs : List ℕ) (os : List ObservableOrders) (x : ExprOrderAcc) (s : Eos) → Formed s.expr_arena → SpentAlong qs s (look_along rec m qs os x s).2
unfolding look_along sum
spent_along rec B m [] os x s g = spent_none s
spent_along rec B m (q ∷ qs) os x s g =
    let s₁ = (rec m q s).1 in
    let a = B m q s g in
    let b = spent_along rec B m qs (os ++ ((rec m q s).0 ∷ [])) (add x (rec m q s).0 q) s₁ (changed_formed a.goes.changes g) in
    spent_both (q ∷ []) qs (q ∷ qs) g (λ w. omega arith) (spent_one a) b

pub spent_parts : {s s₁ s₂ : Eos} (qs : List ℕ) → Formed s.expr_arena → SpentAlong (take 1 qs) s s₁ → SpentAlong (drop 1 qs) s₁ s₂ → SpentAlong qs s s₂
unfolding sum
spent_parts [] g a b = spent_both [] [] [] g (λ w. refl) a b
spent_parts (q ∷ qs) g a b = spent_both (q ∷ []) qs (q ∷ qs) g (λ w. omega arith) a b

-- a sort's record is replaced by its child's, and the look goes on at p
pub replaced_spent : (rec : Look) → Bounded rec → (allow : Bool) (p : ℕ) (s₀ : Eos) → Formed s₀.expr_arena → T allow → T (sort? (expr_at s₀.expr_arena p))
    → Spent allow p s₀ (rec allow p (replace_by_input p (expr_at s₀.expr_arena p) (one_look s₀))).1
replaced_spent rec B true p s₀ g t k =
    let es = s₀.expr_arena in
    let s₁ = replace_by_input p (expr_at es p) (one_look s₀) in
    let a = B true p s₁ (input_formed es g p k) in
    let to : Goes s₀ s₁ = record { changes = takes_input p k no_change; keeps = λ q t. t } in
    record {
      goes = both to a.goes;
      outside = λ x h. a.outside x (omega (arith, changed_load to.changes g (only x) p)) ∙ get_or-set_other es p x (expr_at es (input_of es p)) no_expr (outside_own es (earlier_of es g) x p h);
      scalar = λ e. absurd e;
      looks = omega (arith, input_size es g p k, Φ_le to g p, a.looks);
    }
replaced_spent rec B false p s₀ g t k = absurd t

-- a member's part may be put for another
swapped : (v w : ℕ → ℕ) → ((q : ℕ) → v q ≤ w q) → (qs : List ℕ) (c : ℕ) → Memᴰ c qs → sum v qs + w c ≤ sum w qs + v c
unfolding sum
swapped v w h [] c m = elim m [ ]
swapped v w h (q ∷ qs) c (Memᴰ.head e) = omega (arith, ap v e, ap w e, sum_le v w qs (λ a _. h a))
swapped v w h (q ∷ qs) c (Memᴰ.tail m) = omega (arith, swapped v w h qs c m, h q)

-- after the children, one of them once more: it costs its size
pub record SpentAgain (qs : List ℕ) (again : Bool) (c : ℕ) (s s' : Eos) : Type 0 where
  pub goes : Goes s s'
  pub outside : (x : ℕ) → sum (load (only x) s.expr_arena) qs ≡ 0 → expr_at s'.expr_arena x ≡ expr_at s.expr_arena x
  pub looks : s'.tally.looks + sum (Φ s') qs ≤ s.tally.looks + sum (size s.expr_arena) qs + sum (Φ s) qs + (if again then size s.expr_arena c else 0)

pub spent_again : (rec : Look) → Bounded rec → (again : Bool) (x : ExprOrderAcc) (qs : List ℕ) (s s₂ : Eos) → Formed s.expr_arena → SpentAlong qs s s₂
    → (T again → Memᴰ x.last_ordered_node qs)
    → SpentAgain qs again x.last_ordered_node s (look_again rec again x s₂).1
unfolding look_again
spent_again rec B false x qs s s₂ g a m = record { goes = a.goes; outside = a.outside; looks = omega (arith, a.looks) }
spent_again rec B true x qs s s₂ g a m =
    let c = x.last_ordered_node in
    let g₂ = changed_formed a.goes.changes g in
    let b = B ALLOW_DEORDER c s₂ g₂ in
    record {
      goes = both a.goes b.goes;
      outside =
          λ y h.
          b.outside y (omega (arith, changed_load a.goes.changes g (only y) c, sum_part (load (only y) s.expr_arena) qs c (m tt))) ∙ a.outside y h;
      looks = omega (arith, changed_load a.goes.changes g (λ _. 1) c, swapped _ _ (Φ_le b.goes g₂) qs c (m tt), b.looks, a.looks);
    }
