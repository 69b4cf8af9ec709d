-- The aggs of a GroupBy keep their scalar flags: the looks along the n3 list are without leave, and no other look meets them.
use Rattle.std.specs.Prelude.{if◌then◌else◌}
use mathlib.Core.Path.{◌≡◌, refl, ap, ◌∙◌, subst, sym}
use mathlib.Core.Logic.{inl, inr}
use Prim.Native.Nat.{ℕ, ◌≤◌}
use native.Mathlib.Omega.{arith}
use mathlib.Core.Bool.{Bool, true, false, ◌&&◌}
use mathlib.Core.List.Memᴰ
use mathlib.Core.List.{List, [], ◌∷◌, ◌++◌, Memᴰ}
use lib.ListN.{length}
use Rattle.plan.specs.declared.orders.ExprOrderAcc.{ExprOrderAcc}
use Rattle.plan.specs.declared.orders.ObservableOrders.{ObservableOrders}
use Rattle.plan.specs.Lists.{sum}
use Rattle.plan.specs.Sheet.{Expr, expr_at}
use Rattle.plan.specs.Orders.{∅, add, no_orders, single}
use Rattle.plan.specs.Look.{Eos, Look, look, look_along, look_again, simplify_projected_exprs, internal_observe, NO_DEORDER}
use Rattle.claims.proofs.Sums.{sum_part}
use Rattle.plan.proofs.Counts.{only}
use Rattle.claims.proofs.Loads.{load, load_own}
use Rattle.claims.proofs.Changes.{Formed, earlier_of, changed_formed, changed_loads}
use Rattle.claims.proofs.Potential.{Bounded, spent_along}
use Rattle.claims.proofs.LookBound.{look_spent}

abbrev pub scalar_at : Eos → ℕ → Bool
scalar_at s x = (expr_at s.expr_arena x).scalar

module _ (rec : Look) (B : Bounded rec) (x : ℕ) where
  along_scalar : (qs : List ℕ) (os : List ObservableOrders) (a : ExprOrderAcc) (s : Eos) → Formed s.expr_arena
      → sum (load (only x) s.expr_arena) qs ≤ 1 → Memᴰ x qs
      → scalar_at (look_along rec NO_DEORDER qs os a s).2 x ≡ scalar_at s x
  unfolding look_along sum
  along_scalar [] os a s g h m = absurd (Memᴰ.not-nil m)
  along_scalar (q ∷ qs) os a s g h m =
      let es = s.expr_arena in
      let b = B NO_DEORDER q s g in
      let s₁ = (rec NO_DEORDER q s).1 in
      let os₁ = os ++ ((rec NO_DEORDER q s).0 ∷ []) in
      let a₁ = add a (rec NO_DEORDER q s).0 q in
      let g₁ = changed_formed b.goes.changes g in
      let less = changed_loads b.goes.changes g (only x) qs in
      let own = load_own es (earlier_of es g) x in
      elim (Memᴰ.cases_cons m) [
        | inl i ↦
            let here : 1 ≤ load (only x) es q = subst (λ n. 1 ≤ load (only x) es n) i own in
            let later = (spent_along rec B NO_DEORDER qs os₁ a₁ s₁ g₁).outside x (omega arith) in
            ap (λ (e : Expr). e.scalar) later ∙ subst (λ n. scalar_at s₁ n ≡ scalar_at s n) (sym i) (b.scalar tt)
        | inr k ↦
            let there : 1 ≤ sum (load (only x) es) qs = omega (arith, sum_part (load (only x) es) qs x k) in
            along_scalar qs os₁ a₁ s₁ g₁ (omega arith) k ∙ ap (λ (e : Expr). e.scalar) (b.outside x (omega arith))
      ]

-- a list that is looked at without leave on top
pub list_scalar : (qs : List ℕ) (s : Eos) → Formed s.expr_arena → (x : ℕ) → sum (load (only x) s.expr_arena) qs ≤ 1 → Memᴰ x qs
    → scalar_at (simplify_projected_exprs qs false s).1 x ≡ scalar_at s x
unfolding simplify_projected_exprs look_again
list_scalar qs s g x h m =
    let rec : Look = look (length s.expr_arena) in
    let l = look_along rec NO_DEORDER qs [] no_orders s in
    let s₂ = internal_observe (if l.1.saw_mixed_inputs then l.1.acc else ∅) l.2 in
    not_again rec (single l.1) l.1 s₂ ∙ along_scalar rec (look_spent (length s.expr_arena)) x qs [] no_orders s g h m
  where
    not_again : (rec : Look) (b : Bool) (a : ExprOrderAcc) (t : Eos) → scalar_at (look_again rec (b && false) a t).1 x ≡ scalar_at t x
    not_again rec true a t = refl
    not_again rec false a t = refl
