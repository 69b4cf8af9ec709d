-- The records that the looks of a list are at: an entry for each look, in the order in which they are made. It goes along with
-- the definition of the look, whose states it reads, and counts nothing: that it has as many entries as the tally counts is proved.
use Rattle.std.specs.Prelude.{ℕ, zero, suc, Bool, true, false, ◌&&◌, List, [], ◌∷◌, ◌++◌, length, take, drop, if◌then◌else◌}
use Rattle.std.proofs.Math.Option.{Option, none, some}
use Rattle.plan.specs.declared.looks.Before.{Before}
use Rattle.plan.specs.declared.orders.ExprOrderAcc.{ExprOrderAcc}
use Rattle.plan.specs.declared.orders.ObservableOrders.{ObservableOrders}
use Rattle.plan.specs.Sheet.{Expr, expr_at}
use Rattle.plan.specs.Orders.{∅, no_orders, single}
use Rattle.plan.specs.Look.{Eos, Look, before, after, in_order, check_return_cached, is_replaced, replace_by_input, enter_struct, internal_observe, one_look, look, look_along, look_along_children, ALLOW_DEORDER, NO_DEORDER}

-- the looks made by a look at a record, in a mode and a state
abbrev pub Made : Type 0
Made = Bool → ℕ → Eos → List ℕ

module _ (rec : Look) (made : Made) where
  unfoldable pub made_along : Bool → List ℕ → Eos → List ℕ
  made_along mode [] s = []
  made_along mode (q ∷ qs) s = made mode q s ++ made_along mode qs (rec mode q s).1

  unfoldable pub made_again : Bool → ExprOrderAcc → Eos → List ℕ
  made_again true x s = made ALLOW_DEORDER x.last_ordered_node s
  made_again false x s = []

  unfoldable pub made_whole : Bool → Expr → Before → Eos → List ℕ
  made_whole allow e b s =
      let qs = in_order b e.children in
      let (os, x, s₁) = look_along rec b.first (take 1 qs) [] no_orders s in
      let (os', x', s₂) = look_along_children rec e b s in
      let v = after e allow s.struct_field_ordering os' x' e.kind in
      made_along b.first (take 1 qs) s ++ made_along NO_DEORDER (drop 1 qs) (enter_struct e os s₁)
      ++ made_again v.again x' s₂

  unfoldable pub made_at : Bool → ℕ → Expr → Before → Eos → Option ObservableOrders → Bool → List ℕ
  made_at allow p e b s (some o) replaced = []
  made_at allow p e b s none true = made allow p (replace_by_input p e s)
  made_at allow p e b s none false = made_whole allow e b s

unfoldable pub made : ℕ → Made
made zero allow p s = []
made (suc f) allow p s₀ =
    let s = one_look s₀ in
    let e = expr_at s.expr_arena p in
    let b = before e allow e.kind in
    p
    ∷ made_at (λ mode q t. look f mode q t) (λ mode q t. made f mode q t) allow p e b s (check_return_cached b p s)
    (is_replaced s.expr_arena e allow)

-- the looks that simplify_projected_exprs makes
unfoldable pub made_in_list : List ℕ → Bool → Eos → List ℕ
made_in_list ae_nodes allow_deordering_top s =
    let rec : Look = look (length s.expr_arena) in
    let (os, x, s₁) = look_along rec NO_DEORDER ae_nodes [] no_orders s in
    made_along rec (made (length s.expr_arena)) NO_DEORDER ae_nodes s
    ++ made_again rec (made (length s.expr_arena)) (single x && allow_deordering_top) x
    (internal_observe (if x.saw_mixed_inputs then x.acc else ∅) s₁)
