-- Laws of the definition's look: the tally only grows, each way through a look, and one child more of a look along the children.
use mathlib.Core.Path.{◌≡◌}
use Prim.Native.Nat.{ℕ, zero, suc, ◌+◌, ◌≤◌}
use native.Mathlib.Nat.{le_refl, le_trans}
use native.Mathlib.Omega.{arith}
use mathlib.Core.Bool.{Bool, true, false}
use mathlib.Core.List.{List, [], ◌∷◌, ◌++◌}
use mathlib.Core.Option.{Option, none, some}
use lib.ListN.{take, drop}
use Rattle.plan.specs.declared.looks.Before.{Before}
use Rattle.plan.specs.declared.orders.ExprOrderAcc.{ExprOrderAcc}
use Rattle.plan.specs.declared.orders.ObservableOrders.{ObservableOrders}
use Rattle.plan.specs.Sheet.{Expr, expr_at}
use Rattle.plan.specs.Orders.{no_orders, add}
use Rattle.plan.specs.Look.{NO_DEORDER, Eos, one_look, before, in_order, check_return_cached, is_replaced, replace_by_input, After, after, enter_struct, Look, look_along, look_again, look_along_children, look_ended, look_whole, look_at, look}
use Rattle.expr.specs.Contract.{Answers, along_from, answer_by, ended_by}

-- The end of a look, from what its children answered -----------------------------------------------------------------------------

abbrev pub finish : Look → ℕ → Expr → ObservableOrders → Answers → After → ObservableOrders × Eos
finish rec p e field d v = ended_by p e v field d.0 (answer_by v (look_again rec v.again d.1 d.2))

abbrev pub after_answers : Bool → Expr → ObservableOrders → Answers → After
after_answers allow e field d = after e allow field d.0 d.1 e.kind

-- without a second look
pub finish_done : (rec : Look) (p : ℕ) (e : Expr) (field : ObservableOrders) (d : Answers) (v : After) → v.again ≡ false
    → finish rec p e field d v ≡ ended_by p e v field d.0 (v.answer, d.2)
unfolding look_again
finish_done rec p e field d v h = rw h

-- Each way through a look --------------------------------------------------------------------------------------------------------

module _ (f : ℕ) (allow : Bool) (p : ℕ) (s : Eos) (e : Expr) (e_is : e ≡ expr_at s.expr_arena p) where
  pub look_hit : (o : ObservableOrders) → check_return_cached (before e allow e.kind) p (one_look s) ≡ some o → look (suc f) allow p s ≡ (o, one_look s)
  unfolding look look_at
  look_hit o h = rw (← e_is, h)

  module _ (h : check_return_cached (before e allow e.kind) p (one_look s) ≡ none) where
    pub look_copied : is_replaced s.expr_arena e allow ≡ true → look (suc f) allow p s ≡ look f allow p (replace_by_input p e (one_look s))
    unfolding look look_at
    look_copied k = rw (← e_is, h, k)

    pub look_rest : is_replaced s.expr_arena e allow ≡ false
        → look (suc f) allow p s
        ≡ finish (look f) p e s.struct_field_ordering (look_along_children (look f) e (before e allow e.kind) (one_look s))
        (after_answers allow e s.struct_field_ordering (look_along_children (look f) e (before e allow e.kind) (one_look s)))
    unfolding look look_at look_whole
    look_rest k = rw (← e_is, h, k)

-- The tally only grows -----------------------------------------------------------------------------------------------------------

module _ (rec : Look) (up : (m : Bool) (q : ℕ) (s : Eos) → s.tally.looks ≤ (rec m q s).1.tally.looks) where
  pub up_along : (m : Bool) (qs : List ℕ) (os : List ObservableOrders) (x : ExprOrderAcc) (s : Eos) → s.tally.looks ≤ (look_along rec m qs os x s).2.tally.looks
  unfolding look_along
  up_along m [] os x s = le_refl _
  up_along m (q ∷ qs) os x s = le_trans (up m q s) (up_along m qs (os ++ ((rec m q s).0 ∷ [])) (add x (rec m q s).0 q) (rec m q s).1)

  pub up_from : (e : Expr) (b : Before) (i : ℕ) (os : List ObservableOrders) (x : ExprOrderAcc) (s : Eos) → s.tally.looks ≤ (along_from rec e b i os x s).2.tally.looks
  up_from e b zero os x s =
      let qs = in_order b e.children in
      let d = look_along rec b.first (take 1 qs) os x s in
      le_trans (up_along b.first (take 1 qs) os x s)
      (up_along NO_DEORDER (drop 1 qs) d.0 d.1 (enter_struct e d.0 d.2))
  up_from e b (suc i) os x s = up_along NO_DEORDER (drop (suc i) (in_order b e.children)) os x s

  up_children : (e : Expr) (b : Before) (s : Eos) → s.tally.looks ≤ (look_along_children rec e b s).2.tally.looks
  unfolding look_along_children
  up_children e b s = up_from e b 0 [] no_orders s

  up_again : (b : Bool) (x : ExprOrderAcc) (s : Eos) → s.tally.looks ≤ (look_again rec b x s).1.tally.looks
  unfolding look_again
  up_again true x s = up true x.last_ordered_node s
  up_again false x s = le_refl _

  pub up_finish : (p : ℕ) (e : Expr) (field : ObservableOrders) (d : Answers) (v : After) → d.2.tally.looks ≤ (finish rec p e field d v).1.tally.looks
  unfolding look_ended
  up_finish p e field d v = up_again v.again d.1 d.2

  up_whole : (allow : Bool) (p : ℕ) (e : Expr) (b : Before) (s : Eos) → s.tally.looks ≤ (look_whole rec allow p e b s).1.tally.looks
  unfolding look_whole
  up_whole allow p e b s =
      let d = look_along_children rec e b s in
      le_trans (up_children e b s) (up_finish p e s.struct_field_ordering d (after_answers allow e s.struct_field_ordering d))

  up_at : (allow : Bool) (p : ℕ) (e : Expr) (b : Before) (s : Eos) (c : Option ObservableOrders) (r : Bool) → s.tally.looks ≤ (look_at rec allow p e b s c r).1.tally.looks
  unfolding look_at
  up_at allow p e b s (some o) r = le_refl _
  up_at allow p e b s none true = up allow p (replace_by_input p e s)
  up_at allow p e b s none false = up_whole allow p e b s

up_more : (f : ℕ) → ((m : Bool) (q : ℕ) (s : Eos) → s.tally.looks ≤ (look f m q s).1.tally.looks) → (m : Bool) (q : ℕ) (s : Eos) → s.tally.looks + 1 ≤ (look (suc f) m q s).1.tally.looks
unfolding look
up_more f up m q s =
    let e = expr_at s.expr_arena q in
    let b = before e m e.kind in
    up_at (look f) up m q e b (one_look s) (check_return_cached b q (one_look s)) (is_replaced s.expr_arena e m)

pub up_look : (f : ℕ) (m : Bool) (q : ℕ) (s : Eos) → s.tally.looks ≤ (look f m q s).1.tally.looks
unfolding look
up_look zero m q s = le_refl _
up_look (suc f) m q s = let h : s.tally.looks + 1 ≤ (look (suc f) m q s).1.tally.looks = up_more f (up_look f) m q s in omega arith

pub up_count : (f : ℕ) (m : Bool) (q : ℕ) (s : Eos) → s.tally.looks + 1 ≤ (look (suc f) m q s).1.tally.looks
up_count f m q s = up_more f (up_look f) m q s
