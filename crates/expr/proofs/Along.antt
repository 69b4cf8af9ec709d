-- One child more of a look along the children; its end; a record without children; and what a record reads of the answers.
use Rattle.std.specs.Prelude.{if◌then◌else◌}
use mathlib.Core.Path.{◌≡◌, refl, ◌∙◌}
use Prim.Native.Nat.{ℕ, zero, suc, ◌+◌, ◌<◌, ◌≤◌}
use native.Mathlib.Omega.{arith}
use native.Mathlib.Nat.{not-suc-le-zero}
use mathlib.Core.Bool.{Bool, true, false, ◌&&◌}
use mathlib.Core.List.{List, [], ◌∷◌, ◌++◌}
use lib.Dec.{eqb}
use lib.ListN.{length, get_or, drop, length-append, drop_of_length-le, get_or-append}
use lib.Seq.{drop-cons, get_or-append_seam}
use borrow.Author.Tests.{eqb-true, eqb-false, ne_eqb}
use Rattle.plan.specs.declared.aexpr.AExpr.{AExpr}
use Rattle.plan.specs.declared.looks.Before.{Before}
use Rattle.plan.specs.declared.orders.ExprOrderAcc.{ExprOrderAcc}
use Rattle.plan.specs.declared.orders.ObservableOrders.{ObservableOrders}
use Rattle.plan.specs.Kinds.{same_aexpr}
use Rattle.plan.specs.Lists.{first_last}
use Rattle.plan.specs.Sheet.{Expr}
use Rattle.plan.specs.Orders.{no_orders, add}
use Rattle.plan.specs.Look.{NO_DEORDER, Eos, with_field, in_order, after, enter_struct, Look, look_along, look_along_children}
use Rattle.expr.specs.declared.seen.Seen.{Seen}
use Rattle.storage.specs.declared.entries.Entries.{Entries}
use Rattle.expr.specs.Seen.{Sees}
use Rattle.expr.specs.Tables.{answers}
use Rattle.storage.specs.Entries.{list_of, Shaped}
use Rattle.expr.specs.Record.{slot, child_at}
use Rattle.expr.specs.Contract.{along_from}
use Rattle.expr.proofs.Records.{children_length, children_at}

-- The children in the order of the looks -----------------------------------------------------------------------------------------

length_first_last : (cs : List ℕ) → length (first_last cs) ≡ length cs
length_first_last [] = refl
length_first_last (c ∷ cs) = length-append cs (c ∷ []) ∙ omega arith

pub length_in_order : (b : Before) (cs : List ℕ) → length (in_order b cs) ≡ length cs
length_in_order b cs = go b.turned
  where
    go : (t : Bool) → length (if t then first_last cs else cs) ≡ length cs
    go true = length_first_last cs
    go false = refl

pub none_in_order : (b : Before) (cs : List ℕ) → cs ≡ [] → in_order b cs ≡ []
none_in_order b cs h = go b.turned
  where
    go : (t : Bool) → (if t then first_last cs else cs) ≡ []
    go true = rw h
    go false = h

turned_at : (cs : List ℕ) (i : ℕ) → i < length cs → (t : Bool) → eqb (i + 1) (length cs) ≡ t → get_or (first_last cs) i 0 ≡ get_or cs (if t then 0 else i + 1) 0
turned_at [] i h t q = absurd (not-suc-le-zero h)
turned_at (c ∷ cs) i h true q =
    let k : i ≡ length cs = omega (arith, eqb-true (i + 1) (suc (length cs)) q) in
    rw (k, get_or-append_seam cs c [] 0)
turned_at (c ∷ cs) i h false q =
    let n : i + 1 ≡ suc (length cs) → ⊥ = eqb-false (i + 1) (suc (length cs)) q in
    let k : i < length cs = omega arith in
    let z : i + 1 ≡ suc i = omega arith in
    rw z (get_or-append cs (c ∷ []) 0 i k)

module _ (e : Entries) (shaped : Shaped e) (i : ℕ) (h : i < e.count) where
  below : (t : Bool) (x : Bool) → eqb (i + 1) e.count ≡ x → (if t then (if x then 0 else i + 1) else i) < e.count
  below true true q = omega arith
  below true false q = let n : i + 1 ≡ e.count → ⊥ = eqb-false (i + 1) e.count q in omega arith
  below false x q = h

  pub slot_below : (t : Bool) → slot t e.count i < e.count
  slot_below t = below t (eqb (i + 1) e.count) refl

  in_turn : (t : Bool) → get_or (if t then first_last (list_of e) else list_of e) i 0 ≡ get_or (list_of e) (slot t e.count i) 0
  in_turn true =
      rw (children_length e shaped) at (turned_at (list_of e) i (rw (children_length e shaped) h) (eqb (i + 1) (length (list_of e))) refl)
  in_turn false = refl

  -- the child that the i-th look goes to
  pub in_order_at : (b : Before) → get_or (in_order b (list_of e)) i 0 ≡ child_at e b.turned i
  in_order_at b = in_turn b.turned ∙ children_at e shaped (slot b.turned e.count i) (slot_below b.turned)

-- One child more -----------------------------------------------------------------------------------------------------------------

module _ (rec : Look) (e : Expr) (b : Before) where
  abbrev queue : List ℕ
  queue = in_order b e.children

  abbrev pub how : ℕ → Bool
  how i = if eqb i 0 then b.first else NO_DEORDER

  abbrev pub entered : ℕ → ObservableOrders → Eos → Eos
  entered i o s = with_field (if eqb i 0 && same_aexpr e.kind AExpr.StructEval then o else s.struct_field_ordering) s

  pub children_from : (s : Eos) → look_along_children rec e b s ≡ along_from rec e b 0 [] no_orders s
  unfolding look_along_children
  children_from s = refl

  along_one : (q : ℕ) (qs : List ℕ) (x : ExprOrderAcc) (s : Eos) → queue ≡ q ∷ qs
      → along_from rec e b 0 [] x s
      ≡ along_from rec e b 1 ((rec b.first q s).0 ∷ []) (add x (rec b.first q s).0 q) (entered 0 (rec b.first q s).0 (rec b.first q s).1)
  unfolding look_along
  along_one q qs x s h = rw h

  along_two : (m : Bool) (q : ℕ) (qs rest : List ℕ) (os : List ObservableOrders) (x : ExprOrderAcc) (s : Eos) → rest ≡ q ∷ qs
      → look_along rec m rest os x s ≡ look_along rec m qs (os ++ ((rec m q s).0 ∷ [])) (add x (rec m q s).0 q) (rec m q s).1
  unfolding look_along
  along_two m q qs rest os x s h = rw h

  pub along_more : (i : ℕ) → i < length queue → (os : List ObservableOrders) (x : ExprOrderAcc) (s : Eos) → length os ≡ i
      → along_from rec e b i os x s
      ≡ along_from rec e b (i + 1) (os ++ ((rec (how i) (get_or queue i 0) s).0 ∷ [])) (add x (rec (how i) (get_or queue i 0) s).0 (get_or queue i 0)) (entered i (rec (how i) (get_or queue i 0) s).0 (rec (how i) (get_or queue i 0) s).1)
  along_more zero h [] x s k = along_one (get_or queue 0 0) (drop 1 queue) x s (drop-cons queue 0 0 h)
  along_more zero h (o ∷ os) x s k = absurd (omega arith)
  along_more (suc i) h os x s k =
      let n : eqb (suc i) 0 ≡ false = ne_eqb (suc i) 0 (λ j. omega arith) in
      let j : suc i + 1 ≡ suc (suc i) = omega arith in
      rw (n, j) (along_two NO_DEORDER (get_or queue (suc i) 0) (drop (suc (suc i)) queue) (drop (suc i) queue) os x s (drop-cons queue (suc i) 0 h))

  -- after the last child
  pub along_end : (i : ℕ) → length queue ≤ suc i → (os : List ObservableOrders) (x : ExprOrderAcc) (s : Eos) → along_from rec e b (suc i) os x s ≡ (os, x, s)
  unfolding look_along
  along_end i h os x s = rw (drop_of_length-le queue {i = suc i} h)

  -- no children
  pub along_none : (os : List ObservableOrders) (x : ExprOrderAcc) (s : Eos) → queue ≡ [] → along_from rec e b 0 os x s ≡ (os, x, enter_struct e os s)
  unfolding look_along
  along_none os x s h = rw h

-- What a record reads of the answers ---------------------------------------------------------------------------------------------

module _ (e : Expr) (allow : Bool) (field : ObservableOrders) where
  -- only the first three answers are read
  module _ (os : List ObservableOrders) (x : Seen) (y : ExprOrderAcc) (h : Sees os x) where
    pub after_seen : (k : AExpr) → after e allow field os y k ≡ after e allow field (answers x) y k
    unfolding after
    after_seen AExpr.Column = refl
    after_seen AExpr.Literal = refl
    after_seen AExpr.Element = refl
    after_seen AExpr.StructField = refl
    after_seen AExpr.Len = refl
    after_seen AExpr.BinaryExpr = refl
    after_seen AExpr.Ternary = rw (h.first, h.second)
    after_seen AExpr.Cast = rw h.first
    after_seen AExpr.Explode = rw h.first
    after_seen AExpr.Sort = refl
    after_seen AExpr.SortBy = rw h.first
    after_seen AExpr.Filter = rw (h.first, h.second)
    after_seen AExpr.Gather = rw (h.first, h.second)
    after_seen AExpr.Slice = rw h.third
    after_seen AExpr.Eval = rw h.first
    after_seen AExpr.StructEval = refl
    after_seen AExpr.Over = refl
    after_seen AExpr.Rolling = refl
    after_seen AExpr.MinBy = refl
    after_seen AExpr.Function = refl
    after_seen AExpr.AnonymousAgg = refl
    after_seen AExpr.First = rw h.first
    after_seen AExpr.Min = refl
    after_seen AExpr.Implode = rw h.first
    after_seen AExpr.AggGroups = rw h.first
