-- More fuel changes no look, once there is enough for the height of the tree.
use Rattle.std.specs.Prelude.{if◌then◌else◌}
use mathlib.Core.Path.{◌≡◌, ap, ◌∙◌, subst, refl}
use Prim.Native.Nat.{ℕ, zero, suc, ◌<◌}
use native.Mathlib.Omega.{arith}
use native.Mathlib.Nat.{not-suc-le-zero}
use native.Mathlib.Decide.{ℕ_discrete}
use mathlib.Core.Bool.{Bool, true, false}
use mathlib.Core.Option.{Option, none, some}
use mathlib.Core.List.{List, [], ◌∷◌, ◌++◌, Memᴰ}
use lib.Dec.{T}
use lib.ListN.{length, set, take, drop}
use Rattle.plan.specs.declared.aexpr.AExpr.{AExpr}
use Rattle.plan.specs.declared.looks.Before.{Before}
use Rattle.plan.specs.declared.orders.ExprOrderAcc.{ExprOrderAcc}
use Rattle.plan.specs.declared.orders.ObservableOrders.{ObservableOrders}
use Rattle.plan.specs.Kinds.{same_aexpr}
use Rattle.plan.specs.Lists.{all?}
use Rattle.plan.specs.Sheet.{Expr, expr_at}
use Rattle.plan.specs.Orders.{add, no_orders}
use Rattle.plan.specs.Look.{Eos, Look, look, look_along, look_along_children, look_again, look_whole, look_ended, look_at, one_look, enter_struct, switched_off, after, in_order, before, check_return_cached, is_replaced, replace_by_input, ALLOW_DEORDER, NO_DEORDER}
use Rattle.claims.specs.Limits.{ChildrenEarlier}
use Rattle.claims.proofs.Loads.{kids, kids_same, kids_other}
use Rattle.claims.proofs.Changes.{sort?, Formed, earlier_of, Changes, no_change, takes_input, goes_off, changed_formed, input_of, with_input_at, input_kid, sort_inside, input_formed, off_formed, implode_inside}
use Rattle.claims.proofs.Potential.{Bounded, spent_along}
use Rattle.claims.proofs.LookAgain.{of_take, of_drop, of_in_order, looks_again, single_of_children}
use Rattle.claims.proofs.LookBound.{look_spent, children_spent, replaced_sort}

-- Heights --------------------------------------------------------------------------------------------------------------------

-- p's tree has at most k floors
abbrev pub Low : ℕ → List Expr → ℕ → Type 0
Low zero es p = ⊥
Low (suc k) es p = (c : ℕ) → Memᴰ c (kids es p) → Low k es c

low_up : (k : ℕ) (es : List Expr) (p : ℕ) → Low k es p → Low (suc k) es p
low_up zero es p h = absurd h
low_up (suc k) es p h = λ c m. low_up k es c (h c m)

-- children are earlier: p + 1 floors are enough
low_of : (es : List Expr) → ChildrenEarlier es → (f p : ℕ) → p < f → Low f es p
low_of es d zero p h = absurd (not-suc-le-zero h)
low_of es d (suc f) p h = λ c m. low_of es d f c (omega (arith, d p c m))

-- another record at p that is no higher: no tree gets higher
module _ (es : List Expr) (p : ℕ) (e : Expr) (in_range : p < length es) (lower : (k : ℕ) → Low (suc k) es p → (c : ℕ) → Memᴰ c e.children → Low k es c) where
  set_low : (k q : ℕ) → Low k es q → Low k (set es p e) q
  set_low zero q h = absurd h
  set_low (suc k) q h = by (ℕ_discrete q p) (λ c l. set_low k c l)
    where
      by : Dec (q ≡ p) → ((c : ℕ) → Low k es c → Low k (set es p e) c) → (c : ℕ) → Memᴰ c (kids (set es p e) q) → Low k (set es p e) c
      by (yes i) f c m =
          f c
          (lower k (subst (Low (suc k) es) i h) c
          (subst (λ (l : List ℕ). Memᴰ c l) (ap (kids (set es p e)) i ∙ kids_same es p e in_range) m))
      by (no n) f c m = f c (h c (subst (λ (l : List ℕ). Memᴰ c l) (kids_other es p q e n) m))

module _ (es : List Expr) (g : Formed es) (p : ℕ) (t : T (sort? (expr_at es p))) where
  input_low : (k q : ℕ) → Low k es q → Low k (with_input_at es p) q
  input_low k q l = set_low es p (expr_at es (input_of es p)) (sort_inside es g p t) (λ j h c m. up j (h (input_of es p) (input_kid es g p t)) c m) k q l
    where
      up : (j : ℕ) → Low j es (input_of es p) → (c : ℕ) → Memᴰ c (kids es (input_of es p)) → Low j es c
      up zero h c m = absurd h
      up (suc j) h c m = low_up j es c (h c m)

  -- the tree of a sort that takes its input's record is one floor lower
  input_lower : (k : ℕ) → Low (suc k) es p → Low k (with_input_at es p) p
  input_lower k h = by k (h (input_of es p) (input_kid es g p t))
    where
      by : (k : ℕ) → Low k es (input_of es p) → Low k (with_input_at es p) p
      by zero l = absurd l
      by (suc k) l = λ c m. input_low k c (l c (subst (λ (l : List ℕ). Memᴰ c l) (kids_same es p (expr_at es (input_of es p)) (sort_inside es g p t)) m))

changed_low : {end es : List Expr} → Changes end es → Formed es → (k q : ℕ) → Low k es q → Low k end q
changed_low no_change g k q l = l
changed_low (takes_input {es} p t c) g k q l = changed_low c (input_formed es g p t) k q (input_low es g p t k q l)
changed_low (goes_off {es} p t c) g k q l =
    changed_low c (off_formed es g p t) k q
    (set_low es p (switched_off (expr_at es p)) (implode_inside es g p t) (λ j h c m. h c m) k q l)

-- Looks with two fuels -------------------------------------------------------------------------------------------------------

-- they agree on trees of at most f and of at most g floors
abbrev Lows : ℕ → ℕ → List ℕ → Eos → Type 0
Lows f g qs s = (q : ℕ) → Memᴰ q qs → Low f s.expr_arena q × Low g s.expr_arena q

abbrev pub Agree : ℕ → ℕ → Look → Look → Type 0
Agree f g rec rec' = (m : Bool) (q : ℕ) (s : Eos) → Formed s.expr_arena → Low f s.expr_arena q → Low g s.expr_arena q → rec m q s ≡ rec' m q s

later_lows : (f g : ℕ) (qs : List ℕ) (s s' : Eos) → Formed s.expr_arena → Changes s'.expr_arena s.expr_arena → Lows f g qs s → Lows f g qs s'
later_lows f g qs s s' k c l q m = let h = l q m in (changed_low c k f q h.0, changed_low c k g q h.1)

module _ (f g : ℕ) (rec rec' : Look) (B : Bounded rec) (A : Agree f g rec rec') where
  along_same : (m : Bool) (qs : List ℕ) (os : List ObservableOrders) (x : ExprOrderAcc) (s : Eos) → Formed s.expr_arena → Lows f g qs s → look_along rec m qs os x s ≡ look_along rec' m qs os x s
  unfolding look_along
  along_same m [] os x s k l = refl
  along_same m (q ∷ qs) os x s k l =
      let low = l q (Memᴰ.head refl) in
      let c = (B m q s k).goes.changes in
      along_same m qs (os ++ ((rec m q s).0 ∷ [])) (add x (rec m q s).0 q) (rec m q s).1 (changed_formed c k)
      (later_lows f g qs s (rec m q s).1 k c (λ z i. l z (Memᴰ.tail i)))
      ∙ ap (λ (r : ObservableOrders × Eos). look_along rec' m qs (os ++ (r.0 ∷ [])) (add x r.0 q) r.1) (A m q s k low.0 low.1)

  children_same : (e : Expr) (b : Before) (s : Eos) → Formed s.expr_arena → Lows f g (in_order b e.children) s → look_along_children rec e b s ≡ look_along_children rec' e b s
  unfolding look_along_children
  children_same e b s k l =
      let qs = in_order b e.children in
      let a = look_along rec b.first (take 1 qs) [] no_orders s in
      let s₁ = enter_struct e a.0 a.2 in
      let c = (spent_along rec B b.first (take 1 qs) [] no_orders s k).goes.changes in
      along_same NO_DEORDER (drop 1 qs) a.0 a.1 s₁ (changed_formed c k)
      (later_lows f g (drop 1 qs) s s₁ k c (λ z i. l z (of_drop qs z i)))
      ∙ ap (λ (r : List ObservableOrders × ExprOrderAcc × Eos). look_along rec' NO_DEORDER (drop 1 qs) r.0 r.1 (enter_struct e r.0 r.2))
      (along_same b.first (take 1 qs) [] no_orders s k (λ z i. l z (of_take qs z i)))

  again_same : (again : Bool) (x : ExprOrderAcc) (s : Eos) → Formed s.expr_arena
      → (T again → Low f s.expr_arena x.last_ordered_node × Low g s.expr_arena x.last_ordered_node)
      → look_again rec again x s ≡ look_again rec' again x s
  unfolding look_again
  again_same true x s k l = A ALLOW_DEORDER x.last_ordered_node s k (l tt).0 (l tt).1
  again_same false x s k l = refl

  whole_same : (allow : Bool) (p : ℕ) (e : Expr) (s : Eos) → Formed s.expr_arena
      → let b = before e allow e.kind in
      Lows f g (in_order b e.children) s → look_whole rec allow p e b s ≡ look_whole rec' allow p e b s
  unfolding look_whole
  whole_same allow p e s k l =
      let b = before e allow e.kind in
      let qs = in_order b e.children in
      let field = s.struct_field_ordering in
      let a = look_along_children rec e b s in
      let c = (children_spent rec B e b s k).goes.changes in
      let end : List ObservableOrders × ExprOrderAcc × Eos → ObservableOrders × Eos → ObservableOrders × Eos =
      λ r i.
      let v = after e allow field r.0 r.1 e.kind in
      let o = if v.again then v.answer_again i.0 else v.answer in
      (o, look_ended p e v o field r.0 i.1) in
      let again : List ObservableOrders × ExprOrderAcc × Eos → Bool = λ r. (after e allow field r.0 r.1 e.kind).again in
      let lows : T (again a) → Low f a.2.expr_arena a.1.last_ordered_node × Low g a.2.expr_arena a.1.last_ordered_node =
      λ t.
      later_lows f g qs s a.2 k c l a.1.last_ordered_node
      (single_of_children rec e b s (looks_again e allow field a.0 a.1 e.kind t).one) in
      ap (end a) (again_same (again a) a.1 a.2 (changed_formed c k) lows)
      ∙ ap (λ (r : List ObservableOrders × ExprOrderAcc × Eos). end r (look_again rec' (again r) r.1 r.2)) (children_same e b s k l)

  at_same : (m : Bool) (p : ℕ) (s : Eos) → Formed s.expr_arena → Low (suc f) s.expr_arena p → Low (suc g) s.expr_arena p
      → let e = expr_at s.expr_arena p in
      let b = before e m e.kind in
      (o : Option ObservableOrders) (replaced : Bool) → (T replaced → T (sort? e))
      → look_at rec m p e b (one_look s) o replaced ≡ look_at rec' m p e b (one_look s) o replaced
  unfolding look_at
  at_same m p s k l₁ l₂ (some o) r t = refl
  at_same m p s k l₁ l₂ none true t =
      let es = s.expr_arena in
      A m p (replace_by_input p (expr_at es p) (one_look s)) (input_formed es k p (t tt)) (input_lower es k p (t tt) f l₁) (input_lower es k p (t tt) g l₂)
  at_same m p s k l₁ l₂ none false t =
      let e = expr_at s.expr_arena p in
      let b = before e m e.kind in
      whole_same m p e (one_look s) k (λ q i. let j = of_in_order b e.children q i in (l₁ q j, l₂ q j))

-- any two fuels that are no less than the height
pub enough : (f g : ℕ) → Agree f g (look f) (look g)
unfolding look is_replaced
enough zero g m p s k l₁ l₂ = absurd l₁
enough (suc f) zero m p s k l₁ l₂ = absurd l₂
enough (suc f) (suc g) m p s k l₁ l₂ =
    let e = expr_at s.expr_arena p in
    let b = before e m e.kind in
    let kept = all? (λ q. (expr_at s.expr_arena q).length_preserving) e.children in
    at_same f g (λ m q t. look f m q t) (λ m q t. look g m q t) (look_spent f) (enough f g) m p s k l₁ l₂
    (check_return_cached b p (one_look s)) (is_replaced s.expr_arena e m)
    (replaced_sort m (same_aexpr e.kind AExpr.Sort) (same_aexpr e.kind AExpr.SortBy) kept)

-- any two fuels above p
pub fuel_enough : (f g : ℕ) (allow : Bool) (p : ℕ) (s : Eos) → Formed s.expr_arena → p < f → p < g → look f allow p s ≡ look g allow p s
fuel_enough f g allow p s k h₁ h₂ =
    let d = earlier_of s.expr_arena k in
    enough f g allow p s k (low_of s.expr_arena d f p h₁) (low_of s.expr_arena d g p h₂)
