-- Every look keeps to what looks cost.
use Rattle.std.specs.Prelude.{if◌then◌else◌}
use mathlib.Core.Path.{◌≡◌, refl, ap, sym, ◌∙◌, subst}
use mathlib.Core.Logic.{◌≢◌}
use Prim.Native.Nat.{ℕ, zero, suc, ◌+◌, ◌-◌, ◌≤◌}
use native.Mathlib.Omega.{arith}
use mathlib.Core.Bool.{Bool, true, false, ◌&&◌, ◌||◌}
use mathlib.Core.Option.{Option, none, some}
use mathlib.Core.List.{List, [], Memᴰ}
use lib.Dec.{T}
use lib.ListN.{get_or, set, take, drop}
use lib.Seq.{get_or-set_same, get_or-set_other}
use Rattle.plan.specs.declared.aexpr.AExpr.{AExpr}
use Rattle.plan.specs.declared.looks.Before.{Before}
use Rattle.plan.specs.declared.orders.ObservableOrders.{ObservableOrders}
use Rattle.plan.specs.Kinds.{same_aexpr}
use Rattle.plan.specs.Lists.{all?, sum, yes?}
use Rattle.plan.specs.Sheet.{Expr, no_expr, expr_at}
use Rattle.plan.specs.Orders.{∅, no_orders, is_empty}
use Rattle.plan.specs.Look.{Eos, Look, look, look_along, look_along_children, look_again, look_at, look_whole, look_ended, one_look, with_field, with_arena, check_return_cached, is_replaced, before, After, after, in_order, loses_order, switched_off, replace_implode, cache_output, internal_observe, enter_struct, NO_DEORDER}
use Rattle.plan.proofs.ListLaws.{and_left}
use Rattle.claims.proofs.Sums.{sum_part, sum_none}
use Rattle.plan.proofs.Counts.{only}
use Rattle.claims.proofs.Loads.{kids, load, size, load_kids, later_none, outside_own}
use Rattle.claims.proofs.RevisitCache.{seen, seen_still, seen_now, not_seen}
use Rattle.claims.proofs.Changes.{sort?, implode?, Formed, earlier_of, no_change, goes_off, changes_on, changed_formed, implode_inside}
use Rattle.claims.proofs.Potential.{weight, Φ, Goes, stays, weight_le, sum_Φ_le, Spent, Bounded, SpentAlong, SpentAgain, spent_along, spent_parts, spent_again, replaced_spent}
use Rattle.claims.proofs.LookAgain.{looks_again, single_of_children, sum_in_order, of_in_order}

-- The end of a look: an Implode may be switched off, and the record is cached or not ------------------------------------------

record Switched (p : ℕ) (s s' : Eos) : Type 0 where
  goes : Goes s s'
  elsewhere : (y : ℕ) → y ≢ p → expr_at s'.expr_arena y ≡ expr_at s.expr_arena y
  children : kids s'.expr_arena p ≡ kids s.expr_arena p
  scalar : (expr_at s'.expr_arena p).scalar ≡ (expr_at s.expr_arena p).scalar

-- e still stands at p
switched : (s : Eos) (p : ℕ) (e : Expr) (os : List ObservableOrders) → Formed s.expr_arena → expr_at s.expr_arena p ≡ e → Switched p s (replace_implode p e os s)
switched s p e os g i =
    by (loses_order e os)
    (λ t.
    and_left (implode? e) (yes? e.option) (and_left (implode? e && yes? e.option) (is_empty (get_or os 0 ∅)) t))
  where
    es : List Expr
    es = s.expr_arena

    by : (b : Bool) → (T b → T (implode? e)) → Switched p s (with_arena (if b then set es p (switched_off (expr_at es p)) else es) s)
    by false k = record { goes = stays s; elsewhere = λ y n. refl; children = refl; scalar = refl }
    by true k =
        let off = switched_off (expr_at es p) in
        let t : T (implode? (expr_at es p)) = subst (λ (x : Expr). T (implode? x)) (sym i) (k tt) in
        let same = get_or-set_same es p off no_expr (implode_inside es g p t) in
        record {
          goes = record { changes = goes_off p t no_change; keeps = λ q u. u };
          elsewhere = λ y n. get_or-set_other es p y off no_expr n;
          children = ap (λ (x : Expr). x.children) same;
          scalar = ap (λ (x : Expr). x.scalar) same;
        }

-- A look ---------------------------------------------------------------------------------------------------------------------

-- p's own weight pays for the second look
pays : (again : Bool) (c p : ℕ) (s F : Eos) → Formed s.expr_arena → Goes s F
    → (T again → (T (seen s p) → ⊥) × T (seen F p) × (size s.expr_arena c + 1 ≤ size s.expr_arena p))
    → weight F.expr_arena F.revisit_cache p + (if again then size s.expr_arena c else 0) ≤ weight s.expr_arena s.revisit_cache p
unfolding weight
pays false c p s F g to k = omega (arith, weight_le to g p)
pays true c p s F g to k = by (seen s p) (seen F p) (k tt).0 (k tt).1
  where
    by : (a b : Bool) → (T a → ⊥) → T b
        → (if b then 0 else size F.expr_arena p - 1) + size s.expr_arena c ≤ (if a then 0 else size s.expr_arena p - 1)
    by true b n t = absurd (n tt)
    by false true n t = omega (arith, (k tt).2)
    by false false n t = absurd t

pub children_spent : (rec : Look) → Bounded rec → (e : Expr) (b : Before) (s : Eos) → Formed s.expr_arena → SpentAlong (in_order b e.children) s (look_along_children rec e b s).2
unfolding look_along_children
children_spent rec B e b s g =
    let qs = in_order b e.children in
    let l = look_along rec b.first (take 1 qs) [] no_orders s in
    let s₁ = enter_struct e l.0 l.2 in
    let a = spent_along rec B b.first (take 1 qs) [] no_orders s g in
    let a₁ : SpentAlong (take 1 qs) s s₁ =
    record { goes = record { changes = a.goes.changes; keeps = a.goes.keeps }; outside = a.outside; looks = a.looks } in
    spent_parts qs g a₁ (spent_along rec B NO_DEORDER (drop 1 qs) l.0 l.1 s₁ (changed_formed a.goes.changes g))

-- after the children of p, at s₃, having looked at c again or not
module _ (p : ℕ) (s₀ s₃ : Eos) (b : Before) (again : Bool) (c : ℕ) (g : Formed s₀.expr_arena) where
  e : Expr
  e = expr_at s₀.expr_arena p

  qs : List ℕ
  qs = in_order b (kids s₀.expr_arena p)

  -- p's tree, before: its own record and the children's trees, in whichever order
  load_before : (w : ℕ → ℕ) → load w s₀.expr_arena p ≡ w p + sum (load w s₀.expr_arena) qs
  unfolding qs
  load_before w =
      omega (
        arith,
        load_kids w s₀.expr_arena (earlier_of s₀.expr_arena g) p,
        sum_in_order (load w s₀.expr_arena) b (kids s₀.expr_arena p),
      )

  module _
      (a : SpentAgain qs again c (one_look s₀) s₃)
      (v : After)
      (cost : T again → (T (seen s₀ p) → ⊥) × T v.caches × Memᴰ c qs) where
    -- p is in none of the children's trees
    stands : expr_at s₃.expr_arena p ≡ e
    unfolding e qs
    stands =
        a.outside p
        (sum_none (load (only p) s₀.expr_arena) qs
        (λ q m.
        later_none s₀.expr_arena (earlier_of s₀.expr_arena g) p q
        ((g p).earlier q (of_in_order b (kids s₀.expr_arena p) q m))))

    looks_after : (F : Eos) → Goes s₃ F → Goes s₀ F → kids F.expr_arena p ≡ kids s₀.expr_arena p → (T again → T (seen F p))
        → s₃.tally.looks + Φ F p ≤ s₀.tally.looks + size s₀.expr_arena p + Φ s₀ p
    unfolding qs
    looks_after F last whole i k =
        let wF = weight F.expr_arena F.revisit_cache in
        let gF = changed_formed whole.changes g in
        let small : T again → size s₀.expr_arena c + 1 ≤ size s₀.expr_arena p =
        λ t. omega (arith, load_before (λ _. 1), sum_part (size s₀.expr_arena) qs c (cost t).2) in
        omega (
          arith,
          a.looks,
          pays again c p s₀ F g whole (λ t. ((cost t).0, k t, small t)),
          load_kids wF F.expr_arena (earlier_of F.expr_arena gF) p,
          ap (sum (Φ F)) i,
          sum_in_order (Φ F) b (kids s₀.expr_arena p),
          sum_Φ_le last (changed_formed a.goes.changes g) qs,
          load_before (λ _. 1),
          load_before (weight s₀.expr_arena s₀.revisit_cache),
        )

    ended_spent : (m : Bool) (o field : ObservableOrders) (os : List ObservableOrders) → Spent m p s₀ (look_ended p e v o field os s₃)
    unfolding look_ended e
    ended_spent m o field os =
        let s₄ = internal_observe v.observes (with_field field s₃) in
        let F = cache_output v.caches p o (replace_implode p e os s₄) in
        let w = switched s₄ p e os (changed_formed a.goes.changes g) stands in
        let last : Goes s₃ F = record { changes = w.goes.changes; keeps = λ q t. seen_still v.caches p q o s₃ t } in
        let whole : Goes s₀ F = record { changes = changes_on a.goes.changes w.goes.changes; keeps = λ q t. last.keeps q (a.goes.keeps q t) } in
        record {
          goes = whole;
          outside =
              λ x h.
              w.elsewhere x (outside_own s₀.expr_arena (earlier_of s₀.expr_arena g) x p h)
              ∙ a.outside x (omega (arith, load_before (only x)));
          scalar = λ _. w.scalar ∙ ap (λ (x : Expr). x.scalar) stands;
          looks =
              looks_after F last whole (w.children ∙ ap (λ (x : Expr). x.children) stands)
              (λ t. seen_now v.caches p o s₃ (cost t).1);
        }

whole_spent : (rec : Look) → Bounded rec → (allow : Bool) (p : ℕ) (s₀ : Eos) → Formed s₀.expr_arena
    → let e = expr_at s₀.expr_arena p in
    let b = before e allow e.kind in
    (T b.checks → T (seen s₀ p) → ⊥) → Spent allow p s₀ (look_whole rec allow p e b (one_look s₀)).1
unfolding look_whole e qs
whole_spent rec B allow p s₀ g unseen =
    let e₀ = expr_at s₀.expr_arena p in
    let b = before e₀ allow e₀.kind in
    let field = s₀.struct_field_ordering in
    let l = look_along_children rec e₀ b (one_look s₀) in
    let v = after e₀ allow field l.0 l.1 e₀.kind in
    let i = look_again rec v.again l.1 l.2 in
    let t = looks_again e₀ allow field l.0 l.1 e₀.kind in
    let m : T v.again → Memᴰ l.1.last_ordered_node (in_order b e₀.children) =
    λ a. single_of_children rec e₀ b (one_look s₀) (t a).one in
    let a = spent_again rec B v.again l.1 (in_order b e₀.children) (one_look s₀) l.2 g (children_spent rec B e₀ b (one_look s₀) g) m in
    ended_spent p s₀ i.1 b v.again l.1.last_ordered_node g a v (λ a. (unseen (t a).checks, (t a).caches, m a)) allow
    (if v.again then v.answer_again i.0 else v.answer) field l.0

-- a record that is replaced is a sort, looked at with leave
replaced_allowed : (allow x y z : Bool) → T (allow && (x || (y && z))) → T allow
replaced_allowed true x y z t = tt
replaced_allowed false x y z t = t

pub replaced_sort : (allow x y z : Bool) → T (allow && (x || (y && z))) → T (x || y)
replaced_sort true true y z t = tt
replaced_sort true false true z t = tt
replaced_sort true false false z t = t
replaced_sort false x y z t = absurd t

at_spent : (rec : Look) → Bounded rec → (allow : Bool) (p : ℕ) (s₀ : Eos) → Formed s₀.expr_arena
    → let e = expr_at s₀.expr_arena p in
    let b = before e allow e.kind in
    (o : Option ObservableOrders) (replaced : Bool) → (o ≡ none → T b.checks → T (seen s₀ p) → ⊥) → (T replaced → T allow × T (sort? e))
    → Spent allow p s₀ (look_at rec allow p e b (one_look s₀) o replaced).1
unfolding look_at
at_spent rec B allow p s₀ g (some o) r u k =
    record {
      goes = record { changes = no_change; keeps = λ q t. t };
      outside = λ x h. refl;
      scalar = λ _. refl;
      looks = omega (arith, load_kids (λ _. 1) s₀.expr_arena (earlier_of s₀.expr_arena g) p);
    }
at_spent rec B allow p s₀ g none true u k = replaced_spent rec B allow p s₀ g (k tt).0 (k tt).1
at_spent rec B allow p s₀ g none false u k = whole_spent rec B allow p s₀ g (u refl)

-- with any fuel
pub look_spent : (f : ℕ) → Bounded (look f)
unfolding look check_return_cached is_replaced
look_spent zero allow p s g = record { goes = stays s; outside = λ x h. refl; scalar = λ _. refl; looks = omega arith }
look_spent (suc f) allow p s g =
    let e₀ = expr_at s.expr_arena p in
    let b = before e₀ allow e₀.kind in
    let sort = same_aexpr e₀.kind AExpr.Sort in
    let sort_by = same_aexpr e₀.kind AExpr.SortBy in
    let kept = all? (λ q. (expr_at s.expr_arena q).length_preserving) e₀.children in
    at_spent (λ m q t. look f m q t) (look_spent f) allow p s g (check_return_cached b p (one_look s)) (is_replaced s.expr_arena e₀ allow)
    (not_seen b p s)
    (λ t. (replaced_allowed allow sort sort_by kept t, replaced_sort allow sort sort_by kept t))
