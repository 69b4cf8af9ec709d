-- The log of the looks: it has an entry for each look that the tally counts, and each is a record of the tree looked at.
use Rattle.std.specs.Prelude.{if◌then◌else◌}
use mathlib.Core.Path.{◌≡◌, subst}
use mathlib.Core.Logic.{inl, inr}
use Prim.Native.Nat.{ℕ, zero, suc, ◌+◌, ◌≤◌}
use native.Mathlib.Omega.{arith}
use native.Mathlib.Nat.{le_refl, le_trans}
use mathlib.Core.Bool.{Bool, true, false, ◌&&◌}
use mathlib.Core.Option.{Option, none, some}
use mathlib.Core.List.Memᴰ
use mathlib.Core.List.{List, [], ◌∷◌, ◌++◌, Memᴰ}
use lib.Dec.{T}
use lib.ListN.{length, take, drop, length-append}
use Rattle.plan.specs.declared.aexpr.AExpr.{AExpr}
use Rattle.plan.specs.declared.orders.ExprOrderAcc.{ExprOrderAcc}
use Rattle.plan.specs.declared.orders.ObservableOrders.{ObservableOrders}
use Rattle.plan.specs.Kinds.{same_aexpr}
use Rattle.plan.specs.Lists.{all?, sum}
use Rattle.plan.specs.Sheet.{expr_at}
use Rattle.plan.specs.Orders.{∅, no_orders, add, single}
use Rattle.plan.specs.Look.{Eos, Look, before, after, in_order, check_return_cached, is_replaced, replace_by_input, enter_struct, internal_observe, one_look, look, look_along, look_along_children, look_again, look_whole, look_ended, look_at, simplify_projected_exprs, ALLOW_DEORDER, NO_DEORDER}
use Rattle.plan.proofs.ListLaws.{and_left}
use Rattle.claims.specs.LooksMade.{Made, made_along, made_again, made_whole, made_at, made, made_in_list}
use Rattle.claims.proofs.Sums.{sum_part}
use Rattle.plan.proofs.Counts.{only}
use Rattle.claims.proofs.Loads.{kids, load, load_kids, load_own}
use Rattle.claims.proofs.Changes.{sort?, Formed, earlier_of, Changes, no_change, takes_input, input_formed, changed_formed, changed_load, changed_loads}
use Rattle.claims.proofs.Potential.{Bounded, spent_along}
use Rattle.claims.proofs.LookAgain.{looks_again, single_of_children, single_of_list, sum_in_order}
use Rattle.claims.proofs.LookBound.{children_spent, look_spent, replaced_sort}

-- of looks at the trees of qs, from s to s'
pub record Logged (qs : List ℕ) (s s' : Eos) (log : List ℕ) : Type 0 where
  pub counted : s'.tally.looks ≡ s.tally.looks + length log
  pub own : (v : ℕ) → Memᴰ v log → 1 ≤ sum (load (only v) s.expr_arena) qs

nothing_logged : (qs : List ℕ) (s : Eos) → Logged qs s s []
nothing_logged qs s = record { counted = omega arith; own = λ v m. absurd (Memᴰ.not-nil m) }

-- first at trees of l, then at trees of m, both parts of qs
logged_both : {s s₁ s₂ : Eos} {log log₁ : List ℕ} (l m qs : List ℕ) → Formed s.expr_arena → Changes s₁.expr_arena s.expr_arena
    → ((w : ℕ → ℕ) → sum w l ≤ sum w qs) → ((w : ℕ → ℕ) → sum w m ≤ sum w qs)
    → Logged l s s₁ log → Logged m s₁ s₂ log₁ → Logged qs s s₂ (log ++ log₁)
logged_both {s} {s₁} {s₂} {log} {log₁} l m qs g c i j a b =
    record {
      counted = omega (arith, length-append log log₁, a.counted, b.counted);
      own =
          λ v k.
          let w = load (only v) s.expr_arena in
          elim (Memᴰ.append_cases log k) [
            | inl k₁ ↦ le_trans (a.own v k₁) (i w)
            | inr k₁ ↦ le_trans (b.own v k₁) (le_trans (changed_loads c g (only v) m) (j w))
          ];
    }

abbrev Logs : Look → Made → Type 0
Logs rec made = (m : Bool) (q : ℕ) (s : Eos) → Formed s.expr_arena → Logged (q ∷ []) s (rec m q s).1 (made m q s)

module _ (rec : Look) (made : Made) (B : Bounded rec) (L : Logs rec made) where
  along_logged : (m : Bool) (qs : List ℕ) (os : List ObservableOrders) (x : ExprOrderAcc) (s : Eos) → Formed s.expr_arena
      → Logged qs s (look_along rec m qs os x s).2 (made_along rec made m qs s)
  unfolding look_along made_along sum
  along_logged m [] os x s g = nothing_logged [] s
  along_logged m (q ∷ qs) os x s g =
      let a = B m q s g in
      logged_both (q ∷ []) qs (q ∷ qs) g a.goes.changes (λ w. omega arith) (λ w. omega arith) (L m q s g)
      (along_logged m qs (os ++ ((rec m q s).0 ∷ [])) (add x (rec m q s).0 q) (rec m q s).1 (changed_formed a.goes.changes g))

  again_logged : (again : Bool) (x : ExprOrderAcc) (qs : List ℕ) (s : Eos) → Formed s.expr_arena
      → (T again → Memᴰ x.last_ordered_node qs) → Logged qs s (look_again rec again x s).1 (made_again rec made again x s)
  unfolding look_again made_again sum
  again_logged false x qs s g m = nothing_logged qs s
  again_logged true x qs s g m =
      let a = L ALLOW_DEORDER x.last_ordered_node s g in
      record {
        counted = a.counted;
        own = λ v k. omega (arith, a.own v k, sum_part (load (only v) s.expr_arena) qs x.last_ordered_node (m tt));
      }

  -- the looks at the children of p, one of them again or not
  whole_logged : (allow : Bool) (p : ℕ) (s : Eos) → Formed s.expr_arena
      → let e = expr_at s.expr_arena p in
      let b = before e allow e.kind in
      Logged (in_order b e.children) s (look_whole rec allow p e b s).1 (made_whole rec made allow e b s)
  unfolding look_whole look_along_children look_ended made_whole sum
  whole_logged allow p s g =
      let e = expr_at s.expr_arena p in
      let b = before e allow e.kind in
      let qs = in_order b e.children in
      let l = look_along rec b.first (take 1 qs) [] no_orders s in
      let s₁ = enter_struct e l.0 l.2 in
      let c = (spent_along rec B b.first (take 1 qs) [] no_orders s g).goes.changes in
      let a = along_logged b.first (take 1 qs) [] no_orders s g in
      let a₁ : Logged (take 1 qs) s s₁ (made_along rec made b.first (take 1 qs) s) = record { counted = a.counted; own = a.own } in
      let a₂ = along_logged NO_DEORDER (drop 1 qs) l.0 l.1 s₁ (changed_formed c g) in
      let k = look_along_children rec e b s in
      let v = after e allow s.struct_field_ordering k.0 k.1 e.kind in
      let c₂ = (children_spent rec B e b s g).goes.changes in
      let a₃ = again_logged v.again k.1 qs k.2 (changed_formed c₂ g)
      (λ t. single_of_children rec e b s (looks_again e allow s.struct_field_ordering k.0 k.1 e.kind t).one) in
      let whole = logged_both qs qs qs g c₂ (λ w. le_refl _) (λ w. le_refl _) (logged_both (take 1 qs) (drop 1 qs) qs g c (in_take qs) (in_drop qs) a₁ a₂) a₃ in
      record { counted = whole.counted; own = whole.own }
    where
      in_take : (qs : List ℕ) (w : ℕ → ℕ) → sum w (take 1 qs) ≤ sum w qs
      in_take [] w = omega arith
      in_take (q ∷ qs) w = omega arith

      in_drop : (qs : List ℕ) (w : ℕ → ℕ) → sum w (drop 1 qs) ≤ sum w qs
      in_drop [] w = omega arith
      in_drop (q ∷ qs) w = omega arith

  -- after p's own look
  at_logged : (allow : Bool) (p : ℕ) (s₀ : Eos) → Formed s₀.expr_arena
      → let e = expr_at s₀.expr_arena p in
      let b = before e allow e.kind in
      let s = one_look s₀ in
      (o : Option ObservableOrders) (replaced : Bool) → (T replaced → T (sort? e))
      → Logged (p ∷ []) s (look_at rec allow p e b s o replaced).1 (made_at rec made allow p e b s o replaced)
  unfolding look_at made_at sum
  at_logged allow p s₀ g (some o) r k = nothing_logged (p ∷ []) (one_look s₀)
  at_logged allow p s₀ g none true k =
      let es = s₀.expr_arena in
      let s₁ = replace_by_input p (expr_at es p) (one_look s₀) in
      let c : Changes s₁.expr_arena es = takes_input p (k tt) no_change in
      let a = L allow p s₁ (input_formed es g p (k tt)) in
      record { counted = a.counted; own = λ v m. omega (arith, a.own v m, changed_load c g (only v) p) }
  at_logged allow p s₀ g none false k =
      let es = s₀.expr_arena in
      let b = before (expr_at es p) allow (expr_at es p).kind in
      let a = whole_logged allow p (one_look s₀) g in
      record {
        counted = a.counted;
        own =
            λ v m.
            omega (
              arith,
              a.own v m,
              sum_in_order (load (only v) es) b (kids es p),
              load_kids (only v) es (earlier_of es g) p,
            );
      }

look_logged : (f : ℕ) → Logs (look f) (made f)
unfolding look made is_replaced sum
look_logged zero allow p s g = nothing_logged (p ∷ []) s
look_logged (suc f) allow p s g =
    let e = expr_at s.expr_arena p in
    let b = before e allow e.kind in
    let kept = all? (λ q. (expr_at s.expr_arena q).length_preserving) e.children in
    let a =
    at_logged (λ m q t. look f m q t) (λ m q t. made f m q t) (look_spent f) (look_logged f) allow p s g (check_return_cached b p (one_look s))
    (is_replaced s.expr_arena e allow)
    (replaced_sort allow (same_aexpr e.kind AExpr.Sort) (same_aexpr e.kind AExpr.SortBy) kept) in
    record {
      counted = omega (arith, a.counted);
      own =
          λ v m.
          elim (Memᴰ.cases_cons m) [
            | inl i ↦ subst (λ n. 1 ≤ sum (load (only v) s.expr_arena) (n ∷ [])) i (omega (arith, load_own s.expr_arena (earlier_of s.expr_arena g) v))
            | inr k ↦ a.own v k
          ];
    }

pub list_logged : (qs : List ℕ) (allow : Bool) (s : Eos) → Formed s.expr_arena → Logged qs s (simplify_projected_exprs qs allow s).1 (made_in_list qs allow s)
unfolding simplify_projected_exprs made_in_list
list_logged qs allow s g =
    let rec : Look = look (length s.expr_arena) in
    let B = look_spent (length s.expr_arena) in
    let L = look_logged (length s.expr_arena) in
    let l = look_along rec NO_DEORDER qs [] no_orders s in
    let x = l.1 in
    let s₂ = internal_observe (if x.saw_mixed_inputs then x.acc else ∅) l.2 in
    let c = (spent_along rec B NO_DEORDER qs [] no_orders s g).goes.changes in
    let a = along_logged rec (made (length s.expr_arena)) B L NO_DEORDER qs [] no_orders s g in
    let a₂ : Logged qs s s₂ (made_along rec (made (length s.expr_arena)) NO_DEORDER qs s) = record { counted = a.counted; own = a.own } in
    logged_both qs qs qs g c (λ w. le_refl _) (λ w. le_refl _) a₂
    (again_logged rec (made (length s.expr_arena)) B L (single x && allow) x qs s₂ (changed_formed c g)
    (λ t. single_of_list rec NO_DEORDER qs s (and_left (single x) allow t)))
