-- A look at a leaf: a record of the first five kinds without children.
use Rattle.std.specs.Prelude.{if◌then◌else◌}
use mathlib.Core.Path.{◌≡◌, refl, sym, ap, ◌∙◌, subst}
use Prim.Native.Nat.{ℕ, zero, suc, ◌+◌, ◌*◌, ◌<◌}
use native.Mathlib.Omega.{arith}
use mathlib.Core.Bool.{Bool, true, false, and-false, or-false}
use mathlib.Core.List.{List, []}
use mathlib.Core.Option.{none}
use lib.Dec.{eqb}
use lib.ListN.{get_or}
use Rattle.plan.specs.declared.aexpr.AExpr.{AExpr}
use Rattle.plan.specs.declared.orders.ObservableOrders.{ObservableOrders}
use Rattle.plan.specs.declared.tally.Tally.{Tally}
use Rattle.plan.specs.Kinds.{aexpr, aexpr_number, same_aexpr}
use Rattle.plan.proofs.KindNumbers.{aexpr_back}
use Rattle.plan.specs.Sheet.{Expr}
use Rattle.plan.specs.Orders.{∅, COLUMN, INDEPENDENT, ◌∪◌, no_orders}
use Rattle.plan.specs.Look.{Eos, one_look, before, in_order, check_return_cached, is_replaced, after, plain, enter_struct, look_ended, look}
use Rattle.storage.specs.Stored.{stored_expr}
use Rattle.storage.specs.Exprs.{held}
use Rattle.expr.specs.State.{State, eos_of}
use Rattle.expr.specs.Tables.{Leaf}
use Rattle.expr.specs.Contract.{looked_of, LookAsks, LookGives, Answers}
use Rattle.storage.proofs.ExprLaws.{stored}
use Rattle.expr.proofs.States.{Holds, counted, answering, kept_owning, eos_field, eos_counted, eos_answering, eos_at}
use Rattle.expr.proofs.Laws.{finish, after_answers, finish_done, look_rest}
use Rattle.expr.proofs.Along.{none_in_order, children_from, along_none}
use Rattle.expr.proofs.Ways.{held_children, held_kind, line_below}

-- The kinds ----------------------------------------------------------------------------------------------------------------------

-- what the definition does with a kind beside the answer
record LeafKind (e : Expr) (allow : Bool) (k : AExpr) : Type 0 where
  pub checks : (before e allow k).checks ≡ false
  pub sort : same_aexpr k AExpr.Sort ≡ false
  pub sort_by : same_aexpr k AExpr.SortBy ≡ false
  pub implode : same_aexpr k AExpr.Implode ≡ false

leaf_number : (e : Expr) (allow : Bool) (k : ℕ) → k < 5 → LeafKind e allow (aexpr k)
unfolding before
leaf_number e allow zero h = record { checks = refl; sort = refl; sort_by = refl; implode = refl }
leaf_number e allow (suc zero) h = record { checks = refl; sort = refl; sort_by = refl; implode = refl }
leaf_number e allow (suc (suc zero)) h = record { checks = refl; sort = refl; sort_by = refl; implode = refl }
leaf_number e allow (suc (suc (suc zero))) h = record { checks = refl; sort = refl; sort_by = refl; implode = refl }
leaf_number e allow (suc (suc (suc (suc zero)))) h = record { checks = refl; sort = refl; sort_by = refl; implode = refl }
leaf_number e allow (suc (suc (suc (suc (suc k))))) h = absurd (omega arith)

leaf_kind : (e : Expr) (allow : Bool) (k : AExpr) → aexpr_number k < 5 → LeafKind e allow k
leaf_kind e allow k h = subst (LeafKind e allow) (aexpr_back k) (leaf_number e allow (aexpr_number k) h)

module _ (scalar : Bool) (field : ObservableOrders) where
  pub leaf_column : Leaf AExpr.Column scalar field COLUMN
  unfolding after
  leaf_column = record { first_five = omega arith; is = λ e allow h. refl }

  pub leaf_literal : Leaf AExpr.Literal scalar field (if scalar then ∅ else INDEPENDENT)
  unfolding after
  leaf_literal = record { first_five = omega arith; is = λ e allow h. rw h }

  pub leaf_element : Leaf AExpr.Element scalar field INDEPENDENT
  unfolding after
  leaf_element = record { first_five = omega arith; is = λ e allow h. refl }

  pub leaf_struct_field : Leaf AExpr.StructField scalar field field
  unfolding after
  leaf_struct_field = record { first_five = omega arith; is = λ e allow h. refl }

  pub leaf_len : Leaf AExpr.Len scalar field ∅
  unfolding after
  leaf_len = record { first_five = omega arith; is = λ e allow h. refl }

nothing_more : (o : ObservableOrders) → o ∪ ∅ ≡ o
nothing_more o = rw (or-false o.column, or-false o.independent)

-- its end changes nothing
leaf_ended : (p : ℕ) (e : Expr) (o : ObservableOrders) (s : Eos) → same_aexpr e.kind AExpr.Implode ≡ false
    → look_ended p e (plain o) o s.struct_field_ordering [] (enter_struct e [] s) ≡ s
unfolding look_ended
leaf_ended p e o s h = rw (h, nothing_more s.internally_observed)

-- The code's look at p, whose record is a leaf ---------------------------------------------------------------

held_scalar : (recs : List ℕ) (l : ℕ) (off : Bool) → (held recs l off).scalar ≡ (stored_expr recs l).scalar
unfolding held
held_scalar recs l true = refl
held_scalar recs l false = refl

module _ (recs : List ℕ) (n : ℕ) (s : State) (p : ℕ) (allow : Bool) (holds : Holds recs n s) (r : LookAsks recs n s p allow) where
  abbrev S : Tally → Eos
  S tally = eos_of tally recs n s

  abbrev l : ℕ
  l = get_or s.line p 0

  module _ (childless : get_or recs (l * 16 + 12) 0 ≡ 0) where
    abbrev k : AExpr
    k = aexpr (get_or recs (l * 16) 0)

    module _ (o : ObservableOrders) (o_is : Leaf k (eqb (get_or recs (l * 16 + 1) 0) 1) s.own.field o) where
      abbrev leaf_expr : Expr
      leaf_expr = held recs l (get_or s.off p false)

      leaf_stored : stored_expr recs l
          ≡ record {
            kind = k;
            scalar = eqb (get_or recs (l * 16 + 1) 0) 1;
            length_preserving = (stored_expr recs l).length_preserving;
            option = (stored_expr recs l).option;
            children = [];
          }
      leaf_stored =
          let below = line_below recs n s p holds.based holds.formed r.within in
          rw (stored recs l (omega (arith, below, holds.based.room)) (holds.based.formed l below), childless)

      leaf_kind_is : leaf_expr.kind ≡ k
      leaf_kind_is = held_kind recs l (get_or s.off p false) ∙ ap (λ (x : Expr). x.kind) leaf_stored

      leaf_scalar : leaf_expr.scalar ≡ eqb (get_or recs (l * 16 + 1) 0) 1
      leaf_scalar = held_scalar recs l (get_or s.off p false) ∙ ap (λ (x : Expr). x.scalar) leaf_stored

      leaf_children : leaf_expr.children ≡ []
      leaf_children = held_children recs l (get_or s.off p false) ∙ ap (λ (x : Expr). x.children) leaf_stored

      K : LeafKind leaf_expr allow leaf_expr.kind
      K = subst (LeafKind leaf_expr allow) (sym leaf_kind_is) (leaf_kind leaf_expr allow k o_is.first_five)

      module _ (tally : Tally) (f : ℕ) where
        abbrev D₀ : Answers
        D₀ = ([], no_orders, enter_struct leaf_expr [] (one_look (S tally)))

        leaf_unasked : check_return_cached (before leaf_expr allow leaf_expr.kind) p (one_look (S tally)) ≡ none
        unfolding check_return_cached
        leaf_unasked = rw K.checks

        leaf_stays : is_replaced (S tally).expr_arena leaf_expr allow ≡ false
        unfolding is_replaced
        leaf_stays = rw (K.sort, K.sort_by) (and-false allow)

        leaf_queue : in_order (before leaf_expr allow leaf_expr.kind) leaf_expr.children ≡ []
        leaf_queue = none_in_order (before leaf_expr allow leaf_expr.kind) leaf_expr.children leaf_children

        leaf_after : after_answers allow leaf_expr (S tally).struct_field_ordering D₀ ≡ plain o
        leaf_after =
            ap (after leaf_expr allow (S tally).struct_field_ordering [] no_orders) leaf_kind_is
            ∙ rw (eos_field tally recs n s) (o_is.is leaf_expr allow leaf_scalar)

        leaf_whole : look (suc f) allow p (S tally) ≡ (o, one_look (S tally))
        leaf_whole =
            look_rest f allow p (S tally) leaf_expr (sym (eos_at tally recs n s p r.within)) leaf_unasked leaf_stays
            ∙ rw (children_from (look f) leaf_expr (before leaf_expr allow leaf_expr.kind) (one_look (S tally)), along_none (look f) leaf_expr (before leaf_expr allow leaf_expr.kind) [] no_orders (one_look (S tally)) leaf_queue)
            (ap (finish (look f) p leaf_expr (S tally).struct_field_ordering D₀) leaf_after
            ∙ finish_done (look f) p leaf_expr (S tally).struct_field_ordering D₀ (plain o) refl
            ∙ ap (λ (z : Eos). (o, z)) (leaf_ended p leaf_expr o (one_look (S tally)) K.implode))

      leaf_is : (tally : Tally) (f : ℕ) → l < f → looked_of tally recs n (answering o (counted s)) ≡ look f allow p (S tally)
      leaf_is tally zero h = absurd (omega arith)
      leaf_is tally (suc f) h = rw (eos_answering tally recs n (counted s) o, eos_counted tally recs n s) (sym (leaf_whole tally f))

      pub gives_leaf : LookGives recs n s p allow (answering o (counted s))
      gives_leaf = record { is = leaf_is; kept = kept_owning _ s }
