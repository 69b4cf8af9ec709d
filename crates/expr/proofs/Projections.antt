-- What the code's list of projected expressions asks and gives, a law for each place in it.
use Rattle.std.specs.Prelude.{Option, None}
use Rattle.std.specs.Prelude.{if◌then◌else◌}
use mathlib.Core.Path.{◌≡◌, refl, sym, ap, ◌∙◌, fun_ext}
use Prim.Native.Nat.{ℕ, suc, ◌+◌, ◌<◌, ◌≤◌, ◌^◌}
use native.Mathlib.Nat.{le_refl, lt_of_le_of_lt}
use native.Mathlib.Omega.{arith}
use mathlib.Core.Bool.{Bool, true, false, ◌&&◌}
use mathlib.Core.List.{List, [], ◌∷◌, ◌++◌}
use mathlib.Core.Option.{none}
use lib.ListN.{length, get_or, drop, drop_of_length-le}
use lib.Seq.{drop-cons, length-take-le}
use borrow.Author.Tests.{eqb-true}
use Rattle.plan.specs.declared.orders.ExprOrderAcc.{ExprOrderAcc}
use Rattle.plan.specs.declared.orders.ObservableOrders.{ObservableOrders}
use Rattle.plan.specs.declared.tally.Tally.{Tally}
use Rattle.plan.specs.Orders.{∅, ◌∪◌, no_orders, add, single}
use Rattle.plan.specs.Look.{NO_DEORDER, internal_observe, Look, look_along, look_again, look, simplify_projected_exprs}
use Rattle.plan.specs.Look as plan
use Rattle.storage.specs.Stored.{arena_of}
use Rattle.storage.specs.declared.entries.Entries.{Entries}
use Rattle.storage.specs.Entries.{list_of}
use Rattle.plan.specs.Visit.{expr_order_simplifier}
use Rattle.expr.specs.declared.eos.Eos.{Eos}
use Rattle.expr.specs.declared.seen.Seen.{Seen}
use Rattle.expr.specs.Eos.{Own, own_of, no_looks}
use Rattle.expr.specs.Eos as own
use Rattle.expr.specs.Seen.{none_seen, Adds}
use Rattle.expr.specs.Cache.{cache_of}
use Rattle.expr.specs.State.{State, state, eos_of, Kept}
use Rattle.expr.specs.Contract.{LookAsks, LookGives, Answers}
use Rattle.expr.specs.Projected.{no_entries, Started, ListAsks, ListGives, ListReached}
use Rattle.plan.proofs.Booleans.{and_left}
use Rattle.storage.proofs.Starts.{all_same}
use Rattle.expr.proofs.States.{Formed, Holds, kept_trans, formed_kept, owning, answering, kept_owning, length_eos, eos_answering, eos_observing, begun_none, begun_next}
use Rattle.expr.proofs.Laws.{up_along, up_look}

-- The start of a visit -----------------------------------------------------------------------------------------------------------

nothing_cached : cache_of no_entries ≡ (λ _. none)
unfolding cache_of
nothing_cached = fun_ext (λ q. rw (all_same {A = Option ObservableOrders} 128 q None))

start_is : (s : Eos) → own_of s ≡ no_looks → (tally : Tally) (recs : List ℕ) (n : ℕ) (line : List ℕ) (off : List Bool)
    → eos_of tally recs n (state line off no_entries s) ≡ expr_order_simplifier (arena_of recs line off n) tally
unfolding eos_of
start_is s h tally recs n line off =
    let none_more : tally.looks + 0 ≡ tally.looks = omega arith in
    rw (h, nothing_cached, none_more)

pub started : (s : Eos) → own_of s ≡ no_looks → Started s
started s h = record { is = start_is s h }

-- The definition's list ----------------------------------------------------------------------------------------------------------

abbrev ended_list : Look → Bool → Answers → ObservableOrders × plan.Eos
ended_list rec allow d =
    look_again rec (single d.1 && allow) d.1 (internal_observe (if d.1.saw_mixed_inputs then d.1.acc else ∅) d.2)

up_ended : (rec : Look) → ((m : Bool) (q : ℕ) (s : plan.Eos) → s.tally.looks ≤ (rec m q s).1.tally.looks) → (allow : Bool) (d : Answers) → d.2.tally.looks ≤ (ended_list rec allow d).1.tally.looks
unfolding look_again
up_ended rec up allow d = go (single d.1 && allow)
  where
    go : (b : Bool) → d.2.tally.looks ≤ (look_again rec b d.1 (internal_observe (if d.1.saw_mixed_inputs then d.1.acc else ∅) d.2)).1.tally.looks
    go true = up true d.1.last_ordered_node (internal_observe (if d.1.saw_mixed_inputs then d.1.acc else ∅) d.2)
    go false = le_refl _

-- one more
along_one_more : (rec : Look) (q : ℕ) (qs rest : List ℕ) (os : List ObservableOrders) (x : ExprOrderAcc) (s : plan.Eos) → rest ≡ q ∷ qs
    → look_along rec NO_DEORDER rest os x s ≡ look_along rec NO_DEORDER qs (os ++ ((rec false q s).0 ∷ [])) (add x (rec false q s).0 q) (rec false q s).1
unfolding look_along
along_one_more rec q qs rest os x s h = rw h

along_no_more : (rec : Look) (rest : List ℕ) (os : List ObservableOrders) (x : ExprOrderAcc) (s : plan.Eos) → rest ≡ [] → look_along rec NO_DEORDER rest os x s ≡ (os, x, s)
unfolding look_along
along_no_more rec rest os x s h = rw h

-- The code's list ----------------------------------------------------------------------------------------------------------------

module _ (recs : List ℕ) (n : ℕ) (s : State) (list : Entries) (allow : Bool) where
  abbrev entries : List ℕ
  entries = list_of list

  abbrev S : Tally → plan.Eos
  S tally = eos_of tally recs n s

  abbrev D : Tally → Answers
  D tally = look_along (look n) NO_DEORDER entries [] no_orders (S tally)

  list_is : (tally : Tally) → simplify_projected_exprs entries allow (S tally) ≡ ended_list (look n) allow (D tally)
  unfolding simplify_projected_exprs
  list_is tally = rw (length_eos tally recs n s)

  -- before the first entry
  pub list_none : ListReached recs n s list s none_seen 0
  list_none = record { most = omega arith; os = []; begun = begun_none; kept = record { sized = λ z. z; lower = λ q. le_refl _ }; is = λ tally. refl }

  module _ (holds : Holds recs n s) (r : ListAsks recs n s list allow) where
    D_fits : (D r.tally).2.tally.looks < 2 ^ 58
    D_fits = lt_of_le_of_lt (up_ended (look n) (up_look n) allow (D r.tally)) (rw (list_is r.tally) at r.fits)

    length_list : length entries ≡ list.count
    length_list = length-take-le list.count list.nodes (omega (arith, r.few, r.room))

    module _ (t : State) (x : Seen) (i : ℕ) (g : ListReached recs n s list t x i) where
      t_formed : Formed n t
      t_formed = formed_kept holds.formed g.kept

      -- the i-th
      module _ (more : i < length entries) where
        abbrev c : ℕ
        c = get_or entries i 0

        c_within : c < n
        c_within = r.falls.child i more

        c_enough : get_or t.line c 0 < n
        c_enough = lt_of_le_of_lt (t_formed.below c c_within) c_within

        rest_is : drop i entries ≡ c ∷ drop (i + 1) entries
        rest_is =
            let q : i + 1 ≡ suc i = omega arith in
            rw q (drop-cons entries i 0 more)

        abbrev R : Tally → ObservableOrders × plan.Eos
        R tally = look n false c (eos_of tally recs n t)

        step : (tally : Tally) → D tally ≡ look_along (look n) NO_DEORDER (drop (i + 1) entries) (g.os ++ ((R tally).0 ∷ [])) (add x.acc (R tally).0 c) (R tally).1
        step tally = g.is tally ∙ along_one_more (look n) c (drop (i + 1) entries) (drop i entries) g.os x.acc (eos_of tally recs n t) rest_is

        pub entry_asks : LookAsks recs n t c false
        entry_asks =
            let y = R r.tally in
            record {
              cached = t_formed.sized.cache;
              within = c_within;
              tally = r.tally;
              fuel = n;
              enough = c_enough;
              fits = lt_of_le_of_lt
                  (up_along (look n) (up_look n) NO_DEORDER (drop (i + 1) entries) (g.os ++ (y.0 ∷ [])) (add x.acc y.0 c) y.1)
                  (rw (step r.tally) at D_fits);
            }

        pub few_entries : x.acc.num_ordered_inputs < 255
        few_entries = omega (arith, g.begun.most, more, length_list, r.few)

        pub list_more : (u : State) → LookGives recs n t c false u → (o : ObservableOrders) → o ≡ u.own.answer → (next : Seen) → Adds x o c i next → ListReached recs n s list u next (i + 1)
        list_more u a o o_is next adds =
            let adds_u : Adds x u.own.answer c i next = rw o_is at adds in
            record {
              most = omega (arith, more, length_list);
              os = g.os ++ (u.own.answer ∷ []);
              begun = begun_next n i g.os x next u.own.answer c g.begun adds_u c_within;
              kept = kept_trans g.kept a.kept;
              is = λ tally. step tally ∙ rw (sym (a.is tally n c_enough), ← adds_u.acc);
            }

      -- after the last one
      module _ (over : length entries ≤ i) (so_far mixed observed : ObservableOrders) (w : Own)
          (so_far_is : so_far ≡ t.own.observed)
          (mixed_is : mixed ≡ (if x.acc.saw_mixed_inputs then x.acc.acc else ∅))
          (observed_is : observed ≡ so_far ∪ mixed)
          (w_is : w ≡ own.with_observed observed t.own) where
        abbrev t₁ : State
        t₁ = owning w t

        D_is : (tally : Tally) → D tally ≡ (g.os, x.acc, eos_of tally recs n t)
        D_is tally = g.is tally ∙ along_no_more (look n) (drop i entries) g.os x.acc (eos_of tally recs n t) (drop_of_length-le entries {i = i} over)

        t₁_is : (tally : Tally) → internal_observe (if x.acc.saw_mixed_inputs then x.acc.acc else ∅) (eos_of tally recs n t) ≡ eos_of tally recs n t₁
        t₁_is tally = rw (w_is, observed_is, so_far_is, mixed_is) (sym (eos_observing tally recs n t _))

        t₁_kept : Kept s t₁
        t₁_kept = kept_trans g.kept (kept_owning w t)

        ended_is : (tally : Tally) → simplify_projected_exprs entries allow (S tally) ≡ look_again (look n) (single x.acc && allow) x.acc (eos_of tally recs n t₁)
        ended_is tally = list_is tally ∙ ap (ended_list (look n) allow) (D_is tally) ∙ rw (t₁_is tally)

        -- the single ordered expression once more
        module _ (twice : (single x.acc && allow) ≡ true) where
          abbrev node : ℕ
          node = x.acc.last_ordered_node

          near : node < n
          near = g.begun.near (omega (arith, eqb-true x.acc.num_ordered_inputs 1 (and_left (single x.acc) allow twice)))

          look_is : (tally : Tally) → simplify_projected_exprs entries allow (S tally) ≡ look n true node (eos_of tally recs n t₁)
          unfolding look_again
          look_is tally = ended_is tally ∙ rw twice

          t₁_formed : Formed n t₁
          t₁_formed = formed_kept holds.formed t₁_kept

          enough : get_or t₁.line node 0 < n
          enough = lt_of_le_of_lt (t₁_formed.below node near) near

          pub top_asks : LookAsks recs n t₁ node true
          top_asks = record { cached = t₁_formed.sized.cache; within = near; tally = r.tally; fuel = n; enough = enough; fits = rw (look_is r.tally) at r.fits }

          pub gives_top : (u : State) → LookGives recs n t₁ node true u → ListGives recs n s list allow u
          gives_top u m = record { is = λ tally. m.is tally n enough ∙ sym (look_is tally); kept = kept_trans t₁_kept m.kept }

        module _ (once : (single x.acc && allow) ≡ false) where
          not_again : (tally : Tally) → look_again (look n) (single x.acc && allow) x.acc (eos_of tally recs n t₁) ≡ (x.acc.acc, eos_of tally recs n t₁)
          unfolding look_again
          not_again tally = rw once

          pub gives_all : ListGives recs n s list allow (answering x.acc.acc t₁)
          gives_all =
              record {
                is = λ tally. rw (eos_answering tally recs n t₁ x.acc.acc) (sym (ended_is tally ∙ not_again tally));
                kept = kept_trans t₁_kept (kept_owning _ t₁);
              }
