-- The two lists of a visit: what their looks ask of the arena, and that they leave it as the definition's.
use mathlib.Core.Path.{◌≡◌, refl, sym, ap, ◌∙◌}
use Prim.Native.Nat.{ℕ, ◌+◌, ◌≤◌, ◌<◌, ◌^◌}
use native.Mathlib.Omega.{arith}
use mathlib.Core.Bool.{Bool, true, false, ◌&&◌}
use mathlib.Core.List.{List, [], Memᴰ}
use lib.ListN.{length, get_or, set, length-replicate}
use lib.Seq.{set-get_or, get_or-set_same}
use lib.Dec.{eqb}
use borrow.Author.Tests.{eqb-true}
use Rattle.plan.specs.declared.orders.ObservableOrders.{ObservableOrders}
use Rattle.plan.specs.declared.ir.IR.{IR}
use Rattle.plan.specs.Kinds.{same_ir}
use Rattle.plan.specs.Sheet.{Expr, Step, no_step, step_at}
use Rattle.plan.specs.Orders.{∅}
use Rattle.plan.specs.Look.{look_along, look_again, simplify_projected_exprs}
use Rattle.plan.specs.Look as plan
use Rattle.plan.specs.Tally.{looks_more}
use Rattle.storage.specs.Stored.{arena_of}
use Rattle.plan.specs.Visit.{expr_order_simplifier, imploded, with_implodes, with_aggs, options_of, allow_deordering_top, looks_of}
use Rattle.plan.specs.declared.rules.Around.{Around}
use Rattle.storage.proofs.Laws.{length_arena, length_steps}
use Rattle.plan.proofs.Counts.{mem_at}
use Rattle.plan.specs.declared.tally.Tally.{Tally}
use Rattle.expr.specs.Contract.{looked_of}
use Rattle.expr.specs.declared.eos.Eos.{Eos}
use Rattle.expr.specs.Projected.{no_entries, Started, ListAsks, ListGives}
use Rattle.plan.proofs.Booleans.{and_left, and_right}
use Rattle.storage.specs.Based.{Falls}
use Rattle.expr.specs.State.{State, state, eos_of, Sized}
use Rattle.plan.specs.declared.rules.Observable.{Observable}
use Rattle.storage.specs.declared.entries.Entries.{Entries}
use Rattle.storage.specs.Entries.{list_of}
use Rattle.storage.specs.declared.stored.Arena.{Arena}
use Rattle.storage.specs.declared.stored.Steps.{Steps}
use Rattle.storage.specs.Held.{arena_in, steps_in}
use Rattle.storage.specs.Steps.{IsList}
use Rattle.simplify_ordering.specs.Looks.{first, second, ListsAsk, ListsGive, Listed, LooksGive}

falls_below : (n : ℕ) (xs : List ℕ) → ((q : ℕ) → Memᴰ q xs → q < n) → Falls n xs
falls_below n xs there = record { child = λ k h. there (get_or xs k 0) (mem_at xs k 0 h) }

-- Two empty lists -----------------------------------------------------------------------------------------------------------------------

none_there : (e : Entries) (l : List ℕ) → IsList l e → eqb e.count 0 ≡ true → l ≡ []
none_there e l i h = sym i.is ∙ rw (eqb-true e.count 0 h)

nothing_looked : (allow : Bool) (es : List Expr) (tally : Tally) → simplify_projected_exprs [] allow (expr_order_simplifier es tally) ≡ (∅, expr_order_simplifier es tally)
unfolding simplify_projected_exprs look_along look_again
nothing_looked allow es tally = refl

-- The lists as they are asked for ---------------------------------------------------------------------------------------------------------

module _ (a : Arena) (tally : Tally) (xs ys : List ℕ) (exprs aggs : Entries) (allow : Bool) (ask : ListsAsk a tally xs ys exprs aggs allow) where
  abbrev es : List Expr
  es = arena_in a

  module _ (none : (eqb exprs.count 0 && eqb aggs.count 0) ≡ true) where
    first_none : first xs allow es tally ≡ (∅, expr_order_simplifier es tally)
    first_none = ap (λ (l : List ℕ). first l allow es tally) (none_there exprs xs ask.exprs_are (and_left (eqb exprs.count 0) (eqb aggs.count 0) none)) ∙ nothing_looked allow es tally

    second_none : second xs ys allow es tally ≡ (∅, expr_order_simplifier es tally)
    second_none =
        ap (λ (x : ObservableOrders × plan.Eos). simplify_projected_exprs ys false x.1) first_none
        ∙ ap (λ (l : List ℕ). first l false es tally) (none_there aggs ys ask.aggs_are (and_right (eqb exprs.count 0) (eqb aggs.count 0) none))
        ∙ nothing_looked false es tally

    pub nothing_given : ListsGive es tally xs ys allow es tally (record { exprs = ∅; aggs = ∅; internal = ∅ })
    nothing_given =
        record {
          arena = sym (ap (λ (x : ObservableOrders × plan.Eos). x.1.expr_arena) second_none);
          exprs = sym (ap (λ (x : ObservableOrders × plan.Eos). x.0) first_none);
          aggs = sym (ap (λ (x : ObservableOrders × plan.Eos). x.0) second_none);
          internal = sym (ap (λ (x : ObservableOrders × plan.Eos). x.1.internally_observed) second_none);
          tally_is = sym (ap (λ (x : ObservableOrders × plan.Eos). x.1.tally) second_none);
        }

  module _ (s : Eos) (started : Started s) where
    abbrev start : State
    start = state a.lines.holds a.lines.off no_entries s

    start_sized : Sized start
    start_sized = record { line = a.lines.sized; off = a.lines.off_sized; cache = length-replicate {A = ℕ} 128 0 }

    pub first_asks : ListAsks a.records.bytes a.records.count start exprs allow
    first_asks =
        record {
          cached = start_sized.cache;
          few = ask.exprs_are.few;
          room = ask.exprs_are.room;
          falls = rw ask.exprs_are.is (falls_below a.records.count xs ask.exprs_there);
          tally = tally;
          fits = rw (ask.exprs_are.is, started.is tally a.records.bytes a.records.count a.lines.holds a.lines.off) ask.between;
        }

    module _ (b : State) (g : ListGives a.records.bytes a.records.count start exprs allow b) where
      between_is : looked_of tally a.records.bytes a.records.count b ≡ first xs allow es tally
      between_is = rw (ask.exprs_are.is, started.is tally a.records.bytes a.records.count a.lines.holds a.lines.off) at (g.is tally)

      between_eos : eos_of tally a.records.bytes a.records.count b ≡ (first xs allow es tally).1
      between_eos = ap (λ (p : ObservableOrders × plan.Eos). p.1) between_is

      pub second_asks : ListAsks a.records.bytes a.records.count b aggs false
      second_asks =
          record {
            cached = (g.kept.sized start_sized).cache;
            few = ask.aggs_are.few;
            room = ask.aggs_are.room;
            falls = rw ask.aggs_are.is (falls_below a.records.count ys ask.aggs_there);
            tally = tally;
            fits = rw (ask.aggs_are.is, between_eos) ask.end;
          }

      module _ (t : State) (h : ListGives a.records.bytes a.records.count b aggs false t) where
        end_is : looked_of tally a.records.bytes a.records.count t ≡ second xs ys allow es tally
        end_is = rw (ask.aggs_are.is, between_eos) at (h.is tally)

        end_eos : eos_of tally a.records.bytes a.records.count t ≡ (second xs ys allow es tally).1
        end_eos = ap (λ (p : ObservableOrders × plan.Eos). p.1) end_is

        end_tally : looks_more t.own.looks tally ≡ (second xs ys allow es tally).1.tally
        unfolding eos_of
        end_tally = ap (λ (x : plan.Eos). x.tally) end_eos

        pub tally_fits : (looks : ℕ) → looks ≡ t.own.looks → tally.looks + looks < 2 ^ 64
        tally_fits looks is = omega (arith, is, ap (λ (x : Tally). x.looks) end_tally, ask.end)

        pub lists_given : (e g i : ObservableOrders) → e ≡ b.own.answer → g ≡ t.own.answer → i ≡ t.own.observed
            → (looks : ℕ) → looks ≡ t.own.looks → (tally' : Tally) → tally' ≡ looks_more looks tally
            → ListsGive es tally xs ys allow (arena_of a.records.bytes t.line t.off a.records.count) tally' (record { exprs = e; aggs = g; internal = i })
        unfolding eos_of
        lists_given e g i e_is g_is i_is looks looks_is tally' tally'_is =
            record {
              arena = ap (λ (x : plan.Eos). x.expr_arena) end_eos;
              exprs = e_is ∙ ap (λ (p : ObservableOrders × plan.Eos). p.0) between_is;
              aggs = g_is ∙ ap (λ (p : ObservableOrders × plan.Eos). p.0) end_is;
              internal = i_is ∙ ap (λ (x : plan.Eos). x.internally_observed) end_eos;
              tally_is = tally'_is ∙ ap (λ (k : ℕ). looks_more k tally) looks_is ∙ end_tally;
            }

-- The lists of step i, the Implodes appended ---------------------------------------------------------------------------------------------

module _ (s : Step) (es : List Expr) where
  pub grouped : same_ir s.kind IR.GroupBy ≡ true → with_implodes s es ≡ imploded s.aggs es
  unfolding with_implodes
  grouped h = rw h

  pub ungrouped : same_ir s.kind IR.GroupBy ≡ false → with_implodes s es ≡ (s.aggs, es)
  unfolding with_implodes
  ungrouped h = rw h

pub same_step : (ps : List Step) (i : ℕ) → ps ≡ set ps i (with_aggs (step_at ps i).aggs (step_at ps i))
same_step ps i = sym (set-get_or ps i no_step)

-- what comes of a step of the kind, and of any other
module _ (i : ℕ) (s s' : Steps) (a a' : Arena) where
  abbrev before : Step
  before = step_at (steps_in s) i

  pub record Imploded : Type 0 where
    pub arena : arena_in a' ≡ (with_implodes before (arena_in a)).1
    pub steps : steps_in s' ≡ set (steps_in s) i (with_aggs (with_implodes before (arena_in a)).0 before)
    pub count : s'.count ≡ s.count

  pub when_grouped : same_ir before.kind IR.GroupBy ≡ true → arena_in a' ≡ (imploded before.aggs (arena_in a)).1
      → steps_in s' ≡ set (steps_in s) i (with_aggs (imploded before.aggs (arena_in a)).0 before) → s'.count ≡ s.count → Imploded
  when_grouped h arena steps count = let g = grouped before (arena_in a) h in record { arena = rw g arena; steps = rw g steps; count = count }

  pub when_not : same_ir before.kind IR.GroupBy ≡ false → a' ≡ a → s' ≡ s → Imploded
  when_not h arena steps =
      let g = ungrouped before (arena_in a) h in record {
        arena = rw (g, arena);
        steps = rw (g, steps) (same_step (steps_in s) i);
        count = rw steps;
      }

-- there is room for the Implodes
pub start_room : (s : Step) (e : Around) (es : List Expr) (looks : Tally) → Listed (looks_of s e es looks) → length (with_implodes s es).1 ≤ 128
unfolding looks_of
start_room s e arena looks l = l.room

-- es is the arena before the Implodes, s the steps; with them they are a and s'
module _ (i : ℕ) (e : Around) (es : List Expr) (tally : Tally) (s s' : Steps) (a : Arena) (here : i < s.count)
    (listed : Listed (looks_of (step_at (steps_in s) i) e es tally))
    (arena_is : arena_in a ≡ (with_implodes (step_at (steps_in s) i) es).1)
    (steps_are : steps_in s' ≡ set (steps_in s) i (with_aggs (with_implodes (step_at (steps_in s) i) es).0 (step_at (steps_in s) i)))
    (exprs aggs : Entries) (exprs_are : IsList (step_at (steps_in s') i).exprs exprs) (aggs_are : IsList (step_at (steps_in s') i).aggs aggs)
    (allow : Bool) (allow_is : allow ≡ allow_deordering_top (options_of (step_at (steps_in s) i)) e) where
  abbrev p : Step
  p = step_at (steps_in s) i

  step_now : step_at (steps_in s') i ≡ with_aggs (with_implodes p es).0 p
  step_now =
      ap (λ (x : List Step). step_at x i) steps_are
      ∙ get_or-set_same (steps_in s) i (with_aggs (with_implodes p es).0 p) no_step (omega (arith, here, length_steps s.bytes s.count))

  xs_are : list_of exprs ≡ p.exprs
  xs_are = exprs_are.is ∙ ap (λ (x : Step). x.exprs) step_now

  ys_are : list_of aggs ≡ (with_implodes p es).0
  ys_are = aggs_are.is ∙ ap (λ (x : Step). x.aggs) step_now

  length_now : length (with_implodes p es).1 ≡ a.records.count
  length_now = ap length (sym arena_is) ∙ length_arena a.records.bytes a.lines.holds a.lines.off a.records.count

  pub lists_asked : ListsAsk a tally (list_of exprs) (list_of aggs) exprs aggs allow
  unfolding looks_of
  lists_asked =
      rw (xs_are, ys_are, allow_is)
      (record {
        exprs_are = record { is = xs_are; few = exprs_are.few; room = exprs_are.room };
        aggs_are = record { is = ys_are; few = aggs_are.few; room = aggs_are.room };
        exprs_there = λ q k. omega (arith, listed.exprs q k, length_now);
        aggs_there = λ q k. omega (arith, listed.aggs q k, length_now);
        between = rw arena_is listed.between;
        end = rw arena_is listed.end;
      })

  pub looks_given : (es' : List Expr) (tally' : Tally) (o : Observable)
      → ListsGive (arena_in a) tally (list_of exprs) (list_of aggs) allow es' tally' o
      → LooksGive (looks_of p e es tally) i (steps_in s) (steps_in s') es' tally' o
  unfolding looks_of
  looks_given es' tally' o h₀ =
      let h = rw (xs_are, ys_are, allow_is, arena_is) at h₀ in
      record {
        arena = h.arena;
        steps_are = steps_are;
        observable = rw (h.exprs, h.aggs, h.internal);
        tally_is = h.tally_is;
      }
