-- What the loop of a look along the children asks and gives, a law for each place in it.
use Rattle.std.specs.Prelude.{if◌then◌else◌}
use mathlib.Core.Path.{◌≡◌, refl, sym, ◌∙◌}
use Prim.Native.Nat.{ℕ, zero, suc, ◌+◌, ◌<◌, ◌≤◌}
use native.Mathlib.Nat.{le_refl, lt_of_le_of_lt, lt_of_lt_of_le}
use native.Mathlib.Omega.{arith}
use mathlib.Core.Bool.{Bool, ◌&&◌}
use mathlib.Core.List.{List, [], ◌∷◌, ◌++◌}
use lib.Dec.{eqb}
use lib.ListN.{length, get_or}
use Rattle.plan.specs.declared.aexpr.AExpr.{AExpr}
use Rattle.plan.specs.declared.looks.Before.{Before}
use Rattle.plan.specs.declared.orders.ObservableOrders.{ObservableOrders}
use Rattle.plan.specs.declared.tally.Tally.{Tally}
use Rattle.plan.specs.Kinds.{same_aexpr}
use Rattle.plan.specs.Sheet.{Expr}
use Rattle.plan.specs.Orders.{add}
use Rattle.plan.specs.Look.{NO_DEORDER, in_order, look_along_children, look}
use Rattle.plan.specs.Look as plan
use Rattle.expr.specs.declared.seen.Seen.{Seen}
use Rattle.storage.specs.declared.exprs.ExprRecord.{ExprRecord}
use Rattle.expr.specs.Eos.{Own}
use Rattle.expr.specs.Eos as own
use Rattle.expr.specs.Seen.{none_seen, Adds}
use Rattle.storage.specs.Exprs.{record_of}
use Rattle.expr.specs.Record.{slot, child_at}
use Rattle.expr.specs.State.{State, eos_of}
use Rattle.expr.specs.Contract.{walked, looked_of, LookAsks, LookGives, along_from, Begun, reach, Reached, AlongAsks, IsWalk, AlongGives}
use Rattle.expr.proofs.Records.{children_length, children_at, above_each}
use Rattle.expr.proofs.States.{Formed, Holds, kept_trans, formed_kept, owning, kept_owning, eos_fielded, eos_field, same_field, begun_none, begun_next}
use Rattle.expr.proofs.Laws.{up_from, up_look}
use Rattle.expr.proofs.Along.{length_in_order, slot_below, in_order_at, entered, children_from, along_more, along_end, along_none}

none_of : (cs : List ℕ) → length cs ≡ 0 → cs ≡ []
none_of [] h = refl
none_of (c ∷ cs) h = absurd (omega arith)

module _ (recs : List ℕ) (n : ℕ) (s : State) (e : ExprRecord) (b : Before) where
  abbrev E : Expr
  E = record_of e

  -- before the first child
  pub reached_none : Reached recs n s e b s none_seen 0
  reached_none =
      record {
        most = omega arith;
        os = [];
        begun = begun_none;
        kept = record { sized = λ z. z; lower = λ q. le_refl _ };
        is = λ tally f h. children_from (look f) E b (eos_of tally recs n s);
      }

  module _ (holds : Holds recs n s) (r : AlongAsks recs n s e b) where
    queue_length : length (in_order b E.children) ≡ e.children.count
    queue_length = length_in_order b E.children ∙ children_length e.children r.shaped

    module _ (t : State) (x : Seen) where
      -- after the last one
      ends : (tally : Tally) (f i : ℕ) → e.children.count ≤ i → (os : List ObservableOrders) → Begun (reach e) i os x
          → IsWalk tally recs n e.children.count (walked t x) (along_from (look f) E b i os x.acc (eos_of tally recs n t))
      ends tally f zero h os begun =
          let none_there : in_order b E.children ≡ [] = none_of (in_order b E.children) (omega (arith, queue_length, h)) in
          rw (along_none (look f) E b os x.acc (eos_of tally recs n t) none_there)
          (record { sees = begun.sees; acc = refl; field = _; state = refl; same = λ more. absurd (omega (arith, more, h)) })
      ends tally f (suc i) h os begun =
          rw (along_end (look f) E b i (rw queue_length h) os x.acc (eos_of tally recs n t))
          (record { sees = begun.sees; acc = refl; field = t.own.field; state = sym (same_field tally recs n t); same = λ more. refl })

      module _ (i : ℕ) (g : Reached recs n s e b t x i) where
        pub along_gives : e.children.count ≤ i → AlongGives recs n s e b (walked t x)
        along_gives h =
            record {
              is = λ tally f k. rw (g.is tally f k) (ends tally f i h g.os g.begun);
              kept = g.kept;
              most = omega (arith, g.begun.most, g.most);
              near = g.begun.near;
            }

        -- the i-th
        module _ (more : i < e.children.count) (c : ℕ) (m : Bool) (c_is : c ≡ child_at e.children b.turned i) (m_is : m ≡ (if eqb i 0 then b.first else NO_DEORDER)) where
          abbrev T : Tally → plan.Eos
          T tally = eos_of tally recs n t

          c_at : get_or (in_order b E.children) i 0 ≡ c
          c_at = in_order_at e.children r.shaped i more b ∙ sym c_is

          c_falls : c < reach e
          c_falls =
              let k : slot b.turned e.children.count i < e.children.count = slot_below e.children r.shaped i more b.turned in
              rw (c_is, ← children_at e.children r.shaped (slot b.turned e.children.count i) k)
              (above_each E.children (slot b.turned e.children.count i) (rw (children_length e.children r.shaped) k))

          t_formed : Formed n t
          t_formed = formed_kept holds.formed g.kept

          c_within : c < n
          c_within = lt_of_lt_of_le c_falls r.within

          pub child_falls : get_or t.line c 0 < reach e
          child_falls = lt_of_le_of_lt (t_formed.below c c_within) c_falls

          -- the definition's look along the children, at any fuel
          step : (tally : Tally) (f : ℕ) → reach e ≤ f
              → look_along_children (look f) E b (eos_of tally recs n s)
              ≡ along_from (look f) E b (i + 1) (g.os ++ ((look f m c (T tally)).0 ∷ [])) (add x.acc (look f m c (T tally)).0 c) (entered (look f) E b i (look f m c (T tally)).0 (look f m c (T tally)).1)
          step tally f h =
              g.is tally f h
              ∙ along_more (look f) E b i (rw queue_length more) g.os x.acc (T tally) g.begun.length_is
              ∙ rw (c_at, ← m_is)

          pub child_asks : LookAsks recs n t c m
          child_asks =
              record {
                cached = t_formed.sized.cache;
                within = c_within;
                tally = r.tally;
                fuel = r.fuel;
                enough = lt_of_lt_of_le child_falls r.enough;
                fits = let R = look r.fuel m c (T r.tally) in lt_of_le_of_lt
                    (up_from (look r.fuel) (up_look r.fuel) E b (i + 1) (g.os ++ (R.0 ∷ [])) (add x.acc R.0 c) (entered (look r.fuel) E b i R.0 R.1))
                    (rw (step r.tally r.fuel r.enough) at r.fits);
              }

          pub few_seen : x.acc.num_ordered_inputs < 255
          few_seen = omega (arith, g.begun.most, more, r.shaped.few)

          module _ (u : State) (a : LookGives recs n t c m u) (o : ObservableOrders) (o_is : o ≡ u.own.answer) (next : Seen) (adds : Adds x o c i next)
              (w : Own) (w_is : w ≡ own.with_field (if eqb i 0 && same_aexpr e.kind AExpr.StructEval then u.own.answer else u.own.field) u.own) where
            adds_u : Adds x u.own.answer c i next
            adds_u = rw o_is at adds

            u_is : (tally : Tally) (f : ℕ) → reach e ≤ f → look f m c (T tally) ≡ looked_of tally recs n u
            u_is tally f h = sym (a.is tally f (lt_of_lt_of_le child_falls h))

            state_is : (tally : Tally) (f : ℕ) → entered (look f) E b i u.own.answer (eos_of tally recs n u) ≡ eos_of tally recs n (owning w u)
            state_is tally f = rw (w_is, eos_fielded tally recs n u (if eqb i 0 && same_aexpr e.kind AExpr.StructEval then u.own.answer else u.own.field), eos_field tally recs n u)

            pub reached_more : Reached recs n s e b (owning w u) next (i + 1)
            reached_more =
                record {
                  most = omega (arith, more);
                  os = g.os ++ (u.own.answer ∷ []);
                  begun = begun_next (reach e) i g.os x next u.own.answer c g.begun adds_u c_falls;
                  kept = kept_trans g.kept (kept_trans a.kept (kept_owning w u));
                  is = λ tally f h. step tally f h ∙ rw (u_is tally f h, state_is tally f, ← adds_u.acc);
                }
