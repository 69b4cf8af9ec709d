-- The walks, place by place: what holds when some places are visited.
use mathlib.Core.Path.{◌≡◌, refl, sym, ap, ◌∙◌, subst}
use mathlib.Core.Logic.{◌≢◌}
use mathlib.Core.Bool.{Bool, true, false}
use lib.Dec.{eqb}
use Prim.Native.Nat.{ℕ, suc, ◌+◌, ◌≤◌, ◌<◌}
use native.Mathlib.Omega.{arith}
use mathlib.Core.List.{List, [], ◌∷◌, ◌++◌, Memᴰ}
use Rattle.std.specs.Prelude.{Ok, Err, if◌then◌else◌}
use lib.ListN.{length, get_or, drop, drop_of_length-le}
use lib.Seq.{drop-cons}
use Rattle.plan.specs.declared.refusal.Refusal.{Refusal}
use Rattle.plan.specs.Sheet.{Outcome, refused, done, ◌then◌}
use Rattle.plan.specs.Visit.{Run, goes, settle, unlink_node, looked_in, simplify_ir_node_orders}
use Rattle.plan.proofs.Settling.{refusal_in}
use Rattle.plan.proofs.Settling as Settling
use Rattle.plan.specs.Walks.{walk, trace, then_all, trace_by, walk_by}
use Rattle.claims.specs.Visitable.{Visitable, AllVisitable}
use Rattle.simplify_ordering.specs.declared.back.Back.{Back}
use Rattle.simplify_ordering.specs.declared.run.StoredRun.{StoredRun}
use Rattle.simplify_ordering.specs.declared.visit.Visited.{Visited}
use Rattle.simplify_ordering.specs.Held.{run_of}
use Rattle.simplify_ordering.specs.Walks.{places, Noted, WalkAsks, or_stopped, walk_stopped, WalkEnds, WalkStops}
use Rattle.simplify_ordering.specs.Run.{Comes}
use Rattle.simplify_ordering.proofs.VisitLaws.{here_is}
use Rattle.storage.specs.Removed.{RemovedAre}
use Rattle.storage.specs.declared.removed.Removed.{Removed}
use Rattle.storage.proofs.RemovedLaws.{one_more}

-- A refusal's number is not 0 ---------------------------------------------------------------------------------------------------------

abbrev refused? : Outcome Run → ℕ
refused? (refused k) = 1
refused? (done r) = 0

abbrev number_of : Outcome Run → ℕ
number_of (refused k) = k
number_of (done r) = 0

not_refused : {r : Run} {k : ℕ} → done r ≡ refused k → ⊥
not_refused e = let z : ◌≡◌ {A = ℕ} 0 1 = ap refused? e in omega (arith, z)

pub refused_number : (n : ℕ) (r : Run) (k : ℕ) → simplify_ir_node_orders n r ≡ refused k → k ≢ 0
unfolding simplify_ir_node_orders settle
refused_number n r k e zero = by (goes n r) (eqb (refusal_in n r) 0) refl e
  where
    by : (a b : Bool) → eqb (refusal_in n r) 0 ≡ b
        → (if a then done (unlink_node n r) else if b then done (Settling.settled n r) else refused (refusal_in n r)) ≡ refused k
        → ⊥
    by true b i e = not_refused e
    by false true i e = not_refused e
    by false false i e =
        let z : refusal_in n r ≡ 0 = ap number_of e ∙ zero in
        let clash : true ≡ false = sym (ap (λ (m : ℕ). eqb m 0) z) ∙ i in
        let y : ◌≡◌ {A = ℕ} 1 0 = ap (λ (b : Bool). if b then 1 else 0) clash in
        omega (arith, y)

-- Along the places ---------------------------------------------------------------------------------------------------------------------

-- a visit reads neither of the two lists
visitable_apart : (n : ℕ) (r r' : Run) → r'.arena ≡ r.arena → r'.steps ≡ r.steps → r'.edges ≡ r.edges → r'.tally ≡ r.tally
    → Visitable n r → Visitable n r'
unfolding looked_in goes
visitable_apart n r r' a s e l k =
    record {
      step = rw s k.step;
      visits = rw l k.visits;
      exprs = rw (a, s) k.exprs;
      aggs = rw (a, s) k.aggs;
      imploded = rw (a, s, e, l) k.imploded;
      room = rw (a, s, e, l) k.room;
      between = rw (a, s, e, l) k.between;
      looks = rw (a, s, e, l) k.looks;
      consumers = rw (s, e) k.consumers;
      slots = rw (s, e) k.slots;
      input = rw (s, e) k.input;
    }

-- the visits after the first
visitable_next : (n : ℕ) (rest : List ℕ) (r r' : Run) → AllVisitable (n ∷ rest) r → simplify_ir_node_orders n r ≡ done r' → AllVisitable rest r'
unfolding trace_by
visitable_next n rest r r' v e m q i =
    v m q (Memᴰ.tail (subst (λ (o : Outcome Run). Memᴰ (m, q) (then_all o (λ y. trace rest y))) (sym e) i))

visitable_first : (n : ℕ) (rest : List ℕ) (r : Run) → AllVisitable (n ∷ rest) r → Visitable n r
unfolding trace_by
visitable_first n rest r v = v n r (Memᴰ.head refl)

-- ns are all places of the walk, `rest` those that are left; `before` is the run as it set out, `after` as it is now, and m says which
-- sorts had been removed before it
pub record Walking (ns rest : List ℕ) (m : Removed) (before after : List ℕ → List ℕ → Run) (b : Back) : Type 0 where
  pub gone : List ℕ
  pub noted : (earlier : List ℕ) → RemovedAre earlier m → RemovedAre (gone ++ earlier) b.removed
  pub on : (back d : List ℕ) → walk ns (before back d) ≡ walk rest (after (places b ++ back) (gone ++ d))
  pub on_stopped : (back d : List ℕ) → walk_stopped ns (before back d) ≡ walk_stopped rest (after (places b ++ back) (gone ++ d))
  pub back : List ℕ
  pub removed : List ℕ
  pub visitable : AllVisitable rest (after (places b ++ back) (gone ++ removed))

module _ (ns : List ℕ) (m : Removed) (before : List ℕ → List ℕ → Run) where
  -- as a walk sets out, no place is stored
  pub walking_none : WalkAsks ns before → (b : Back) → b.at ≡ 288 → b.removed ≡ m → Walking ns ns m before before b
  walking_none a b at same =
      let p : places b ≡ [] = drop_of_length-le b.places {i = b.at} (omega (arith, b.sized, at)) in
      record {
        gone = [];
        noted = λ earlier k. rw same k;
        on = λ back d. rw p refl;
        on_stopped = λ back d. rw p refl;
        back = a.back;
        removed = a.removed;
        visitable = rw p a.visitable;
      }

  module _ (after : List ℕ → List ℕ → Run) (b : Back) where
    pub walking_ends : Walking ns [] m before after b → b.removed.count ≤ m.count + length ns → WalkEnds ns m before after b
    unfolding walk_by
    walking_ends g few = record { gone = g.gone; removed = g.noted; few = few; is = g.on }

    module _ (n : ℕ) (rest : List ℕ) (g : Walking ns (n ∷ rest) m before after b) where
      place_visitable : Visitable n (after (places b ++ g.back) (g.gone ++ g.removed))
      place_visitable = visitable_first n rest (after (places b ++ g.back) (g.gone ++ g.removed)) g.visitable

      walk_on : (back d : List ℕ) (o : Outcome Run) → simplify_ir_node_orders n (after (places b ++ back) (g.gone ++ d)) ≡ o
          → walk ns (before back d) ≡ (o then λ y. walk rest y)
      unfolding walk_by ◌then◌
      walk_on back d o e = g.on back d ∙ ap (λ (x : Outcome Run). x then λ y. walk rest y) e

      stop_on : (back d : List ℕ) (o : Outcome Run) → simplify_ir_node_orders n (after (places b ++ back) (g.gone ++ d)) ≡ o
          → walk_stopped ns (before back d) ≡ or_stopped n (after (places b ++ back) (g.gone ++ d)) o (λ y. walk_stopped rest y)
      unfolding walk_stopped
      stop_on back d o e =
          g.on_stopped back d ∙ ap (λ (x : Outcome Run). or_stopped n (after (places b ++ back) (g.gone ++ d)) x (λ y. walk_stopped rest y)) e

      module _ (after' : List ℕ → List ℕ → Run) where
        -- what the visit to n made of the walk
        pub walking_stops : (e : Refusal) → Comes simplify_ir_node_orders n after after' (Err e) → WalkStops ns before after' e
        unfolding ◌then◌
        walking_stops e k =
            record {
              pushed = places b;
              gone = g.gone;
              is = λ back d. walk_on back d _ (k.outcome (places b ++ back) (g.gone ++ d));
              stop = λ back d. stop_on back d _ (k.outcome (places b ++ back) (g.gone ++ d)) ∙ k.stop (places b ++ back) (g.gone ++ d);
            }

        pub walking_more : n < 32 → (v : Visited) (b' : Back) → Noted n v b b' → Comes simplify_ir_node_orders n after after' (Ok v)
            → Walking ns rest m before after' b'
        unfolding ◌then◌
        walking_more h Visited.Settled b' (p, at, same) k =
            record {
              gone = g.gone;
              noted = λ earlier j. rw same (g.noted earlier j);
              on = λ back d. rw p (walk_on back d _ (k.outcome (places b ++ back) (g.gone ++ d)));
              on_stopped = λ back d. rw p (stop_on back d _ (k.outcome (places b ++ back) (g.gone ++ d)));
              back = g.back;
              removed = g.removed;
              visitable = rw p (visitable_next n rest _ _ g.visitable (k.outcome (places b ++ g.back) (g.gone ++ g.removed)));
            }
        walking_more h Visited.Removed b' (p, at, one) k =
            record {
              gone = n ∷ g.gone;
              noted = λ earlier j. one_more (g.gone ++ earlier) b.removed b'.removed n h one (g.noted earlier j);
              on = λ back d. rw p (walk_on back d _ (k.outcome (places b ++ back) (g.gone ++ d)));
              on_stopped = λ back d. rw p (stop_on back d _ (k.outcome (places b ++ back) (g.gone ++ d)));
              back = g.back;
              removed = g.removed;
              visitable = rw p (visitable_next n rest _ _ g.visitable (k.outcome (places b ++ g.back) (g.gone ++ g.removed)));
            }

    -- the places from the i-th on are left: the next is the i-th
    pub at_place : (i : ℕ) → i < length ns → Walking ns (drop i ns) m before after b
        → Walking ns (get_or ns i 0 ∷ drop (i + 1) ns) m before after b
    at_place i h g =
        let e : i + 1 ≡ suc i = omega arith in
        subst (λ (x : List ℕ). Walking ns x m before after b) (drop-cons ns i 0 h ∙ ap (λ (k : ℕ). get_or ns i 0 ∷ drop k ns) (sym e)) g

-- what is noted of a visit stays within the array, and is counted once
pub noted_fits : (n : ℕ) (v : Visited) (b b' : Back) (m : Removed) (i : ℕ) → Noted n v b b' → 288 ≤ b.at + i → b.removed.count ≤ m.count + i
    → (288 ≤ b'.at + (i + 1)) × (b'.removed.count ≤ m.count + (i + 1))
noted_fits n Visited.Settled b b' m i (p, at, same) h k = (omega (arith, at), omega (arith, ap (λ (x : Removed). x.count) same, k))
noted_fits n Visited.Removed b b' m i (p, at, one) h k = (omega (arith, at), omega (arith, one.count, k))

-- the step at the next place may be visited, and is one of the 32 that may be marked
module _ (ns : List ℕ) (m : Removed) (before : List ℕ → List ℕ → Run) (r : StoredRun) (ends : List ℕ) (b : Back) (i : ℕ) (h : i < length ns)
    (w : Walking ns (drop i ns) m before (run_of r ends) b) where
  pub visitable_here : Visitable (get_or ns i 0) (run_of r ends [] [])
  visitable_here =
      let g = at_place ns m before (run_of r ends) b i h w in
      visitable_apart _ _ _ refl refl refl refl (place_visitable ns m before (run_of r ends) b _ _ g)

  pub step_small : get_or ns i 0 < 32
  step_small = omega (arith, here_is r ends _ visitable_here, r.steps.held.few)
