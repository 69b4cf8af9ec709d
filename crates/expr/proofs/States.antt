-- Laws of the code's state: what its changes are to the definition's, and what they keep.
use Rattle.std.specs.Prelude.{Option, None, Some}
use Rattle.std.specs.Prelude.{if◌then◌else◌}
use mathlib.Core.Path.{◌≡◌, refl, ap, ◌∙◌}
use Prim.Native.Nat.{ℕ, ◌+◌, ◌<◌, ◌≤◌}
use native.Mathlib.Nat.{le_refl, le_trans}
use native.Mathlib.Omega.{arith}
use mathlib.Core.Bool.{Bool, true, false, ◌&&◌, ◌||◌}
use mathlib.Core.List.{List, [], ◌∷◌, ◌++◌}
use lib.Dec.{eqb}
use lib.ListN.{length, get_or, set, length-set, length-append}
use lib.Seq.{get_or-set_same, get_or-set_other}
use borrow.Author.Tests.{eqb-true, eqb-false}
use Rattle.plan.specs.declared.aexpr.AExpr.{AExpr}
use Rattle.plan.specs.declared.orders.ExprOrderAcc.{ExprOrderAcc}
use Rattle.plan.specs.declared.orders.ObservableOrders.{ObservableOrders}
use Rattle.plan.specs.Kinds.{same_aexpr}
use Rattle.plan.specs.Lists.{yes?}
use Rattle.plan.specs.Sheet.{expr_at}
use Rattle.plan.specs.Orders.{∅, ◌∪◌, is_empty, add}
use Rattle.plan.specs.declared.tally.Tally.{Tally}
use Rattle.plan.specs.Look.{one_look, with_arena, with_field, internal_observe, look_ended}
use Rattle.plan.specs.Look as plan
use Rattle.storage.proofs.Laws.{length_arena}
use Rattle.expr.specs.declared.after.After.{After}
use Rattle.expr.specs.declared.seen.Seen.{Seen}
use Rattle.storage.specs.declared.exprs.ExprRecord.{ExprRecord}
use Rattle.expr.specs.Eos.{Own}
use Rattle.expr.specs.Eos as own
use Rattle.expr.specs.Seen.{none_seen, Adds}
use Rattle.expr.specs.Cache.{cache_of}
use Rattle.storage.specs.Exprs.{record_of, held}
use Rattle.storage.specs.Based.{Based}
use Rattle.storage.specs.declared.stored.Arena.{Arena}
use Rattle.expr.specs.State.{State, eos_of, Sized, Kept}
use Rattle.expr.specs.Tables.{after_of}
use Rattle.expr.specs.Contract.{looked_of, ended_by, Ended, Begun}
use Rattle.expr.proofs.Answers.{sees_next}
use Rattle.expr.proofs.View.{arena_at, arena_copied, arena_off, cache_written}

-- What is kept -------------------------------------------------------------------------------------------------------------------

pub kept_trans : {s t r : State} → Kept s t → Kept t r → Kept s r
kept_trans p q = record { sized = λ z. q.sized (p.sized z); lower = λ i. le_trans (q.lower i) (p.lower i) }

-- a line holds its own record or a lower one
pub record Formed (n : ℕ) (s : State) : Type 0 where
  pub sized : Sized s
  pub below : (q : ℕ) → q < n → get_or s.line q 0 ≤ q

pub formed_kept : {n : ℕ} {s r : State} → Formed n s → Kept s r → Formed n r
formed_kept f k = record { sized = k.sized f.sized; below = λ q h. le_trans (k.lower q) (f.below q h) }

-- what the arena's type says, and the cache's length
pub record Holds (recs : List ℕ) (n : ℕ) (s : State) : Type 0 where
  pub based : Based recs n
  pub formed : Formed n s

pub holds : (a : Arena) {cache : List (Option ObservableOrders)} {own : Own} → length cache ≡ 128
    → Holds a.records.bytes a.records.count (record { line = a.lines.holds; off = a.lines.off; cache = cache; own = own })
holds a cached =
    record {
      based = a.records.based;
      formed = record { sized = record { line = a.lines.sized; off = a.lines.off_sized; cache = cached }; below = a.below };
    }

-- The changes of the code's state ------------------------------------------------------------------------------------------------

-- what the looks own, and nothing that is lent
abbrev pub owning : Own → State → State
owning w s = record { line = s.line; off = s.off; cache = s.cache; own = w }

abbrev pub counted : State → State
counted s = owning (own.one_look s.own) s

abbrev pub answering : ObservableOrders → State → State
answering o s = owning (own.with_answer o s.own) s

abbrev pub fielded : ObservableOrders → State → State
fielded o s = owning (own.with_field o s.own) s

abbrev pub observing : ObservableOrders → State → State
observing o s = owning (own.with_observed o s.own) s

abbrev pub copied : ℕ → ℕ → State → State
copied p c s =
    record {
      line = set s.line p (get_or s.line c 0);
      off = set s.off p (get_or s.off c false);
      cache = s.cache;
      own = s.own;
    }

pub kept_owning : (w : Own) (s : State) → Kept s (owning w s)
kept_owning w s = record { sized = λ z. record { line = z.line; off = z.off; cache = z.cache }; lower = λ q. le_refl _ }

lower_at : (line : List ℕ) (p v : ℕ) → p < length line → v ≤ get_or line p 0 → (q : ℕ) (t : Bool) → eqb q p ≡ t → get_or (set line p v) q 0 ≤ get_or line q 0
lower_at line p v h k q true i = rw (eqb-true q p i) (rw (get_or-set_same line p v 0 h) k)
lower_at line p v h k q false i = rw (get_or-set_other line p q v 0 (eqb-false q p i)) (le_refl _)

pub kept_copied : (p c : ℕ) (s : State) → p < length s.line → get_or s.line c 0 ≤ get_or s.line p 0 → Kept s (copied p c s)
kept_copied p c s h k =
    record {
      sized = λ z. record { line = rw length-set z.line; off = rw length-set z.off; cache = z.cache };
      lower = λ q. lower_at s.line p (get_or s.line c 0) h k q (eqb q p) refl;
    }

module _ (tally : Tally) (recs : List ℕ) (n : ℕ) (s : State) where
  abbrev S : plan.Eos
  S = eos_of tally recs n s

  pub eos_cache : S.revisit_cache ≡ cache_of s.cache
  unfolding eos_of
  eos_cache = refl

  pub eos_field : S.struct_field_ordering ≡ s.own.field
  unfolding eos_of
  eos_field = refl

  pub eos_looks : S.tally.looks ≡ tally.looks + s.own.looks
  unfolding eos_of
  eos_looks = refl

  pub length_eos : length S.expr_arena ≡ n
  unfolding eos_of
  length_eos = length_arena recs s.line s.off n

  pub eos_counted : eos_of tally recs n (counted s) ≡ one_look S
  unfolding eos_of
  eos_counted =
      let more : tally.looks + (s.own.looks + 1) ≡ tally.looks + s.own.looks + 1 = omega arith in
      rw more

  pub eos_answering : (o : ObservableOrders) → eos_of tally recs n (answering o s) ≡ S
  unfolding eos_of
  eos_answering o = refl

  pub eos_fielded : (o : ObservableOrders) → eos_of tally recs n (fielded o s) ≡ with_field o S
  unfolding eos_of
  eos_fielded o = refl

  pub same_field : with_field s.own.field S ≡ S
  unfolding eos_of
  same_field = refl

  pub eos_observing : (o : ObservableOrders) → eos_of tally recs n (observing (s.own.observed ∪ o) s) ≡ internal_observe o S
  unfolding eos_of
  eos_observing o = refl

  pub eos_at : (p : ℕ) → p < n → expr_at S.expr_arena p ≡ held recs (get_or s.line p 0) (get_or s.off p false)
  unfolding eos_of
  eos_at p h = arena_at recs n s.line s.off p h

  pub eos_copied : (p c : ℕ) → p < n → c < n → p < length s.line → p < length s.off
      → eos_of tally recs n (copied p c s) ≡ with_arena (set S.expr_arena p (expr_at S.expr_arena c)) S
  unfolding eos_of
  eos_copied p c h k i j = rw (arena_copied recs n s.line s.off p h c k i j)

-- The end of a look --------------------------------------------------------------------------------------------------------------

module _ (s : State) (p : ℕ) (e : ExprRecord) (v : After) (field first : ObservableOrders) (within : p < 128) (off_size : length s.off ≡ 128)
    (cache_size : length s.cache ≡ 128)
    (loses : Bool) (so_far observed answer : ObservableOrders) (entry : Option ObservableOrders) (t : Own)
    (loses_is : loses ≡ (same_aexpr e.kind AExpr.Implode && yes? e.option && is_empty first))
    (so_far_is : so_far ≡ s.own.observed)
    (observed_is : observed ≡ so_far ∪ v.observes)
    (answer_is : answer ≡ s.own.answer)
    (entry_is : entry ≡ (if v.caches then Some answer else get_or s.cache p None))
    (t_is : t ≡ own.with_field field (own.with_observed observed s.own)) where
  abbrev ends : State
  ends = record { line = s.line; off = set s.off p (get_or s.off p false || loses); cache = set s.cache p entry; own = t }

  ends_is : (tally : Tally) (recs : List ℕ) (n : ℕ) (os : List ObservableOrders) → p < n → get_or os 0 ∅ ≡ first
      → looked_of tally recs n ends ≡ ended_by p (record_of e) (after_of v) field os (looked_of tally recs n s)
  unfolding eos_of look_ended
  ends_is tally recs n os h q =
      rw (
        q,
        ← loses_is,
        t_is,
        observed_is,
        so_far_is,
        entry_is,
        answer_is,
        arena_off recs n s.line s.off p h loses (rw off_size within),
        cache_written s.cache p (rw cache_size within) s.own.answer v.caches,
      )

  pub ended : Ended s p (record_of e) (after_of v) field first ends
  ended =
      record {
        is = ends_is;
        kept = record {
          sized = λ z. record { line = z.line; off = rw length-set z.off; cache = rw length-set z.cache };
          lower = λ q. le_refl _;
        };
      }

-- What was seen ------------------------------------------------------------------------------------------------------------------

pub begun_none : {l : ℕ} → Begun l 0 [] none_seen
begun_none =
    record {
      length_is = refl;
      sees = record { first = refl; second = refl; third = refl };
      most = le_refl _;
      near = λ h. absurd (omega arith);
    }

-- one answer more
module _ (l i : ℕ) (os : List ObservableOrders) (x r : Seen) (o : ObservableOrders) (q : ℕ) (b : Begun l i os x) (a : Adds x o q i r) (below : q < l) where
  num_is : r.acc.num_ordered_inputs ≡ (if is_empty o then x.acc.num_ordered_inputs else x.acc.num_ordered_inputs + 1)
  unfolding add
  num_is = ap (λ (y : ExprOrderAcc). y.num_ordered_inputs) a.acc

  last_is : r.acc.last_ordered_node ≡ (if is_empty o then x.acc.last_ordered_node else q)
  unfolding add
  last_is = ap (λ (y : ExprOrderAcc). y.last_ordered_node) a.acc

  most_next : (t : Bool) → is_empty o ≡ t → r.acc.num_ordered_inputs ≤ i + 1
  most_next true h = rw (num_is, h) (omega (arith, b.most))
  most_next false h = rw (num_is, h) (omega (arith, b.most))

  near_next : (t : Bool) → is_empty o ≡ t → 0 < r.acc.num_ordered_inputs → r.acc.last_ordered_node < l
  near_next true h k = rw (last_is, h) (b.near (rw (num_is, h) at k))
  near_next false h k = rw (last_is, h) below

  pub begun_next : Begun l (i + 1) (os ++ (o ∷ [])) r
  begun_next =
      record {
        length_is = length-append os (o ∷ []) ∙ rw b.length_is;
        sees = sees_next b.length_is b.sees a;
        most = most_next (is_empty o) refl;
        near = near_next (is_empty o) refl;
      }
