-- What the code's look asks and gives, a law for each way through it.
use Rattle.std.specs.Prelude.{if◌then◌else◌}
use mathlib.Core.Path.{◌≡◌, refl, sym, ap, ◌∙◌}
use Prim.Native.Nat.{ℕ, zero, suc, ◌+◌, ◌*◌, ◌<◌, ◌≤◌, ◌^◌}
use native.Mathlib.Nat.{le_of_lt, lt_of_le_of_lt, lt_of_lt_of_le}
use native.Mathlib.Omega.{arith}
use mathlib.Core.Bool.{Bool, true, false, ◌&&◌, ◌||◌, not, false≢true}
use mathlib.Core.List.{List, [], ◌∷◌}
use Rattle.std.specs.Prelude.{Option, None, Some}
use Rattle.std.proofs.Math.Option as definition
use lib.ListN.{length, get_or}
use lib.Seq.{get_or-set_same}
use borrow.Author.Tests.{eqb-true}
use Rattle.plan.specs.declared.aexpr.AExpr.{AExpr}
use Rattle.plan.specs.declared.looks.Before.{Before}
use Rattle.plan.specs.declared.orders.ExprOrderAcc.{ExprOrderAcc}
use Rattle.plan.specs.declared.orders.ObservableOrders.{ObservableOrders}
use Rattle.plan.specs.declared.tally.Tally.{Tally}
use Rattle.plan.specs.Kinds.{same_aexpr}
use Rattle.plan.specs.Lists.{all?}
use Rattle.plan.specs.Sheet.{Expr, expr_at}
use Rattle.plan.specs.Orders.{single}
use Rattle.plan.specs.Look.{one_look, before, check_return_cached, is_replaced, replace_by_input, after, look_again, look_along_children, look_ended, look}
use Rattle.plan.specs.Look as plan
use Rattle.storage.specs.Stored.{stored_expr}
use Rattle.expr.specs.declared.after.After.{After}
use Rattle.storage.specs.declared.exprs.ExprRecord.{ExprRecord}
use Rattle.plan.specs.Refusals.{option_of}
use Rattle.expr.specs.Cache.{cache_of}
use Rattle.storage.specs.Exprs.{record_of, held, IsHeld}
use Rattle.storage.specs.Based.{Falls, sorts, Based}
use Rattle.expr.specs.State.{State, eos_of, Kept, Readable, preserves, is_replaced_line}
use Rattle.expr.specs.Tables.{output_of, after_of, answers}
use Rattle.expr.specs.Contract.{Walked, looked_of, LookAsks, LookGives, answer_by, AgainAsks, AgainGives, ended_by, Ended, Answers, reach, AlongAsks, IsWalk, AlongGives}
use Rattle.plan.proofs.Booleans.{and_left, and_right}
use Rattle.expr.proofs.Records.{above_least}
use Rattle.expr.proofs.States.{Formed, Holds, kept_trans, formed_kept, counted, answering, copied, kept_owning, kept_copied, eos_cache, eos_field, eos_looks, eos_counted, eos_answering, same_field, eos_at, eos_copied}
use Rattle.expr.proofs.Laws.{finish, after_answers, look_hit, look_copied, look_rest, up_finish, up_look, up_count}
use Rattle.expr.proofs.Along.{after_seen}

-- Of Bools and lists -------------------------------------------------------------------------------------------------------------

all_same : (f g : ℕ → Bool) (xs : List ℕ) → ((k : ℕ) → k < length xs → f (get_or xs k 0) ≡ g (get_or xs k 0)) → all? f xs ≡ all? g xs
unfolding all?
all_same f g [] h = refl
all_same f g (x ∷ xs) h = rw (h 0 (omega arith), all_same f g xs (λ k i. h (suc k) (omega arith)))

-- a second look needs a single ordered child
again_single : (e : Expr) (allow : Bool) (field : ObservableOrders) (os : List ObservableOrders) (x : ExprOrderAcc) (k : AExpr) → (after e allow field os x k).again ≡ true → single x ≡ true
unfolding after
again_single e allow field os x AExpr.Column h = absurd (false≢true h)
again_single e allow field os x AExpr.Literal h = absurd (false≢true h)
again_single e allow field os x AExpr.Element h = absurd (false≢true h)
again_single e allow field os x AExpr.StructField h = absurd (false≢true h)
again_single e allow field os x AExpr.Len h = absurd (false≢true h)
again_single e allow field os x AExpr.BinaryExpr h = and_right (not x.saw_mixed_inputs) (single x) (and_left (not x.saw_mixed_inputs && single x) _ h)
again_single e allow field os x AExpr.Ternary h = and_right (not x.saw_mixed_inputs) (single x) (and_left (not x.saw_mixed_inputs && single x) _ h)
again_single e allow field os x AExpr.Cast h = absurd (false≢true h)
again_single e allow field os x AExpr.Explode h = absurd (false≢true h)
again_single e allow field os x AExpr.Sort h = absurd (false≢true h)
again_single e allow field os x AExpr.SortBy h = absurd (false≢true h)
again_single e allow field os x AExpr.Filter h = and_right (not x.saw_mixed_inputs) (single x) (and_left (not x.saw_mixed_inputs && single x) _ h)
again_single e allow field os x AExpr.Gather h = absurd (false≢true h)
again_single e allow field os x AExpr.Slice h = absurd (false≢true h)
again_single e allow field os x AExpr.Eval h = absurd (false≢true h)
again_single e allow field os x AExpr.StructEval h = and_right (not x.saw_mixed_inputs) (single x) (and_left (not x.saw_mixed_inputs && single x) _ h)
again_single e allow field os x AExpr.Over h = absurd (false≢true h)
again_single e allow field os x AExpr.Rolling h = absurd (false≢true h)
again_single e allow field os x AExpr.MinBy h = absurd (false≢true h)
again_single e allow field os x AExpr.Function h = and_left (single x) _ (and_left (single x && _) _ h)
again_single e allow field os x AExpr.AnonymousAgg h = absurd (false≢true h)
again_single e allow field os x AExpr.First h = absurd (false≢true h)
again_single e allow field os x AExpr.Min h = absurd (false≢true h)
again_single e allow field os x AExpr.Implode h = absurd (false≢true h)
again_single e allow field os x AExpr.AggGroups h = absurd (false≢true h)

-- A base record ------------------------------------------------------------------------------------------------------------------

pub held_children : (recs : List ℕ) (l : ℕ) (off : Bool) → (held recs l off).children ≡ (stored_expr recs l).children
unfolding held
held_children recs l true = refl
held_children recs l false = refl

pub held_kind : (recs : List ℕ) (l : ℕ) (off : Bool) → (held recs l off).kind ≡ (stored_expr recs l).kind
unfolding held
held_kind recs l true = refl
held_kind recs l false = refl

held_length_preserving : (recs : List ℕ) (l : ℕ) (off : Bool) → (held recs l off).length_preserving ≡ (stored_expr recs l).length_preserving
unfolding held
held_length_preserving recs l true = refl
held_length_preserving recs l false = refl

module _ (recs : List ℕ) (n : ℕ) (s : State) (p : ℕ) (based : Based recs n) (formed : Formed n s) (within : p < n) where
  pub line_below : get_or s.line p 0 < n
  line_below = lt_of_le_of_lt (formed.below p within) within

  preserves_is : (tally : Tally) → (expr_at (eos_of tally recs n s).expr_arena p).length_preserving ≡ preserves recs s.line p
  preserves_is tally = rw (eos_at tally recs n s p within, held_length_preserving recs (get_or s.line p 0) (get_or s.off p false))

module _ (recs : List ℕ) (n : ℕ) (s : State) (p : ℕ) (allow : Bool) (holds : Holds recs n s) (r : LookAsks recs n s p allow) where
  abbrev S : Tally → plan.Eos
  S tally = eos_of tally recs n s

  abbrev l : ℕ
  l = get_or s.line p 0

  l_below : l < n
  l_below = line_below recs n s p holds.based holds.formed r.within

  pub count_fits : s.own.looks + 1 < 2 ^ 58
  count_fits = go r.fuel r.enough r.fits
    where
      go : (f : ℕ) → l < f → (look f allow p (S r.tally)).1.tally.looks < 2 ^ 58 → s.own.looks + 1 < 2 ^ 58
      go zero h k = absurd (omega arith)
      go (suc f) h k = omega (arith, eos_looks r.tally recs n s, up_count f allow p (S r.tally), k)

  -- its record is e
  module _ (e : ExprRecord) (is_e : IsHeld recs l (get_or s.off p false) e) where
    abbrev E : Expr
    E = record_of e

    E_is : (tally : Tally) → E ≡ expr_at (S tally).expr_arena p
    E_is tally = is_e.is ∙ sym (eos_at tally recs n s p r.within)

    children_is : E.children ≡ (stored_expr recs l).children
    children_is = ap (λ (x : Expr). x.children) is_e.is ∙ held_children recs l (get_or s.off p false)

    kind_is : E.kind ≡ (stored_expr recs l).kind
    kind_is = ap (λ (x : Expr). x.kind) is_e.is ∙ held_kind recs l (get_or s.off p false)

    e_falls : Falls l E.children
    e_falls = rw children_is (holds.based.falls l l_below)

    pub e_reach : reach e ≤ l
    e_reach = above_least E.children l e_falls

    pub e_readable : Readable s.line E.children
    e_readable =
        record {
          child = λ k h. omega (arith, e_falls.child k h, l_below, holds.based.few);
          held = λ k h.
              let c = get_or E.children k 0 in
              omega (arith, e_falls.child k h, l_below, holds.based.few, holds.formed.below c (omega (arith, e_falls.child k h, l_below)));
        }

    replaced_is : (tally : Tally) → is_replaced (S tally).expr_arena E allow ≡ is_replaced_line recs s.line E allow
    unfolding is_replaced
    replaced_is tally =
        rw (
        all_same (λ q. (expr_at (S tally).expr_arena q).length_preserving) (preserves recs s.line) E.children
        (λ k h. preserves_is recs n s (get_or E.children k 0) holds.based holds.formed (omega (arith, e_falls.child k h, l_below)) tally)
        )

    module _ (b : Before) (b_is : b ≡ before E allow e.kind) where
      abbrev asked : Tally → definition.Option ObservableOrders
      asked tally = check_return_cached (before E allow e.kind) p (one_look (S tally))

      either : (c : Bool) (entry : Option ObservableOrders) → option_of (if c then entry else None) ≡ (if c then option_of entry else definition.none)
      either true entry = refl
      either false entry = refl

      asked_is : (hit : Option ObservableOrders) → hit ≡ (if b.checks then get_or s.cache p None else None) → (tally : Tally) → asked tally ≡ option_of hit
      unfolding check_return_cached cache_of
      asked_is hit h tally = rw (← b_is, eos_cache tally recs n s, h) (sym (either b.checks (get_or s.cache p None)))

      -- check_return_cached!
      pub gives_hit : (hit : Option ObservableOrders) → hit ≡ (if b.checks then get_or s.cache p None else None) → (o : ObservableOrders) → hit ≡ Some o
          → LookGives recs n s p allow (answering o (counted s))
      gives_hit hit q o h = record { is = hit_is; kept = kept_owning _ s }
        where
          hit_is : (tally : Tally) (f : ℕ) → l < f → looked_of tally recs n (answering o (counted s)) ≡ look f allow p (S tally)
          hit_is tally zero i = absurd (omega arith)
          hit_is tally (suc f) i =
              rw (eos_answering tally recs n (counted s) o, eos_counted tally recs n s)
              (sym (look_hit f allow p (S tally) E (E_is tally) o (asked_is hit q tally ∙ ap option_of h)))

      module _ (hit : Option ObservableOrders) (hit_is : hit ≡ (if b.checks then get_or s.cache p None else None)) (miss : hit ≡ None) where
        asked_none : (tally : Tally) → asked tally ≡ definition.none
        asked_none tally = asked_is hit hit_is tally ∙ ap option_of miss

        -- the first child's record takes the place of e
        module _ (x : Bool) (x_is : x ≡ is_replaced_line recs s.line E allow) (taken : x ≡ true) (c : ℕ) (c_is : c ≡ get_or E.children 0 0) where
          gone : is_replaced_line recs s.line E allow ≡ true
          gone = sym x_is ∙ taken

          is_sorting : (t a : Bool) (k : AExpr) → (t && (same_aexpr k AExpr.Sort || (same_aexpr k AExpr.SortBy && a))) ≡ true → sorts k ≡ true
          is_sorting t a k h = go (same_aexpr k AExpr.Sort) (same_aexpr k AExpr.SortBy) (and_right t _ h)
            where
              go : (y z : Bool) → (y || (z && a)) ≡ true → (y || z) ≡ true
              go true z h = refl
              go false true h = refl
              go false false h = h

          some_child : 0 < length E.children
          some_child =
              rw children_is
              (holds.based.sorted l l_below (rw (← kind_is) (is_sorting allow (all? (preserves recs s.line) E.children) E.kind gone)))

          c_falls : c < l
          c_falls = rw c_is (e_falls.child 0 some_child)

          pub child_128 : c < 128
          child_128 = omega (arith, c_falls, l_below, holds.based.few)

          c_within : c < n
          c_within = omega (arith, c_falls, l_below)

          abbrev t₁ : State
          t₁ = copied p c (counted s)

          p_128 : p < 128
          p_128 = omega (arith, r.within, holds.based.few)

          here : get_or t₁.line p 0 ≡ get_or s.line c 0
          here = get_or-set_same s.line p (get_or s.line c 0) 0 (rw holds.formed.sized.line p_128)

          pub copy_falls : get_or t₁.line p 0 < l
          copy_falls = rw here (lt_of_le_of_lt (holds.formed.below c c_within) c_falls)

          pub copy_kept : Kept s t₁
          copy_kept =
              kept_trans (kept_owning _ s)
              (kept_copied p c (counted s) (rw holds.formed.sized.line p_128) (le_of_lt (lt_of_le_of_lt (holds.formed.below c c_within) c_falls)))

          t₁_is : (tally : Tally) → eos_of tally recs n t₁ ≡ replace_by_input p E (one_look (S tally))
          t₁_is tally =
              eos_copied tally recs n (counted s) p c r.within c_within (rw holds.formed.sized.line p_128) (rw holds.formed.sized.off p_128)
              ∙ rw (eos_counted tally recs n s, c_is)

          look_is : (tally : Tally) (f : ℕ) → look (suc f) allow p (S tally) ≡ look f allow p (eos_of tally recs n t₁)
          look_is tally f = look_copied f allow p (S tally) E (E_is tally) (asked_none tally) (replaced_is tally ∙ gone) ∙ rw (t₁_is tally)

          pub copy_asks : LookAsks recs n t₁ p allow
          copy_asks = go r.fuel r.enough r.fits
            where
              go : (f : ℕ) → l < f → (look f allow p (S r.tally)).1.tally.looks < 2 ^ 58 → LookAsks recs n t₁ p allow
              go zero h k = absurd (omega arith)
              go (suc f) h k =
                  record {
                    cached = r.cached;
                    within = r.within;
                    tally = r.tally;
                    fuel = f;
                    enough = omega (arith, copy_falls, h);
                    fits = rw (look_is r.tally f) at k;
                  }

          pub gives_copy : (u : State) → LookGives recs n t₁ p allow u → LookGives recs n s p allow u
          gives_copy u g = record { is = copy_is; kept = kept_trans copy_kept g.kept }
            where
              copy_is : (tally : Tally) (f : ℕ) → l < f → looked_of tally recs n u ≡ look f allow p (S tally)
              copy_is tally zero h = absurd (omega arith)
              copy_is tally (suc f) h = g.is tally f (omega (arith, copy_falls, h)) ∙ sym (look_is tally f)

        -- the record stays
        module _ (x : Bool) (x_is : x ≡ is_replaced_line recs s.line E allow) (left : x ≡ false) where
          stays : is_replaced_line recs s.line E allow ≡ false
          stays = sym x_is ∙ left

          abbrev D : Tally → ℕ → Answers
          D tally f = look_along_children (look f) E b (eos_of tally recs n (counted s))

          rest_is : (tally : Tally) (f : ℕ) → look (suc f) allow p (S tally) ≡ finish (look f) p E s.own.field (D tally f) (after_answers allow E s.own.field (D tally f))
          rest_is tally f =
              look_rest f allow p (S tally) E (E_is tally) (asked_none tally) (replaced_is tally ∙ stays)
              ∙ rw (b_is, eos_counted tally recs n s, eos_field tally recs n s)

          -- along the children
          pub along_asks : AlongAsks recs n (counted s) e b
          along_asks = go r.fuel r.enough r.fits
            where
              go : (f : ℕ) → l < f → (look f allow p (S r.tally)).1.tally.looks < 2 ^ 58 → AlongAsks recs n (counted s) e b
              go zero h k = absurd (omega arith)
              go (suc f) h k =
                  let d = D r.tally f in
                  record {
                    cached = r.cached;
                    shaped = is_e.shaped;
                    within = omega (arith, e_reach, l_below);
                    tally = r.tally;
                    fuel = f;
                    enough = omega (arith, e_reach, h);
                    fits = lt_of_le_of_lt (up_finish (look f) (up_look f) p E s.own.field d (after_answers allow E s.own.field d)) (rw (rest_is r.tally f) at k);
                  }

          module _ (w : Walked) (g : AlongGives recs n (counted s) e b w) (v : After)
              (v_is : after_of v ≡ after E allow s.own.field (answers w.seen) w.seen.acc e.kind) where
            walk_is : (tally : Tally) (f : ℕ) → l ≤ f → IsWalk tally recs n e.children.count w (D tally f)
            walk_is tally f h = g.is tally f (omega (arith, e_reach, h))

            V_walk : (tally : Tally) (f : ℕ) → l ≤ f → after_answers allow E s.own.field (D tally f) ≡ after_of v
            V_walk tally f h =
                let is = walk_is tally f h in
                after_seen E allow s.own.field (D tally f).0 w.seen (D tally f).1 is.sees e.kind
                ∙ rw is.acc (sym v_is)

            look_walk : (tally : Tally) (f : ℕ) → l ≤ f → look (suc f) allow p (S tally) ≡ finish (look f) p E s.own.field (D tally f) (after_of v)
            look_walk tally f h = rest_is tally f ∙ ap (finish (look f) p E s.own.field (D tally f)) (V_walk tally f h)

            walk_kept : Kept s w.state
            walk_kept = kept_trans (kept_owning _ s) g.kept

            walk_formed : Formed n w.state
            walk_formed = formed_kept holds.formed walk_kept

            -- the single ordered child once more
            abbrev node : ℕ
            node = w.seen.acc.last_ordered_node

            one_ordered : v.again ≡ true → w.seen.acc.num_ordered_inputs ≡ 1
            one_ordered twice =
                eqb-true w.seen.acc.num_ordered_inputs 1
                (again_single E allow s.own.field (answers w.seen) w.seen.acc e.kind
                (ap (λ (x : plan.After). x.again) (sym v_is) ∙ twice))

            node_near : v.again ≡ true → node < l
            node_near twice = lt_of_lt_of_le (g.near (omega (arith, one_ordered twice))) e_reach

            again_below : v.again ≡ true → get_or w.state.line node 0 < l
            again_below twice = lt_of_le_of_lt (walk_formed.below node (omega (arith, node_near twice, l_below))) (node_near twice)

            pub again_falls : (if v.again then get_or w.state.line node 0 * 2 + 2 else 0) < l * 2 + 1
            again_falls = go v.again refl
              where
                go : (t : Bool) → v.again ≡ t → (if t then get_or w.state.line node 0 * 2 + 2 else 0) < l * 2 + 1
                go true h = omega (arith, again_below h)
                go false h = omega arith

            -- the definition's, from the code's state
            abbrev second : Tally → ℕ → ObservableOrders × plan.Eos
            second tally f = look_again (look f) v.again w.seen.acc (eos_of tally recs n w.state)

            finish_is : (tally : Tally) (f : ℕ) → l ≤ f → (t : Bool) → v.again ≡ t
                → finish (look f) p E s.own.field (D tally f) (after_of v)
                ≡ ended_by p E (after_of v) s.own.field (D tally f).0 (answer_by (after_of v) (second tally f))
            unfolding look_again look_ended
            finish_is tally f h true twice =
                let is = walk_is tally f h in
                let entered : (D tally f).2 ≡ eos_of tally recs n w.state =
                is.state ∙ rw (is.same (omega (arith, one_ordered twice, g.most))) (same_field tally recs n w.state) in
                rw (is.acc, entered)
            finish_is tally f h false once = let is = walk_is tally f h in rw (once, is.state)

            whole : (tally : Tally) (f : ℕ) → l ≤ f
                → look (suc f) allow p (S tally) ≡ ended_by p E (after_of v) s.own.field (D tally f).0 (answer_by (after_of v) (second tally f))
            whole tally f h = look_walk tally f h ∙ finish_is tally f h v.again refl

            again_looks : v.again ≡ true → (tally : Tally) (f : ℕ) → l ≤ f
                → (look (suc f) allow p (S tally)).1.tally.looks ≡ (look f true node (eos_of tally recs n w.state)).1.tally.looks
            unfolding look_again look_ended
            again_looks twice tally f h = ap (λ (x : ObservableOrders × plan.Eos). x.1.tally.looks) (whole tally f h) ∙ rw twice

            pub again_asks : AgainAsks recs n w.state v node
            again_asks = record { look = λ twice. go twice r.fuel r.enough r.fits }
              where
                go : v.again ≡ true → (f : ℕ) → l < f → (look f allow p (S r.tally)).1.tally.looks < 2 ^ 58 → LookAsks recs n w.state node true
                go twice zero h k = absurd (omega arith)
                go twice (suc f) h k =
                    record {
                      cached = walk_formed.sized.cache;
                      within = omega (arith, node_near twice, l_below);
                      tally = r.tally;
                      fuel = f;
                      enough = omega (arith, again_below twice, h);
                      fits = rw (again_looks twice r.tally f (omega (arith, h))) at k;
                    }

            -- u is the state after it, t at the end of the look at p
            module _ (u : State) (g₂ : AgainGives recs n w.state v node u) (field : ObservableOrders) (field_is : field ≡ s.own.field)
                (t : State) (t_is : Ended u p E (after_of v) field w.seen.first t) where
              whole_is : (tally : Tally) (f : ℕ) → l < f → looked_of tally recs n t ≡ look f allow p (S tally)
              whole_is tally zero h = absurd (omega arith)
              whole_is tally (suc f) h =
                  let k : l ≤ f = omega (arith, h) in
                  t_is.is tally recs n (D tally f).0 r.within (walk_is tally f k).sees.first
                  ∙ rw field_is (ap (ended_by p E (after_of v) s.own.field (D tally f).0) (g₂.is tally f (λ twice. omega (arith, again_below twice, k)) w.seen.acc refl))
                  ∙ sym (whole tally f k)

              pub gives_whole : LookGives recs n s p allow t
              gives_whole = record { is = whole_is; kept = kept_trans walk_kept (kept_trans g₂.kept t_is.kept) }

-- The second look ----------------------------------------------------------------------------------------------------------------

module _ (recs : List ℕ) (n : ℕ) (s : State) (v : After) (node : ℕ) where
  module _ (twice : v.again ≡ true) (u : State) (g : LookGives recs n s node true u) (o : ObservableOrders)
      (o_is : o ≡ output_of v.answer v.answer_again u.own.answer) where
    twice_is : (tally : Tally) (f : ℕ) → (v.again ≡ true → get_or s.line node 0 < f) → (x : ExprOrderAcc) → x.last_ordered_node ≡ node
        → looked_of tally recs n (answering o u) ≡ answer_by (after_of v) (look_again (look f) v.again x (eos_of tally recs n s))
    unfolding look_again
    twice_is tally f h x q =
        rw (twice, q, o_is, eos_answering tally recs n u (output_of v.answer v.answer_again u.own.answer))
        (ap (λ (z : ObservableOrders × plan.Eos). (output_of v.answer v.answer_again z.0, z.1)) (g.is tally f (h twice)))

    pub gives_twice : AgainGives recs n s v node (answering o u)
    gives_twice = record { is = twice_is; kept = kept_trans g.kept (kept_owning _ u) }

  module _ (once : v.again ≡ false) where
    once_is : (tally : Tally) (f : ℕ) → (v.again ≡ true → get_or s.line node 0 < f) → (x : ExprOrderAcc) → x.last_ordered_node ≡ node
        → looked_of tally recs n (answering v.answer s) ≡ answer_by (after_of v) (look_again (look f) v.again x (eos_of tally recs n s))
    unfolding look_again
    once_is tally f h x q = rw (once, eos_answering tally recs n s v.answer)

    pub gives_once : AgainGives recs n s v node (answering v.answer s)
    gives_once = record { is = once_is; kept = kept_owning _ s }
