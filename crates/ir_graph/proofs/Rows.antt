-- The edges into a step are made in a row, where its inputs follow.
use Rattle.std.specs.Prelude.{if◌then◌else◌}
use mathlib.Core.Path.{◌≡◌, refl, sym, ap, ◌∙◌, subst}
use mathlib.Core.Logic.{inl, inr, ◌≢◌}
use Prim.Native.Nat.{ℕ, suc, ◌+◌, ◌≤◌, ◌<◌}
use native.Mathlib.Omega.{arith}
use native.Mathlib.Decide.{ℕ_discrete}
use mathlib.Core.Bool.{Bool, true, false, ◌||◌, not}
use mathlib.Core.List.{List, [], ◌∷◌, ◌++◌, map, append-nil, reverse}
use lib.Dec.{T, eqb, eqb→eq}
use lib.ListN.{length, get_or, take, drop, set, length-append, length-drop, length-map, length-set}
use lib.Seq.{take_all, take-append-le, drop-append-le, drop-append_seam, get_or-set_same, get_or-set_other}
use Rattle.plan.specs.Lists.{select, sum, numbered, times}
use Rattle.plan.specs.Sheet.{Step, step_at}
use Rattle.plan.specs.Faults.{named}
use Rattle.plan.specs.Graph.{Edge, graph, sinks, is_cache}
use Rattle.plan.specs.Visit.{is_into, no_edge}
use Rattle.storage.specs.Held.{steps_in}
use Rattle.storage.specs.declared.stored.Steps.{Steps}
use Rattle.storage.specs.Edges.{stored_edge, stored_edges, made, InARow}
use borrow.Author.Tests.{ne_eqb}
use Rattle.plan.proofs.Booleans.{equal}
use Rattle.plan.proofs.Counts.{false_of, true_of, sum_reverse, times_same, times_other, same_number, only}
use Rattle.claims.specs.Plan.{Plan}
use Rattle.claims.proofs.ByLine.{popped, hits, opens, following, edges_into}
use Rattle.claims.proofs.MergedPlan.{ordered_own}
use Rattle.claims.proofs.Plans.{cache_named}
use Rattle.claims.proofs.Reached.{followed_le}
use Rattle.claims.proofs.Hits.{hits_named}
use Rattle.claims.proofs.Visits.{length_numbered}
use Rattle.claims.proofs.Places.{opened}
use Rattle.ir_graph.proofs.Linking.{length_edges}
use Rattle.ir_graph.proofs.There.{edge_there}
use Rattle.plan.proofs.ListLaws.{select_append}
use Rattle.ir_graph.proofs.Selected.{passes_in, passes_only}
use Rattle.ir_graph.proofs.SecondPass.{Growing, past_of, rest, new, counted_top, following_new, top_there, grown}

-- Edges into a step --------------------------------------------------------------------------------------------------------------

made_from : ℕ → ℕ → List ℕ → List Edge
made_from n k ms = map (λ (j, m). made n j m) (numbered k ms)

own_from : (n k : ℕ) (ms : List ℕ) → select (is_into n) (made_from n k ms) ≡ made_from n k ms
unfolding select numbered made_from
own_from n k [] = refl
own_from n k (m ∷ ms) = rw (same_number n) (ap (λ (r : List Edge). made n k m ∷ r) (own_from n (suc k) ms))

other_from : (n m k : ℕ) (ms : List ℕ) → m ≢ n → select (is_into m) (made_from n k ms) ≡ []
unfolding select numbered made_from
other_from n m k [] h = refl
other_from n m k (x ∷ ms) h = rw (ne_eqb n m (λ e. h (sym e))) (other_from n m (suc k) ms h)

own_edges : (n : ℕ) (ms : List ℕ) → select (is_into n) (edges_into n ms) ≡ edges_into n ms
unfolding edges_into made_from
own_edges n ms = own_from n 0 ms

other_edges : (n m : ℕ) (ms : List ℕ) → m ≢ n → select (is_into m) (edges_into n ms) ≡ []
unfolding edges_into made_from
other_edges n m ms h = other_from n m 0 ms h

no_edges : (n : ℕ) → edges_into n [] ≡ []
unfolding edges_into numbered
no_edges n = refl

length_made : (n : ℕ) (ms : List ℕ) → length (edges_into n ms) ≡ length ms
unfolding edges_into
length_made n ms = simp (length-map, length_numbered)

-- Rows ---------------------------------------------------------------------------------------------------------------------------

-- the edges into the step m, by slot, are those from the number f on
pub record InRow (ps : List Step) (es : List Edge) (m f : ℕ) : Type 0 where
  pub row : select (is_into m) es ≡ take (length (step_at ps m).inputs) (drop f es)
  pub fits : f + length (step_at ps m).inputs ≤ length es

-- how many places a step has in all
abbrev total : List Step → ℕ → ℕ
total ps m = times m (sinks ps) + times m (named ps)

-- a step that has all its places behind it has its edges in a row from the number that `firsts` has for it; the others have none yet
pub record Rows (ps : List Step) (gone : List ℕ) (es : List Edge) (firsts : List ℕ) : Type 0 where
  pub closed : (m : ℕ) → m < length ps → total ps m ≤ times m gone → InRow ps es m (get_or firsts m 0)
  pub unmade : (m : ℕ) → times m gone < total ps m → select (is_into m) es ≡ []
  pub size : length firsts ≡ 32

pub no_rows : (ps : List Step) (plan : Plan ps) (firsts : List ℕ) → length firsts ≡ 32 → ((m : ℕ) → get_or firsts m 0 ≡ 0) → Rows ps [] [] firsts
unfolding sum select
no_rows ps plan firsts s z =
    record {
      closed =
          λ m l h.
          elim (plan.rooted m l) [
            | inl r ↦ absurd (omega arith)
            | inr e ↦ record { row = rw e; fits = omega (arith, z m, ap length e) }
          ];
      unmade = λ m h. refl;
      size = s;
    }

module _ (stored : Steps) (plan : Plan (steps_in stored)) where
  module _ (places counts : List ℕ) (es : List Edge) (i : ℕ) (g : Growing (steps_in stored) places counts es i) (h : i < length places) where
    abbrev all_steps : List Step
    all_steps = steps_in stored

    abbrev here : ℕ
    here = get_or places i 0

    abbrev before : List ℕ
    before = past_of places i

    abbrev inputs : List ℕ
    inputs = new stored plan places counts es i g h

    most : times here before + 1 ≤ total all_steps here
    most =
        let c = counted_top stored plan places counts es i g h in
        omega (
          arith,
          c (only here),
          followed_le (only here) all_steps (opened all_steps before),
          times_same here (rest stored plan places counts es i g h),
        )

    -- the inputs follow at the last place
    follow_if : (b : Bool) → opens all_steps (popped all_steps) before here ≡ b → inputs ≡ (if b then (step_at all_steps here).inputs else [])
    unfolding following
    follow_if b e = sym (following_new stored plan places counts es i g h) ∙ ap (λ (a : Bool). if a then (step_at all_steps here).inputs else []) e

    opens_last : (total all_steps here ≤ times here before + 1 → opens all_steps (popped all_steps) before here ≡ true)
        × (times here before + 1 < total all_steps here → opens all_steps (popped all_steps) before here ≡ false)
    unfolding opens
    opens_last = by (is_cache all_steps here) (plan.once here) (cache_named all_steps plan here) (hits_named all_steps plan here)
      where
        k : ℕ
        k = times here before + 1

        by : (b : Bool) → (T (not b) → total all_steps here ≤ 1) → (T b → times here (sinks all_steps) ≡ 0)
            → (T b → hits (popped all_steps) here ≡ times here (named all_steps))
            → (total all_steps here ≤ k → (not b || eqb k (hits (popped all_steps) here)) ≡ true)
            × (k < total all_steps here → (not b || eqb k (hits (popped all_steps) here)) ≡ false)
        by true o z e = (
          λ l. true_of (eqb k (hits (popped all_steps) here)) (equal k (hits (popped all_steps) here) (omega (arith, most, z tt, e tt))),
          λ l. false_of (eqb k (hits (popped all_steps) here))
              (λ t. let x = eqb→eq k (hits (popped all_steps) here) t in omega (arith, z tt, e tt)),
        )
        by false o z e = (λ l. refl, λ l. absurd (omega (arith, most, o tt)))

    abbrev made_here : List Edge
    made_here = edges_into here inputs

    kept : (m f : ℕ) → m ≢ here → InRow all_steps es m f → InRow all_steps (es ++ made_here) m f
    kept m f d r =
        let k = length (step_at all_steps m).inputs in
        record {
          row =
              select_append (is_into m) es made_here
              ∙ ap (λ (l : List Edge). select (is_into m) es ++ l) (other_edges here m inputs d)
              ∙ append-nil (select (is_into m) es)
              ∙ r.row
              ∙ sym (take-append-le k (drop f es) made_here (simp length-drop (omega (arith, r.fits))))
              ∙ ap (λ (l : List Edge). take k l) (sym (drop-append-le f es made_here (omega (arith, r.fits))));
          fits = simp length-append (omega (arith, r.fits));
        }

    opened_now : select (is_into here) es ≡ [] → inputs ≡ (step_at all_steps here).inputs → InRow all_steps (es ++ made_here) here (length es)
    opened_now none v =
        let size : length made_here ≡ length (step_at all_steps here).inputs = length_made here inputs ∙ ap length v in
        record {
          row =
              rw (select_append (is_into here) es made_here, none, own_edges here inputs, drop-append_seam es made_here)
              (sym (take_all (length (step_at all_steps here).inputs) made_here (omega arith)));
          fits = simp length-append (omega arith);
        }

    pub rows_next : (firsts gone : List ℕ) → gone ≡ here ∷ before → Rows all_steps before es firsts
        → Rows all_steps gone (es ++ made_here) (set firsts here (length es))
    rows_next firsts gone v r =
        record {
          closed = λ m l t. closed_next m (ℕ_discrete m here) l (rw v at t);
          unmade = λ m t. open_next m (ℕ_discrete m here) (rw v at t);
          size = length-set firsts here (length es) ∙ r.size;
        }
      where
        there : here < 32
        there = omega (arith, top_there stored plan places counts es i g h, stored.held.few)

        closed_next : (m : ℕ) → Dec (m ≡ here) → m < length all_steps → total all_steps m ≤ times m (here ∷ before)
            → InRow all_steps (es ++ made_here) m (get_or (set firsts here (length es)) m 0)
        closed_next m (yes e) l t =
            let t' = subst (λ x. total all_steps x ≤ times x (here ∷ before)) e t in
            subst (λ x. InRow all_steps (es ++ made_here) x (get_or (set firsts here (length es)) x 0)) (sym e)
            (rw (get_or-set_same firsts here (length es) 0 (omega (arith, r.size, there)))
            (opened_now (r.unmade here (omega (arith, most))) (follow_if true (opens_last.0 (omega (arith, times_same here before))))))
        closed_next m (no d) l t =
            rw (get_or-set_other firsts here m (length es) 0 d)
            (kept m (get_or firsts m 0) d (r.closed m l (omega (arith, times_other m here before d))))

        open_next : (m : ℕ) → Dec (m ≡ here) → times m (here ∷ before) < total all_steps m → select (is_into m) (es ++ made_here) ≡ []
        open_next m (yes e) t =
            let t' = subst (λ x. times x (here ∷ before) < total all_steps x) e t in
            let nothing = follow_if false (opens_last.1 (omega (arith, times_same here before))) in
            subst (λ x. select (is_into x) (es ++ made_here) ≡ []) (sym e)
            (rw (nothing, no_edges here, append-nil es) (r.unmade here (omega (arith, most))))
        open_next m (no d) t =
            select_append (is_into m) es made_here
            ∙ rw (r.unmade m (omega (arith, times_other m here before d))) (other_edges here m inputs d)

  -- in the end every step has all its places behind it
  pub all_rows : (places counts firsts : List ℕ) (es : List Edge) (i : ℕ) → Growing (steps_in stored) places counts es i → length places ≤ i
      → Rows (steps_in stored) (past_of places i) es firsts
      → (m : ℕ) → m < length (steps_in stored) → InRow (steps_in stored) es m (get_or firsts m 0)
  all_rows places counts firsts es i g h r m l =
      let q = steps_in stored in
      let (a, b) = grown stored plan g h in
      let all = (ordered_own q plan).placed_all (only m) in
      let gone : times m (past_of places i) ≡ times m (graph q).0 =
      ap (λ (l : List ℕ). times m (reverse l)) (take_all i places h) ∙ sum_reverse (only m) places ∙ ap (times m) a in
      r.closed m l (omega arith)

-- Where they are stored ----------------------------------------------------------------------------------------------------------

module _ (ps : List Step) (ends edges : List ℕ) (n m : ℕ) (r : InRow ps (stored_edges ends edges n) m (get_or ends (512 + m) 0)) where
  abbrev es : List Edge
  es = stored_edges ends edges n

  abbrev first : ℕ
  first = get_or ends (512 + m) 0

  abbrev many : ℕ
  many = length (step_at ps m).inputs

  into_at : (k : ℕ) → k < n → is_into m (get_or es k no_edge) ≡ eqb (get_or ends k 0) m
  unfolding stored_edge
  into_at k h = ap (is_into m) (edge_there ends edges n k h)

  in_run : (k : ℕ) → k < n → get_or ends k 0 ≡ m → (first ≤ k) × (k < first + many)
  in_run k h v = passes_only (is_into m) es no_edge first many r.row k (rw (length_edges ends edges n) h) (rw (into_at k h) (equal (get_or ends k 0) m v))

  pub in_a_row : InARow ends n m
  in_a_row =
      let size = length_edges ends edges n in
      record {
        few = omega (arith, r.fits);
        from = λ k h v. (in_run k h v).0;
        row =
            λ j k a b h v.
            let last = (in_run k h v).1 in
            eqb→eq (get_or ends j 0) m
            (rw (into_at j (omega arith)) at (passes_in (is_into m) es no_edge first many r.row j r.fits a (omega arith)));
      }
