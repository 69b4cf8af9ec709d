-- What the downward walk keeps of the links between sorts and edges.
use Rattle.std.specs.Prelude.{if◌then◌else◌}
use mathlib.Core.Path.{◌≡◌, refl, ap, sym, ◌∙◌, subst}
use mathlib.Core.Logic.{inl, inr, ◌≢◌}
use Prim.Native.Nat.{ℕ, ◌+◌, ◌≤◌}
use native.Mathlib.Omega.{arith}
use native.Mathlib.Decide.{ℕ_discrete}
use mathlib.Core.Bool.{false, and-false}
use mathlib.Core.List.{List, [], ◌∷◌, map, Memᴰ}
use mathlib.Core.Option.{Option, some}
use lib.Dec.{T, eqb, eqb→eq, eqb_refl}
use lib.ListN.{get_or, length-map}
use Rattle.plan.specs.declared.ir.IR.{IR}
use Rattle.plan.specs.Lists.{sum, times}
use Rattle.plan.specs.Sheet.{Step, done, step_at}
use Rattle.plan.specs.Graph.{Edge}
use Rattle.plan.specs.Visit.{Run, simplify_ir_node_orders, goes, unlink_node, loosened, relinked, is_into, is_out_of, no_edge, out_edge, in_edge, settled_by}
use Rattle.plan.proofs.Settling.{settled, ruling, ruled_step}
use Rattle.claims.specs.Demand3.{leaving}
use borrow.Author.Tests.{ne_eqb}
use Rattle.plan.proofs.Booleans.{equal}
use Rattle.plan.proofs.Counts.{true_of, T_of, not_both, of_map, mem_at, some_counted, only_one, count_map, count_same, count_none, count_balance, times_same, times_other, times_of}
use Rattle.claims.proofs.Walks.{two_ways}
use Rattle.claims.proofs.Edges.{edge_at, outs, intos, producer_of, is_producer, other_producer, out_edge_at, leaving_there, leaving_out, out_edge_there, in_edge_there, cut, three_ways, at_map}
use Rattle.claims.proofs.Stays.{unsliced_sort, sort_kind, ruling_sort, sort_holds_out, sorts_kept, goes_sort, stays_ordered, Held, Kept, kept_part, kept_visit}

-- The links ---------------------------------------------------------------------------------------------------------------

-- c has no place in l from a place of n on
abbrev pub Clear : ℕ → ℕ → List ℕ → Type 0
Clear c n [] = Unit {0}
Clear c n (x ∷ l) = (x ≡ n → (x ≢ c) × ¬ Memᴰ c l) × Clear c n l

clear_absent : (c n : ℕ) (l : List ℕ) → ¬ Memᴰ c l → Clear c n l
clear_absent c n [] h = tt
clear_absent c n (x ∷ l) h =
    (λ e. ((λ i. h (Memᴰ.head (sym i))), λ m. h (Memᴰ.tail m)), clear_absent c n l (λ m. h (Memᴰ.tail m)))

-- an edge into n: of its first slot, from that step
abbrev pub ComesFrom : ℕ → ℕ → Edge → Type 0
ComesFrom n from d = d.consumer ≡ n → (d.slot ≡ 0) × (d.producer ≡ some from)

-- one edge comes into the sort n
pub record OneIn (n : ℕ) (es : List Edge) : Type 0 where
  pub from : ℕ
  pub one : intos n es ≡ 1
  pub linked : (d : Edge) → Memᴰ d es → ComesFrom n from d

-- ps the steps of the sheet, r the run with `rest` still to be visited on the way down
pub record Linked (ps : List Step) (rest : List ℕ) (r : Run) : Type 0 where
  pub sorts : (n : ℕ) → unsliced_sort (step_at r.steps n) ≡ unsliced_sort (step_at ps n)
  -- of a sort: it has one place at most, an edge leaves it just as long as it is there, and one comes into it
  pub once : (n : ℕ) → (step_at ps n).kind ≡ IR.Sort → times n r.back + times n rest ≤ 1
  pub leaves : (n : ℕ) → (step_at ps n).kind ≡ IR.Sort → outs n r.edges ≡ times n r.back + times n rest
  pub enters : (n : ℕ) → (step_at ps n).kind ≡ IR.Sort → Memᴰ n rest → OneIn n r.edges
  -- the consumer of an edge out of it has no place from its own on
  pub clear : (n : ℕ) → (step_at ps n).kind ≡ IR.Sort → (d : Edge) → Memᴰ d r.edges → d.producer ≡ some n → Clear d.consumer n rest
  pub kept : Kept ps r.back rest r.edges

-- Relinking -----------------------------------------------------------------------------------------------------------------

module _ (n input : ℕ) where
  relinked_into : (k : ℕ) (d : Edge) → is_into k (relinked n (some input) d) ≡ is_into k d
  relinked_into k d = three_ways n (some input) (λ (x : Edge). is_into k x ≡ is_into k d) d (λ t. refl) (λ i t. refl) (λ i j. refl)

  module _ (other : input ≢ n) (d : Edge) where
    relinked_out : is_out_of n (relinked n (some input) d) ≡ false
    relinked_out = three_ways n (some input) (λ (x : Edge). is_out_of n x ≡ false) d (λ t. refl) (λ i t. ne_eqb input n other) (λ i j. j)

    module _ (from : d.consumer ≡ n → d.producer ≡ some input) where
      from_input : T (is_into n d) → d.producer ≡ some input
      from_input t = from (eqb→eq d.consumer n t)

      -- the edges out of a third step
      relinked_elsewhere : (k : ℕ) → k ≢ n → k ≢ input → is_out_of k (relinked n (some input) d) ≡ is_out_of k d
      relinked_elsewhere k h l =
          three_ways n (some input) (λ (x : Edge). is_out_of k x ≡ is_out_of k d) d
          (λ t. sym (other_producer k input d (from_input t) (λ e. l (sym e))))
          (λ i t. ne_eqb input k (λ e. l (sym e)) ∙ sym (other_producer k n d (producer_of n d t) (λ e. h (sym e))))
          (λ i j. refl)

      -- out of the input: the edge into n goes, the edge out of n comes
      relinked_input : (if is_out_of input (relinked n (some input) d) then 1 else 0) + (if is_into n d then 1 else 0)
          ≡ (if is_out_of input d then 1 else 0) + (if is_out_of n d then 1 else 0)
      relinked_input =
          three_ways n (some input)
          (λ (x : Edge). (if is_out_of input x then 1 else 0) + (if is_into n d then 1 else 0)
          ≡ (if is_out_of input d then 1 else 0) + (if is_out_of n d then 1 else 0)) d
          (λ t. rw (true_of (is_into n d) t, true_of (is_out_of input d) (is_producer input d (from_input t)), other_producer n input d (from_input t) other))
          (λ i t. rw (i, true_of (eqb input input) (eqb_refl input), other_producer input n d (producer_of n d t) (λ e. other (sym e)), true_of (is_out_of n d) t))
          (λ i j. rw (i, j))

-- A downward visit ----------------------------------------------------------------------------------------------------------

module _ (ps : List Step) (n : ℕ) (rest : List ℕ) (r : Run) (g : Linked ps (n ∷ rest) r) where
  sort_now : T (unsliced_sort (step_at ps n)) → T (unsliced_sort (step_at r.steps n))
  sort_now t = subst T (sym (g.sorts n)) t

  module _ (t : (step_at ps n).kind ≡ IR.Sort) where
    not_later : ¬ Memᴰ n rest
    not_later m = omega (arith, g.once n t, times_same n rest, times_of n rest m)

    pub one_out : outs n r.edges ≡ 1
    one_out = omega (arith, g.once n t, g.leaves n t, times_same n rest)

    -- an edge out of n: its consumer has been left behind
    left_behind : (d : Edge) → Memᴰ d r.edges → d.producer ≡ some n → (n ≢ d.consumer) × ¬ Memᴰ d.consumer rest
    left_behind d m p = (g.clear n t d m p).0 refl

  -- A visit that settles --------------------------------------------------------------------------------------------------

  abbrev looser : Edge → Edge
  looser = loosened n (ruling n r).loosened

  module _ (w : goes n r ≡ false) (e : simplify_ir_node_orders n r ≡ done (settled n r)) where
    held_now : T (unsliced_sort (step_at ps n)) → Held n rest (map looser r.edges)
    held_now t =
        let k = leaving n r in
        let d = edge_at k r in
        let is_sort = sort_kind (step_at ps n) t in
        let h = leaving_there n r.edges (omega (arith, one_out is_sort)) in
        let o = leaving_out n r.edges h in
        let p = producer_of n d o in
        let l = left_behind is_sort d (mem_at r.edges k no_edge h) p in
        let there : get_or (map looser r.edges) k no_edge ≡ looser d = at_map looser r.edges k h in
        record {
          at = k;
          there = simp length-map h;
          leaves = rw there o;
          ordered =
              rw there (still_ordered d (ap (λ (y : Edge). y.unordered) (out_edge_at n r.edges) ∙ stays_ordered n r (sort_now t) w)
              (ne_eqb d.consumer n (λ j. l.0 (sym j))));
          apart =
              λ m i. rw there (record {
                into = ne_eqb d.consumer m (λ j. l.1 (subst (λ y. Memᴰ y rest) (sym j) i));
                out = other_producer m n d p (λ j. not_later is_sort (subst (λ y. Memᴰ y rest) (sym j) i));
              });
        }
      where
        still_ordered : (d : Edge) → d.unordered ≡ false → is_into n d ≡ false → (looser d).unordered ≡ false
        still_ordered d e f = rw (e, f, sort_holds_out n r (sort_kind (step_at r.steps n) (sort_now t))) (and-false (is_out_of n d))

    settled_linked : Linked ps rest (settled n r)
    unfolding settled_by sum
    settled_linked = record {
      sorts = λ k. sorts_kept r.steps n (ruled_step n r) (ruling_sort n r) k ∙ g.sorts k;
      once = λ k t. omega (arith, g.once k t);
      leaves = λ k t. omega (arith, g.leaves k t, count_map (is_out_of k) looser r.edges);
      enters =
          λ k t m.
          let h = g.enters k t (Memᴰ.tail m) in
          record {
            from = h.from;
            one = count_map (is_into k) looser r.edges ∙ h.one;
            linked = of_map (ComesFrom k h.from) looser r.edges h.linked;
          };
      clear = λ k t. of_map (λ (d : Edge). d.producer ≡ some k → Clear d.consumer k rest) looser r.edges (λ d m p. (g.clear k t d m p).1);
      kept = (held_now, kept_visit ps r.back (n ∷ rest) n r e (Memᴰ.head refl) g.kept);
    }

  -- A visit that removes --------------------------------------------------------------------------------------------------

  module _ (t : (step_at ps n).kind ≡ IR.Sort) (e : simplify_ir_node_orders n r ≡ done (unlink_node n r)) where
    one_in : OneIn n r.edges
    one_in = g.enters n t (Memᴰ.head refl)

    abbrev input : ℕ
    input = one_in.from

    abbrev out : Edge
    out = out_edge n r.edges

    abbrev relink : Edge → Edge
    relink = relinked n (some input)

    -- what produced the edge into n
    from_in_edge : (in_edge n r.edges).producer ≡ some input
    from_in_edge = let (m, i) = in_edge_there n r.edges (omega (arith, one_in.one)) in (one_in.linked (in_edge n r.edges) m (eqb→eq (in_edge n r.edges).consumer n i)).1

    input_other : input ≢ n
    input_other j =
        let (d, m, i) = some_counted (is_into n) r.edges (omega (arith, one_in.one)) in
        let c = eqb→eq d.consumer n i in
        (left_behind t d m ((one_in.linked d m c).1 ∙ ap some j)).0 (sym c)

    out_there : Memᴰ out r.edges × T (is_out_of n out)
    out_there = out_edge_there n r.edges (omega (arith, one_out t))

    is_out : (d : Edge) → Memᴰ d r.edges → T (is_out_of n d) → d ≡ out
    is_out d m u = only_one (is_out_of n) r.edges (omega (arith, one_out t)) d out m u out_there.0 out_there.1

    outs_after : (k : ℕ) → k ≢ n → outs k (map relink r.edges) ≡ outs k r.edges
    outs_after k h = by (ℕ_discrete k input)
      where
        from : (d : Edge) → Memᴰ d r.edges → d.consumer ≡ n → d.producer ≡ some input
        from d m c = (one_in.linked d m c).1

        moved : outs input (map relink r.edges) + intos n r.edges ≡ outs input r.edges + outs n r.edges
        moved =
            omega (
              arith,
              count_map (is_out_of input) relink r.edges,
              count_balance (λ (d : Edge). is_out_of input (relink d)) (is_into n) (is_out_of input) (is_out_of n) r.edges
                  (λ d m. relinked_input n input input_other d (from d m)),
            )

        by : Dec (k ≡ input) → outs k (map relink r.edges) ≡ outs k r.edges
        by (yes i) = subst (λ y. outs y (map relink r.edges) ≡ outs y r.edges) (sym i) (omega (arith, moved, one_in.one, one_out t))
        by (no l) =
            count_map (is_out_of k) relink r.edges
            ∙ count_same (λ (d : Edge). is_out_of k (relink d)) (is_out_of k) r.edges (λ d m. relinked_elsewhere n input input_other d (from d m) k h l)

    no_outs_after : outs n (map relink r.edges) ≡ 0
    no_outs_after =
        count_map (is_out_of n) relink r.edges
        ∙ count_none (λ (d : Edge). is_out_of n (relink d)) r.edges (λ d m. relinked_out n input input_other d)

    enters_after : (k : ℕ) → (step_at ps k).kind ≡ IR.Sort → Memᴰ k rest → OneIn k (map relink r.edges)
    enters_after k u m = by (ℕ_discrete k out.consumer)
      where
        h : OneIn k r.edges
        h = g.enters k u (Memᴰ.tail m)

        other : k ≢ n
        other j = not_later (subst (λ y. (step_at ps y).kind ≡ IR.Sort) j u) (subst (λ y. Memᴰ y rest) j m)

        one : intos k (map relink r.edges) ≡ 1
        one =
            count_map (is_into k) relink r.edges
            ∙ count_same (λ (d : Edge). is_into k (relink d)) (is_into k) r.edges (λ d i. relinked_into n input k d) ∙ h.one

        not_cut : (d : Edge) (from : ℕ) → T (is_into n d) → ComesFrom k from (cut d)
        not_cut d from v c = absurd (other (sym c ∙ eqb→eq d.consumer n v))

        by : Dec (k ≡ out.consumer) → OneIn k (map relink r.edges)
        by (yes i) =
            let mine : (d : Edge) → Memᴰ d r.edges → d.consumer ≡ k → T (is_out_of n d) =
            λ d v c.
            let same = only_one (is_into k) r.edges (omega (arith, h.one)) d out v (equal d.consumer k c) out_there.0 (equal out.consumer k (sym i)) in
            subst (λ (x : Edge). T (is_out_of n x)) (sym same) out_there.1 in
            record {
              from = input;
              one = one;
              linked =
                  of_map (ComesFrom k input) relink r.edges
                  (λ d v. three_ways n (some input) (ComesFrom k input) d (not_cut d input)
                  (λ j w c. ((h.linked d v c).0, refl))
                  (λ j w c. absurd (not_both (is_out_of n d) (mine d v c) w)));
            }
        by (no l) =
            record {
              from = h.from;
              one = one;
              linked =
                  of_map (ComesFrom k h.from) relink r.edges
                  (λ d v. three_ways n (some input) (ComesFrom k h.from) d (not_cut d h.from)
                  (λ j w c. absurd (l (sym c ∙ ap (λ (x : Edge). x.consumer) (is_out d v w))))
                  (λ j w. h.linked d v));
            }

    abbrev unlinked : List Edge → Run
    unlinked es = let r₁ = unlink_node n r in
        record { arena = r₁.arena; steps = r₁.steps; edges = es; back = r₁.back; removed = r₁.removed; tally = r₁.tally }

    relinked_linked : Kept ps r.back (n ∷ rest) (map relink r.edges) → Linked ps rest (unlinked (map relink r.edges))
    unfolding unlink_node sum
    relinked_linked kept = record {
      sorts = λ k. sorts_kept r.steps out.consumer _ refl k ∙ g.sorts k;
      once = λ k u. omega (arith, g.once k u);
      leaves = λ k u. by k u (ℕ_discrete k n);
      enters = enters_after;
      clear =
          λ k u. of_map (λ (d : Edge). d.producer ≡ some k → Clear d.consumer k rest) relink r.edges
          (λ d m. three_ways n (some input) (λ (x : Edge). x.producer ≡ some k → Clear x.consumer k rest) d
          (λ v p. let z : ◌≡◌ {A = ℕ} 0 1 = cc in absurd (omega arith))
          (λ i v p. clear_absent d.consumer k rest (left_behind t d m (producer_of n d v)).1)
          (λ i j p. (g.clear k u d m p).1));
      kept = kept_part ps r.back (n ∷ rest) rest _ (λ m i. Memᴰ.tail i) kept;
    }
      where
        by : (k : ℕ) → (step_at ps k).kind ≡ IR.Sort → Dec (k ≡ n) → outs k (map relink r.edges) ≡ times k r.back + times k rest
        by k u (yes i) =
            subst (λ y. outs y (map relink r.edges) ≡ times y r.back + times y rest) (sym i)
            (omega (arith, no_outs_after, g.once n t, times_same n rest))
        by k u (no h) = omega (arith, outs_after k h, g.leaves k u, times_other k n rest h)

    unlinked_linked : Linked ps rest (unlink_node n r)
    unfolding unlink_node
    unlinked_linked =
        subst (λ (p : Option ℕ). Linked ps rest (unlinked (map (relinked n p) r.edges))) (sym from_in_edge)
        (relinked_linked (subst (λ (p : Option ℕ). Kept ps r.back (n ∷ rest) (map (relinked n p) r.edges)) from_in_edge
        (kept_visit ps r.back (n ∷ rest) n r e (Memᴰ.head refl) g.kept)))

pub linked_visit : (ps : List Step) (n : ℕ) (rest : List ℕ) (r r' : Run) → Linked ps (n ∷ rest) r → simplify_ir_node_orders n r ≡ done r' → Linked ps rest r'
linked_visit ps n rest r r' g e =
    elim (two_ways n r e) [
      | inl w ↦
          let t = sort_kind (step_at ps n) (subst T (g.sorts n) (goes_sort n r (T_of (goes n r) w.0)).0) in
          subst (Linked ps rest) (sym w.1) (unlinked_linked ps n rest r g t (subst (λ q. simplify_ir_node_orders n r ≡ done q) w.1 e))
      | inr w ↦ subst (Linked ps rest) (sym w.1) (settled_linked ps n rest r g w.0 (subst (λ q. simplify_ir_node_orders n r ≡ done q) w.1 e))
    ]
