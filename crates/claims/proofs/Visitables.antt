-- What the code of a visit leans on holds at every visit: an invariant of a run and of the places that it has still to visit.
use mathlib.Core.Path.{◌≡◌, refl, ap, sym, subst}
use mathlib.Core.Logic.{inl, inr}
use Prim.Native.Nat.{ℕ, ◌+◌, ◌≤◌, ◌<◌}
use native.Mathlib.Omega.{arith}
use native.Mathlib.Decide.{dec_lt}
use mathlib.Core.List.Memᴰ
use mathlib.Core.List.{List, ◌∷◌, Memᴰ}
use lib.Dec.{T}
use lib.ListN.{length, get_or, length-set}
use Rattle.plan.specs.Lists.{times}
use Rattle.plan.specs.Sheet.{Step, Sheet, done, no_step, step_at, in_step_table}
use Rattle.plan.specs.Faults.{named}
use Rattle.plan.specs.Graph.{Edge, graph, sinks}
use Rattle.plan.specs.Visit.{Run, simplify_ir_node_orders, unlink_node, looked_in, looks_of, with_input, no_edge, out_edge, settled_by}
use Rattle.plan.proofs.Settling.{ruled_step}
use Rattle.plan.specs.Walks.{begin, down}
use Rattle.claims.specs.WellFormed.{WellFormed}
use Rattle.claims.specs.Visitable.{Visitable, AllVisitable}
use Rattle.claims.proofs.Walks.{two_ways, walk_keeps, trace_keeps}
use Rattle.plan.proofs.Booleans.{all_at}
use Rattle.plan.proofs.Counts.{mem_at, mem_concat, only, times_of, stands_in}
use Rattle.claims.proofs.Every.{Every, every_of, every_set}
use Rattle.claims.proofs.StepTable.{has_inputs, sort_has_one_input}
use Rattle.claims.specs.Plan.{Plan}
use Rattle.claims.proofs.Plans.{root_there, input_there}
use Rattle.claims.proofs.Merged.{merged, length_merged, merged_fewer, ordered_graph}
use Rattle.claims.proofs.MergedPlan.{keyed_of}
use Rattle.claims.proofs.Edges.{edge_at, three_ways, visit_edge}
use Rattle.claims.proofs.Stays.{unsliced_sort, sort_kind, ruling_sort, reads_kept, goes_sort}
use Rattle.claims.proofs.Removals.{removes}
use Rattle.claims.proofs.Sizes.{few_places, steps_kept, edges_kept}
use Rattle.claims.proofs.VisitLooks.{inside_of_step, imploded_start, looks_bounded_in}
use Rattle.claims.proofs.RunLimits.{Within, end_length, end_within, visit_limits, within_visit, within_begin, within_half}
use Rattle.claims.proofs.Printable.{Printable, printable_visit}
use Rattle.claims.proofs.PrintableStart.{printable_begin}

-- Steps ------------------------------------------------------------------------------------------------------------------------

-- of a step: a sort without slice has an input
pub record Readable (s : Step) : Type 0 where
  pub input : T (unsliced_sort s) → 1 ≤ length s.inputs

-- a rule keeps a step's inputs
readable_ruled : (n : ℕ) (r : Run) → Readable (step_at r.steps n) → Readable (ruled_step n r)
unfolding looked_in looks_of
readable_ruled n r k = record { input = λ t. k.input (subst T (ruling_sort n r) t) }

readable_with_input : (slot input : ℕ) (s : Step) → Readable s → Readable (with_input slot input s)
readable_with_input slot input s k = record { input = λ t. simp length-set (k.input t) }

module _ (n : ℕ) (r : Run) {r' : Run} (e : simplify_ir_node_orders n r ≡ done r') where
  readable_visit : Every Readable no_step r.steps → Every Readable no_step r'.steps
  unfolding unlink_node settled_by
  readable_visit k =
      let c = (out_edge n r.edges).consumer in
      let Kept : Run → Type 0 = λ q. Every Readable no_step q.steps in
      elim (two_ways n r e) [
        | inl (_, i) ↦ subst Kept (sym i) (every_set Readable no_step r.steps c _ k (readable_with_input _ _ (step_at r.steps c) (k c)))
        | inr (_, i) ↦ subst Kept (sym i) (every_set Readable no_step r.steps n _ k (readable_ruled n r (k n)))
      ]

  -- what is read of a step, if neither another input in a slot nor the rule changes it
  pub step_kept : {A : Type 0} (f : Step → A) → ((k v : ℕ) (s : Step) → f (with_input k v s) ≡ f s) → f (ruled_step n r) ≡ f (step_at r.steps n)
      → (m : ℕ) → f (step_at r'.steps m) ≡ f (step_at r.steps m)
  unfolding unlink_node settled_by
  step_kept f linked ruled m =
      let c = (out_edge n r.edges).consumer in
      let Kept : Run → Type 0 = λ q. f (step_at q.steps m) ≡ f (step_at r.steps m) in
      elim (two_ways n r e) [
        | inl (_, i) ↦ subst Kept (sym i) (reads_kept f r.steps c _ (linked _ _ (step_at r.steps c)) m)
        | inr (_, i) ↦ subst Kept (sym i) (reads_kept f r.steps n _ ruled m)
      ]

  -- a step has as many inputs as it had
  pub inputs_kept : (m : ℕ) → length (step_at r'.steps m).inputs ≡ length (step_at r.steps m).inputs
  unfolding looked_in looks_of
  inputs_kept = step_kept (λ s. length s.inputs) (λ k v s. length-set s.inputs k v) refl

  -- an edge leads where it led
  end_kept : (k : ℕ) → k < length r.edges → ((edge_at k r').consumer ≡ (edge_at k r).consumer) × ((edge_at k r').slot ≡ (edge_at k r).slot)
  end_kept k h =
      let d = edge_at k r in
      let Led : Edge → Type 0 = λ x. (x.consumer ≡ d.consumer) × (x.slot ≡ d.slot) in
      visit_edge Led n r e k h (λ input. three_ways n input Led d (λ _. (refl, refl)) (λ _ _. (refl, refl)) (λ _ _. (refl, refl))) (λ _. (refl, refl))

-- The run ----------------------------------------------------------------------------------------------------------------------

-- of a run that has still to visit ns, and makes no more than `most` visits
pub record Going (most : ℕ) (ns : List ℕ) (r : Run) : Type 0 where
  pub within : Within most (length ns) r
  pub printable : Printable r
  -- the places still to visit are steps, and so are those that the upward walk will visit
  pub places : (m : ℕ) → Memᴰ m ns → m < length r.steps
  pub back : (m : ℕ) → Memᴰ m r.back → m < length r.steps
  -- on the way down `back` never has more than 288 places
  pub few : length r.back + length ns ≤ most
  pub readable : Every Readable no_step r.steps
  -- every edge leads to a slot of its consumer
  pub slots : (k : ℕ) → k < length r.edges → (edge_at k r).slot < length (step_at r.steps (edge_at k r).consumer).inputs

pub going_visit : (most n : ℕ) (ns : List ℕ) (r r' : Run) → Going most (n ∷ ns) r → simplify_ir_node_orders n r ≡ done r' → Going most ns r'
going_visit most n ns r r' k e =
    record {
      within = within_visit most n ns r r' k.within e;
      printable = printable_visit n r r' k.within.sound k.printable e;
      places = λ m i. omega (arith, k.places m (Memᴰ.tail i), steps_kept n r e);
      back =
          λ m i.
          elim (removes n r r' e) [
            | inl (_, _, b) ↦ omega (arith, k.back m (subst (Memᴰ m) b i), steps_kept n r e)
            | inr (_, b) ↦
                elim (Memᴰ.cases_cons (subst (Memᴰ m) b i)) [
                  | inl j ↦ omega (arith, k.places m (Memᴰ.head j), steps_kept n r e)
                  | inr j ↦ omega (arith, k.back m j, steps_kept n r e)
                ]
          ];
      few =
          elim (removes n r r' e) [
            | inl (_, _, b) ↦ omega (arith, k.few, ap length b)
            | inr (_, b) ↦ omega (arith, k.few, ap length b)
          ];
      readable = readable_visit n r e k.readable;
      slots =
          λ j h.
          let there : j < length r.edges = omega (arith, edges_kept n r e) in
          let (c, s) = end_kept n r e j there in
          rw (c, s) (omega (arith, k.slots j there, inputs_kept n r e (edge_at j r).consumer));
    }

pub going_visitable : (most n : ℕ) (ns : List ℕ) (r : Run) → most ≤ 576 → Going most (n ∷ ns) r → Visitable n r
going_visitable most n ns r few k =
    let sound = k.within.sound in
    let s = step_at r.steps n in
    let limits = visit_limits r k.within n (omega arith) in
    record {
      step = k.places n (Memᴰ.head refl);
      visits = omega (arith, k.within.visits);
      exprs = λ q m. inside_of_step r sound n q (Memᴰ.append_left s.aggs m);
      aggs = λ q m. inside_of_step r sound n q (Memᴰ.append_right s.exprs m);
      imploded = (imploded_start r sound n).inside;
      room = omega (arith, end_within r k.within n, end_length r sound n);
      between = omega (arith, limits.looks, (looks_bounded_in r sound n).aggs.counted);
      looks = limits.looks;
      consumers = λ j h. has_inputs r.steps (edge_at j r).consumer (omega (arith, k.slots j h));
      slots = k.slots;
      input = λ t. (k.readable n).input (goes_sort n r t).0;
    }

pub all_visitable : (most : ℕ) (ns : List ℕ) (r : Run) → most ≤ 576 → Going most ns r → AllVisitable ns r
all_visitable most ns r few k n v m =
    let (ms, g) = trace_keeps (Going most) (going_visit most) ns r k n v m in going_visitable most n ms v few g

-- A well-formed sheet ------------------------------------------------------------------------------------------------------------

-- a place is a root's or an input's
place_there : (ps : List Step) → Plan (merged ps) → (m : ℕ) → Memᴰ m (graph ps).0 → m < length ps
unfolding named
place_there ps plan m i = omega (arith, length_merged ps, by (dec_lt 0 (times m (sinks (merged ps)))))
  where
    qs : List Step
    qs = merged ps

    by : Dec (0 < times m (sinks qs)) → m < length qs
    by (yes h) = root_there qs plan m (stands_in m (sinks qs) h)
    by (no h) =
        let once : 1 ≤ times m (named qs) = omega (arith, times_of m (graph ps).0 i, (ordered_graph ps plan).placed_all (only m)) in
        let (n, _, j) = mem_concat (λ (s : Step). s.inputs) qs no_step m (stands_in m (named qs) once) in
        input_there qs plan n m j

module _ (sh : Sheet) (wf : WellFormed sh) where
  readable_at_start : Every Readable no_step sh.steps
  readable_at_start =
      every_of Readable no_step sh.steps (record { input = λ t. absurd t })
      (λ n h.
      let s = step_at sh.steps n in
      record { input = λ t. omega (arith, sort_has_one_input s (sort_kind s t) (all_at in_step_table sh.steps no_step wf.steps_in_table n h)) })

  pub going_begin : Going 288 (graph sh.steps).0 (begin sh)
  unfolding begin
  going_begin =
      let plan = (keyed_of sh wf).plan in
      let edges = (graph sh.steps).1 in
      record {
        within = within_begin sh wf;
        printable = printable_begin sh wf;
        places = place_there sh.steps plan;
        back = λ m i. absurd (Memᴰ.not-nil i);
        few = omega (arith, few_places sh wf);
        readable = readable_at_start;
        slots =
            λ k h.
            let d = get_or edges k no_edge in
            omega (arith, ((ordered_graph sh.steps plan).made d (mem_at edges k no_edge h)).0, merged_fewer sh.steps d.consumer);
      }

  pub going_half : (half : Run) → down sh ≡ done half → Going 576 half.back half
  unfolding down
  going_half half e =
      let k = walk_keeps (Going 288) (going_visit 288) (graph sh.steps).0 (begin sh) going_begin e in
      record {
        within = within_half sh wf half e;
        printable = k.printable;
        places = k.back;
        back = k.back;
        few = omega (arith, k.few);
        readable = k.readable;
        slots = k.slots;
      }

  -- at every visit of either walk
  pub visitable_down : AllVisitable (graph sh.steps).0 (begin sh)
  visitable_down = all_visitable 288 (graph sh.steps).0 (begin sh) (omega arith) going_begin

  pub visitable_up : (half : Run) → down sh ≡ done half → AllVisitable half.back half
  visitable_up half e = all_visitable 576 half.back half (omega arith) (going_half half e)
