-- Every edge that has a producer comes from the key of what its slot names, as the steps stand: what unlink_node leans on, which reads the
-- removed sort's input and looks for the sort among its consumer's inputs.
use mathlib.Core.Path.{◌≡◌, refl, ap, sym, ◌∙◌, subst}
use mathlib.Core.Logic.{inl, inr}
use Prim.Native.Nat.{ℕ, zero, suc, ◌≤◌, ◌<◌}
use native.Mathlib.Omega.{arith}
use native.Mathlib.Nat.{not-suc-le-zero}
use native.Mathlib.Decide.{ℕ_discrete}
use mathlib.Core.Bool.{false}
use mathlib.Core.Option.{some}
use mathlib.Core.List.{List, [], ◌∷◌, map, Memᴰ}
use lib.Dec.{T, eqb, eqb→eq}
use lib.ListN.{length, get_or, set, length-map, length-set}
use lib.Seq.{get_or-set_same, get_or-set_other}
use Rattle.plan.specs.declared.ir.IR.{IR}
use Rattle.plan.specs.Sheet.{Step, Sheet, done, no_step, step_at}
use Rattle.plan.specs.Graph.{Edge, key, graph}
use Rattle.plan.specs.Visit.{Run, simplify_ir_node_orders, goes, unlink_node, settled_by, looked_in, looks_of, loosened, relinked, is_into, is_out_of, with_input, out_edge, in_edge}
use Rattle.plan.specs.Walks.{begin}
use Rattle.plan.proofs.Settling.{ruling, ruled_step, settled}
use Rattle.claims.specs.WellFormed.{WellFormed}
use Rattle.plan.specs.Conditions.{Down}
use Rattle.plan.proofs.Booleans.{and_both, equal}
use Rattle.plan.proofs.Counts.{T_of, not_both, of_map, only_one, count_map, count_same}
use Rattle.claims.proofs.StepTable.{has_inputs}
use Rattle.claims.proofs.Walks.{two_ways, trace_keeps}
use Rattle.claims.proofs.Edges.{producer_of, same_some, out_edge_there, in_edge_there, three_ways}
use Rattle.claims.proofs.Places.{is_slot, into_slot}
use Rattle.claims.proofs.Merged.{merged, merged_inputs, merged_away, ordered_graph}
use Rattle.claims.proofs.Plans.{plan_of}
use Rattle.claims.proofs.MergedPlan.{Keyed, keyed_of, key_own}
use Rattle.claims.proofs.Stays.{sort_kind, goes_sort, reads_kept}
use Rattle.claims.proofs.Links.{Linked, one_out, linked_visit}
use Rattle.claims.proofs.Starts.{linked_begin}

-- an edge from the key of what its slot names
abbrev Named : (ℕ → ℕ) → List Step → Edge → Type 0
Named key ps d = let inputs = (step_at ps d.consumer).inputs in
    (m : ℕ) → d.producer ≡ some m → (d.slot < length inputs) × (m ≡ key (get_or inputs d.slot 0))

pub record Slotted (key : ℕ → ℕ) (r : Run) : Type 0 where
  pub single : (c k : ℕ) → into_slot c k r.edges ≤ 1
  pub names : (d : Edge) → Memᴰ d r.edges → Named key r.steps d

at_key : (key : ℕ → ℕ) (l : List ℕ) (k : ℕ) → k < length l → get_or (map key l) k 0 ≡ key (get_or l k 0)
at_key key [] k h = absurd (not-suc-le-zero h)
at_key key (x ∷ l) zero h = refl
at_key key (x ∷ l) (suc k) h = at_key key l k (omega arith)

as_long : (key : ℕ → ℕ) (l : List ℕ) → length (map key l) ≡ length l
as_long key l = simp length-map

module _ (sh : Sheet) (keyed : Keyed sh.steps) where
  abbrev ps : List Step
  ps = sh.steps

  pub slotted_begin : Slotted (key ps) (begin sh)
  unfolding begin
  slotted_begin = record {
    single = (ordered_graph ps keyed.plan).single;
    names =
        λ d i m e.
        let (h, p) = (ordered_graph ps keyed.plan).made d i in
        by d m h (same_some (sym e ∙ p)) (ℕ_discrete (key ps d.consumer) d.consumer);
  }
    where
      by : (d : Edge) (m : ℕ) → d.slot < length (step_at (merged ps) d.consumer).inputs → m ≡ get_or (step_at (merged ps) d.consumer).inputs d.slot 0
          → Dec (key ps d.consumer ≡ d.consumer)
          → let inputs = (step_at ps d.consumer).inputs in (d.slot < length inputs) × (m ≡ key ps (get_or inputs d.slot 0))
      by d m h e (yes own) =
          let is = merged_inputs ps d.consumer own in
          let there : d.slot < length (step_at ps d.consumer).inputs = omega (arith, h, ap length is, as_long (key ps) (step_at ps d.consumer).inputs) in
          (there, e ∙ ap (λ (l : List ℕ). get_or l d.slot 0) is ∙ at_key (key ps) (step_at ps d.consumer).inputs d.slot there)
      by d m h e (no away) = absurd (not-suc-le-zero (subst (λ (l : List ℕ). d.slot < length l) (merged_away ps d.consumer away).1 h))

inputs_ruled : (n : ℕ) (r : Run) → (ruled_step n r).inputs ≡ (step_at r.steps n).inputs
unfolding looked_in looks_of
inputs_ruled n r = refl

module _ (key : ℕ → ℕ) (ps : List Step) (n : ℕ) (rest : List ℕ) (r : Run) (g : Linked ps (n ∷ rest) r) (k : Slotted key r) where
  settled_slotted : Slotted key (settled n r)
  unfolding settled_by
  settled_slotted =
      let f = loosened n (ruling n r).loosened in
      record {
        single = λ c j. omega (arith, k.single c j, count_map (is_slot c j) f r.edges);
        names =
            of_map (Named key (set r.steps n (ruled_step n r))) f r.edges
            (λ d i m e.
            let same = reads_kept (λ (s : Step). s.inputs) r.steps n (ruled_step n r) (inputs_ruled n r) d.consumer in
            subst (λ (l : List ℕ). (d.slot < length l) × (m ≡ key (get_or l d.slot 0))) (sym same) (k.names d i m e));
      }

  module _ (t : (step_at ps n).kind ≡ IR.Sort) where
    abbrev out : Edge
    out = out_edge n r.edges

    abbrev input : ℕ
    input = get_or (step_at r.steps n).inputs 0 0

    out_there : Memᴰ out r.edges × T (is_out_of n out)
    out_there = out_edge_there n r.edges (omega (arith, one_out ps n rest r g t))

    -- the edge into n comes from the key of its input
    pub in_produced : (in_edge n r.edges).producer ≡ some (key input)
    in_produced =
        let one = g.enters n t (Memᴰ.head refl) in
        let (m, i) = in_edge_there n r.edges (omega (arith, one.one)) in
        let c = eqb→eq (in_edge n r.edges).consumer n i in
        let (slot, from) = one.linked (in_edge n r.edges) m c in
        let is = (k.names (in_edge n r.edges) m one.from from).1 in
        from ∙ ap some (is ∙ ap (λ (x : ℕ). key (get_or (step_at r.steps x).inputs (in_edge n r.edges).slot 0)) c ∙ ap (λ (x : ℕ). key (get_or (step_at r.steps n).inputs x 0)) slot)

    -- and the slot that the edge out of n leads to names n by its key
    pub out_named : (out.slot < length (step_at r.steps out.consumer).inputs) × (n ≡ key (get_or (step_at r.steps out.consumer).inputs out.slot 0))
    out_named = k.names out out_there.0 n (producer_of n out out_there.1)

    abbrev steps : List Step
    steps = set r.steps out.consumer (with_input out.slot input (step_at r.steps out.consumer))

    at_consumer : (step_at steps out.consumer).inputs ≡ set (step_at r.steps out.consumer).inputs out.slot input
    at_consumer =
        ap (λ (s : Step). s.inputs) (get_or-set_same r.steps out.consumer (with_input out.slot input (step_at r.steps out.consumer)) no_step
        (has_inputs r.steps out.consumer (omega (arith, out_named.0))))

    -- another slot names what it named
    elsewhere : (c j : ℕ) → ¬ ((c ≡ out.consumer) × (j ≡ out.slot)) → (get_or (step_at steps c).inputs j 0 ≡ get_or (step_at r.steps c).inputs j 0) × (length (step_at steps c).inputs ≡ length (step_at r.steps c).inputs)
    elsewhere c j h = by (ℕ_discrete c out.consumer) (ℕ_discrete j out.slot)
      where
        by : Dec (c ≡ out.consumer) → Dec (j ≡ out.slot)
            → (get_or (step_at steps c).inputs j 0 ≡ get_or (step_at r.steps c).inputs j 0) × (length (step_at steps c).inputs ≡ length (step_at r.steps c).inputs)
        by (yes e) (yes f) = absurd (h (e, f))
        by (yes e) (no f) =
            subst (λ x. (get_or (step_at steps x).inputs j 0 ≡ get_or (step_at r.steps x).inputs j 0) × (length (step_at steps x).inputs ≡ length (step_at r.steps x).inputs)) (sym e)
            (rw at_consumer (get_or-set_other (step_at r.steps out.consumer).inputs out.slot j input 0 f, length-set (step_at r.steps out.consumer).inputs out.slot input))
        by (no e) _ = rw get_or-set_other (refl, refl)

    unlinked_slotted : Slotted key (unlink_node n r)
    unfolding unlink_node
    unlinked_slotted =
        let from = (in_edge n r.edges).producer in
        record {
          single = λ c j. omega (
            arith,
            k.single c j,
            count_map (is_slot c j) (relinked n from) r.edges,
            count_same (λ (d : Edge). is_slot c j (relinked n from d)) (is_slot c j) r.edges
                (λ d i. three_ways n from (λ (x : Edge). is_slot c j x ≡ is_slot c j d) d (λ _. refl) (λ _ _. refl) (λ _ _. refl)),
          );
          names =
              of_map (Named key steps) (relinked n from) r.edges
              (λ d i. three_ways n from (Named key steps) d
              (λ _ m e. let z : ◌≡◌ {A = ℕ} 0 1 = cc in absurd (omega arith))
              (λ _ u m e. led_names d i u m e)
              (λ _ u m e. other_names d i u m e));
        }
      where
        led_names : (d : Edge) → Memᴰ d r.edges → T (is_out_of n d) → (m : ℕ) → (in_edge n r.edges).producer ≡ some m
            → (d.slot < length (step_at steps d.consumer).inputs) × (m ≡ key (get_or (step_at steps d.consumer).inputs d.slot 0))
        led_names d i u m e =
            let is : d ≡ out = only_one (is_out_of n) r.edges (omega (arith, one_out ps n rest r g t)) d out i u out_there.0 out_there.1 in
            subst (λ (x : Edge). (x.slot < length (step_at steps x.consumer).inputs) × (m ≡ key (get_or (step_at steps x.consumer).inputs x.slot 0))) (sym is)
            (rw at_consumer (simp length-set out_named.0, same_some (sym e ∙ in_produced) ∙ ap key (sym (get_or-set_same (step_at r.steps out.consumer).inputs out.slot input 0 out_named.0))))

        other_names : (d : Edge) → Memᴰ d r.edges → is_out_of n d ≡ false → (m : ℕ) → d.producer ≡ some m
            → (d.slot < length (step_at steps d.consumer).inputs) × (m ≡ key (get_or (step_at steps d.consumer).inputs d.slot 0))
        other_names d i u m e =
            let (same, many) = elsewhere d.consumer d.slot (λ (a, b).
            let slot = is_slot out.consumer out.slot in
            let is : d ≡ out = only_one slot r.edges (k.single out.consumer out.slot) d out i
            (and_both (is_into out.consumer d) (eqb d.slot out.slot) (equal d.consumer out.consumer a) (equal d.slot out.slot b)) out_there.0
            (and_both (is_into out.consumer out) (eqb out.slot out.slot) (equal out.consumer out.consumer refl) (equal out.slot out.slot refl)) in
            not_both (is_out_of n d) (subst (λ (x : Edge). T (is_out_of n x)) (sym is) out_there.1) u) in
            let (h, is) = k.names d i m e in
            (omega (arith, h, many), is ∙ ap key (sym same))

-- The downward walk -----------------------------------------------------------------------------------------------------------------

slotted_visit : (key : ℕ → ℕ) (ps : List Step) (n : ℕ) (rest : List ℕ) (r r' : Run) → Linked ps (n ∷ rest) r × Slotted key r → simplify_ir_node_orders n r ≡ done r'
    → Linked ps rest r' × Slotted key r'
slotted_visit key ps n rest r r' (g, k) e = (
  linked_visit ps n rest r r' g e,
  elim (two_ways n r e) [
    | inl w ↦
        let t = sort_kind (step_at ps n) (subst T (g.sorts n) (goes_sort n r (T_of (goes n r) w.0)).0) in
        subst (Slotted key) (sym w.1) (unlinked_slotted key ps n rest r g k t)
    | inr w ↦ subst (Slotted key) (sym w.1) (settled_slotted key ps n rest r g k)
  ],
)

-- At a removal: the edge into the sort is produced by the key of its input, and its consumer's slot names it
pub removed_linked : (sh : Sheet) → WellFormed sh → (n : ℕ) (r : Run) → Down sh n r → T (goes n r)
    → ((in_edge n r.edges).producer ≡ some (key sh.steps (get_or (step_at r.steps n).inputs 0 0)))
    × (get_or (step_at r.steps (out_edge n r.edges).consumer).inputs (out_edge n r.edges).slot 0 ≡ n)
removed_linked sh w n r m t =
    let ps = sh.steps in
    let keyed = keyed_of sh w in
    let (ms, both) = trace_keeps (λ ns q. Linked ps ns q × Slotted (key ps) q) (slotted_visit (key ps) ps) (graph ps).0 (begin sh) (linked_begin sh keyed, slotted_begin sh keyed) n r m in
    let g = both.0 in
    let k = both.1 in
    let is_sort = sort_kind (step_at ps n) (subst T (g.sorts n) (goes_sort n r t).0) in
    let (_, q) = out_named (key ps) ps n ms r g k is_sort in (
      in_produced (key ps) ps n ms r g k is_sort,
      sym (q ∙ key_own ps (plan_of sh w) (get_or (step_at r.steps (out_edge n r.edges).consumer).inputs (out_edge n r.edges).slot 0)),
    )
