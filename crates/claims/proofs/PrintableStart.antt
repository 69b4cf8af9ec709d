-- What is printed is small as a run begins: the records by the tables, the edges as the graph is built.
use Rattle.std.specs.Prelude.{if◌then◌else◌}
use mathlib.Core.Path.{refl}
use mathlib.Core.Logic.{inl, inr}
use Prim.Native.Nat.{ℕ, zero, suc, ◌+◌, ◌≤◌, ◌<◌}
use native.Mathlib.Omega.{arith}
use mathlib.Core.Bool.{Bool, true, false, ◌&&◌, not}
use mathlib.Core.Option.{some}
use mathlib.Core.List.Memᴰ
use mathlib.Core.List.{List, [], ◌∷◌, ◌++◌, map, Memᴰ}
use lib.Dec.{T, ltb, ltb→lt}
use lib.ListN.{length, get_or}
use Rattle.plan.specs.declared.ir.IR.{IR}
use Rattle.plan.specs.Kinds.{same_ir}
use Rattle.plan.specs.Lists.{select, numbered}
use Rattle.plan.specs.Sheet.{Step, Sheet, ◌then◌, no_expr, no_step, expr_at, step_at, in_expr_table, in_step_table}
use Rattle.plan.specs.Faults.{references_right, inputs_earlier, exprs_there}
use Rattle.plan.specs.Graph.{Edge, key, build_ir_traversal_graph, graph, grow, popped, following, opens, edges_into, sinks, most_places}
use Rattle.plan.specs.Visit.{no_edge}
use Rattle.plan.specs.Walks.{begin}
use Rattle.plan.proofs.ListLaws.{and_left, of_all}
use Rattle.plan.proofs.FaultLaws.{step_passes}
use Rattle.claims.specs.WellFormed.{WellFormed}
use Rattle.plan.proofs.Booleans.{all_at}
use Rattle.claims.proofs.Tables.{few_children, small_option, of_step_table}
use Rattle.claims.proofs.Sizes.{few_steps}
use Rattle.claims.proofs.Keys.{key_there}
use Rattle.plan.proofs.Counts.{mem_at}
use Rattle.claims.proofs.Every.{Every, every_of, every_member, every_both}
use Rattle.claims.specs.Limits.{ShortEdge}
use Rattle.claims.proofs.Printable.{Slim, Plain, Printable}

-- The edges as the graph is built ----------------------------------------------------------------------------------------------

no_edge_short : ShortEdge no_edge
no_edge_short = record { consumer = omega arith; slot = omega arith }

numbered_short : (key : ℕ → ℕ) (n j : ℕ) (ms : List ℕ) → n < 32 → j + length ms ≤ 8
    → Every ShortEdge no_edge (map (λ (k, m). record { consumer = n; slot = k; producer = some (key m); unordered = false }) (numbered j ms))
unfolding numbered
numbered_short key n j [] h k i = no_edge_short
numbered_short key n j (m ∷ ms) h k zero = record { consumer = h; slot = omega arith }
numbered_short key n j (m ∷ ms) h k (suc i) = numbered_short key n (suc j) ms h (omega arith) i

module _ (ps : List Step) (plain : Every Plain no_step ps) (key : ℕ → ℕ) (there : (n : ℕ) → n < 32 → key n < 32) where
  following_few : (met past : List ℕ) (n : ℕ) → length (following key ps met past n) ≤ 8
  unfolding following
  following_few met past n = by (opens key ps met past n)
    where
      by : (b : Bool) → length (if b then (step_at ps (key n)).inputs else []) ≤ 8
      by true = (plain (key n)).few_inputs
      by false = omega arith

  following_small : (met past : List ℕ) (n m : ℕ) → Memᴰ m (following key ps met past n) → m < 32
  unfolding following
  following_small met past n m = by (opens key ps met past n)
    where
      by : (b : Bool) → Memᴰ m (if b then (step_at ps (key n)).inputs else []) → m < 32
      by true k = every_member (λ m. m < 32) 0 (step_at ps (key n)).inputs (plain (key n)).inputs m k
      by false k = absurd (Memᴰ.not-nil k)

  grown_short : (f : ℕ) (met past waiting : List ℕ) (es : List Edge) → ((m : ℕ) → Memᴰ m waiting → m < 32) → Every ShortEdge no_edge es
      → Every ShortEdge no_edge (grow key f ps met past waiting es).1
  unfolding grow edges_into
  grown_short zero met past waiting es h k = k
  grown_short (suc f) met past [] es h k = k
  grown_short (suc f) met past (n ∷ ns) es h k =
      let ms = following key ps met past n in
      grown_short f met (n ∷ past) (ns ++ ms) (es ++ edges_into key n ms)
      (λ m j. elim (Memᴰ.append_cases ns j) [ inl j₁ ↦ h m (Memᴰ.tail j₁) | inr j₁ ↦ following_small met past n m j₁ ])
      (every_both ShortEdge no_edge es (edges_into key n ms) k (numbered_short key (key n) 0 ms (there n (h n (Memᴰ.head refl))) (omega (arith, following_few met past n))))

sinks_below : (f : ℕ × Step → Bool) (k : ℕ) (l : List Step) (m : ℕ) → Memᴰ m (map (λ (n, s). n) (select f (numbered k l))) → m < k + length l
unfolding select numbered
sinks_below f k [] m j = absurd (Memᴰ.not-nil j)
sinks_below f k (x ∷ l) m j = by (f (k, x)) (λ j. sinks_below f (suc k) l m j) j
  where
    by : (b : Bool) → (Memᴰ m (map (λ (n, s). n) (select f (numbered (suc k) l))) → m < suc k + length l)
        → Memᴰ m (map (λ (n, s). n) (if b then (k, x) ∷ select f (numbered (suc k) l) else select f (numbered (suc k) l)))
        → m < k + length (x ∷ l)
    by true g j = elim (Memᴰ.cases_cons j) [ inl e ↦ omega arith | inr j₁ ↦ omega (arith, g j₁) ]
    by false g j = omega (arith, g j)

graph_short : (ps : List Step) → length ps ≤ 32 → Every Plain no_step ps → Every ShortEdge no_edge (graph ps).1
unfolding graph build_ir_traversal_graph sinks
graph_short ps h plain =
    grown_short ps plain (key ps) (λ n l. key_there ps n h l) (most_places ps) (popped ps) [] (sinks ps) [] (λ m j. omega (arith, sinks_below _ 0 ps m j)) (λ i. no_edge_short)

-- A well-formed sheet ----------------------------------------------------------------------------------------------------------

module _ (sh : Sheet) (wf : WellFormed sh) where
  inputs_right : (n : ℕ) → n < length sh.steps → T (inputs_earlier sh (n, step_at sh.steps n))
  unfolding references_right
  inputs_right n h =
      let x : ℕ × Step = (n, step_at sh.steps n) in
      and_left (inputs_earlier sh x) (exprs_there sh x) (step_passes (references_right sh) sh wf.tested.references n h)

  slim_at_start : Every Slim no_expr sh.exprs
  slim_at_start =
      every_of Slim no_expr sh.exprs (record { option = omega arith; few = omega arith })
      (λ i h.
      let t = all_at in_expr_table sh.exprs no_expr wf.exprs_in_table i h in
      record { option = small_option (expr_at sh.exprs i) t; few = few_children (expr_at sh.exprs i) t })

  plain_at_start : Every Plain no_step sh.steps
  unfolding inputs_earlier
  plain_at_start =
      every_of Plain no_step sh.steps
      (record { small = record { a = omega arith; b = omega arith; c = omega arith }; few_inputs = omega arith; few_exprs = omega arith; few_aggs = omega arith; inputs = λ i. omega arith })
      (λ n h.
      let s = step_at sh.steps n in
      let t = of_step_table s (all_at in_step_table sh.steps no_step wf.steps_in_table n h) in
      let u = inputs_right n h in
      record {
        small = record { a = t.a; b = t.b; c = t.c };
        few_inputs = t.few_inputs;
        few_exprs = t.few_exprs;
        few_aggs = t.few_aggs;
        inputs =
            every_of (λ m. m < 32) 0 s.inputs (omega arith)
            (λ i g.
            let m = get_or s.inputs i 0 in
            let v = and_left (ltb m n) _ (of_all (λ m. ltb m n && not (same_ir (step_at sh.steps m).kind IR.Sink)) s.inputs u m (mem_at s.inputs i 0 g)) in
            omega (arith, ltb→lt m n v, few_steps sh wf));
      })

  pub printable_begin : Printable (begin sh)
  unfolding begin
  printable_begin =
      record { exprs = slim_at_start; steps = plain_at_start; edges = graph_short sh.steps (few_steps sh wf) plain_at_start; removed = omega arith }
