-- The limits of a run and of the finished sheet: at most 14080 bytes.
use mathlib.Core.Path.{◌≡◌, sym, ◌∙◌, subst}
use Prim.Native.Nat.{ℕ, ◌*◌, ◌≤◌, ◌<◌}
use native.Mathlib.Omega.{arith}
use mathlib.Core.List.Memᴰ
use mathlib.Core.List.{List, ◌∷◌, ◌++◌, Memᴰ}
use lib.ListN.{length, length-append}
use Rattle.plan.specs.Sheet.{Sheet, done, no_expr, no_step, expr_at, step_at}
use Rattle.plan.specs.Graph.{Edge, graph}
use Rattle.plan.specs.Visit.{Run, no_edge, simplify_ir_node_orders}
use Rattle.plan.specs.Walks.{begin, down, up}
use Rattle.claims.proofs.MergedPlan.{updated_own}
use Rattle.claims.proofs.Ends.{ends_on}
use Rattle.plan.specs.Text.{printed, exprs_block, steps_block, edges_block, tally_line, expr_line, step_line, edge_line, blocks, joined}
use Rattle.plan.specs.Finished.{run, finished}
use Rattle.claims.specs.WellFormed.{Accepted}
use Rattle.claims.specs.Limits.{ShortEdge, WithinLimits}
use Rattle.claims.proofs.Sizes.{few_places}
use Rattle.plan.proofs.Outcomes.{both_done, same_value}
use Rattle.claims.proofs.Taken.{well_formed}
use Rattle.claims.proofs.Walks.{walk_keeps}
use Rattle.claims.proofs.Once.{entries}
use Rattle.claims.proofs.VisitLooks.{Sound, inside_of_step}
use Rattle.claims.proofs.LooksBounded.{sound_visit, sound_begin}
use Rattle.claims.proofs.RunLimits.{Within, limits_down, limits_up, within_whole}
use Rattle.claims.proofs.Every.{place_of, every_member}
use Rattle.claims.proofs.Printable.{Printable, printable_visit}
use Rattle.claims.proofs.PrintableStart.{printable_begin}
use Rattle.claims.proofs.TextLength.{block_short, expr_line_short, step_line_short, edge_line_short, tally_line_short}

-- The four blocks --------------------------------------------------------------------------------------------------------------

module _ (r : Run) (k : Within 576 0 r) (p : Printable r) where
  arena_length : length r.arena ≤ 128
  arena_length = omega (arith, k.room)

  exprs_short : length (exprs_block r) ≤ 50 * length r.arena
  unfolding exprs_block
  exprs_short =
      block_short expr_line 50 r.arena
      (λ e m.
      let (i, h, j) = place_of r.arena no_expr e m in
      let slim = p.exprs i in
      let fits = k.sound.formed i in
      subst (λ x. length (expr_line x) ≤ 50) j
      (expr_line_short (expr_at r.arena i) (omega (arith, slim.option)) slim.few (λ c m. omega (arith, fits.earlier c m, arena_length))))

  -- the entries of a step are in the arena
  entries_small : (n q : ℕ) → Memᴰ q (entries (step_at r.steps n)) → q < 1000
  entries_small n q m =
      omega (arith, inside_of_step r k.sound n q m, arena_length)

  steps_short : length (steps_block r) ≤ 126 * length r.steps
  unfolding steps_block
  steps_short =
      block_short step_line 126 r.steps
      (λ s m.
      let (n, h, j) = place_of r.steps no_step s m in
      let x = step_at r.steps n in
      let plain = p.steps n in
      subst (λ y. length (step_line y) ≤ 126) j
      (step_line_short x (omega (arith, plain.small.a)) (omega (arith, plain.small.b)) (omega (arith, plain.small.c))
      (record { few = plain.few_inputs; small = λ c m. omega (arith, every_member (λ m. m < 32) 0 x.inputs plain.inputs c m) })
      (record { few = plain.few_exprs; small = λ c m. entries_small n c (Memᴰ.append_left x.aggs m) })
      (record { few = plain.few_aggs; small = λ c m. entries_small n c (Memᴰ.append_right x.exprs m) })))

  edges_short : length (edges_block r) ≤ 14 * length r.edges
  unfolding edges_block
  edges_short =
      block_short edge_line 14 r.edges
      (λ d m.
      let short = every_member ShortEdge no_edge r.edges p.edges d m in
      edge_line_short d (omega (arith, short.consumer)) (omega (arith, short.slot)))

  printed_short : length (printed r) ≤ 14080
  unfolding blocks joined printed
  printed_short =
      let tally = tally_line_short r (omega (arith, p.removed, k.visits)) (omega (arith, k.visits)) (omega (arith, k.looks, k.visits)) in
      omega (
        arith,
        length-append (exprs_block r ++ steps_block r ++ edges_block r) (tally_line r),
        length-append (exprs_block r ++ steps_block r) (edges_block r),
        length-append (exprs_block r) (steps_block r),
        exprs_short,
        steps_short,
        edges_short,
        arena_length,
        k.steps,
        k.edges,
      )

-- Every accepted sheet -------------------------------------------------------------------------------------------------------

abbrev Kept : List ℕ → Run → Type 0
Kept ns r = Sound r × Printable r

kept_visit : (n : ℕ) (ns : List ℕ) (r r' : Run) → Kept (n ∷ ns) r → simplify_ir_node_orders n r ≡ done r' → Kept ns r'
kept_visit n ns r r' (sound, p) e = (sound_visit n ns r r' sound e, printable_visit n r r' sound p e)

module _ (s : List ℕ) (sh : Sheet) (accepted : Accepted s sh) where
  -- a run that comes to its end
  short : (r : Run) → run s ≡ done r → Printable r × (length (printed r) ≤ 14080)
  unfolding down up
  short r e =
      let wf = well_formed s sh accepted in
      let x = ends_on s sh r accepted e in
      let half = x.half in
      let kept_half = walk_keeps Kept kept_visit (graph sh.steps).0 (begin sh) (sound_begin sh wf, printable_begin sh wf) x.down_ends in
      let kept = walk_keeps Kept kept_visit half.back half kept_half x.up_ends in
      let own : x.whole ≡ r = sym (x.updates ∙ updated_own sh wf x.whole) in
      subst (λ (q : Run). Printable q × (length (printed q) ≤ 14080)) own
      (kept.1, printed_short x.whole (within_whole sh wf half x.whole x.down_ends x.up_ends) kept.1)

  text_short : (out : List ℕ) → finished s ≡ done out → length out ≤ 14080
  unfolding finished
  text_short out e =
      let (r, e₁, e₂) = both_done (run s) (λ r. done (printed r)) e in
      subst (λ (l : List ℕ). length l ≤ 14080) (same_value e₂) (short r e₁).1

  each_edge_short : (r : Run) → run s ≡ done r → (d : Edge) → Memᴰ d r.edges → ShortEdge d
  each_edge_short r e = every_member ShortEdge no_edge r.edges (short r e).0.edges

pub within_limits : WithinLimits
within_limits s sh accepted =
    let wf = well_formed s sh accepted in
    record {
      places = few_places sh wf;
      visited_down = limits_down sh wf;
      visited_up = limits_up sh wf;
      text = text_short s sh accepted;
      edges = each_edge_short s sh accepted;
    }
