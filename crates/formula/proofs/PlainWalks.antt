-- No walk over Scans, Selects and Sinks that are not partitioned is refused.
use Rattle.std.specs.Prelude.{if◌then◌else◌}
use mathlib.Core.Path.{◌≡◌, refl, ap, sym, ◌∙◌, subst}
use Prim.Native.Nat.{ℕ}
use mathlib.Core.Bool.{Bool, false, ◌&&◌, not}
use mathlib.Core.List.{List, [], ◌∷◌}
use lib.Dec.{eqb}
use Rattle.plan.specs.declared.ir.IR.{IR}
use Rattle.plan.specs.Kinds.{same_ir}
use Rattle.plan.specs.Lists.{yes?}
use Rattle.plan.specs.Sheet.{Step, Sheet, Outcome, refused, done, ◌then◌, step_at}
use Rattle.plan.specs.FunctionIR.{rust_functions}
use Rattle.plan.specs.declared.rules.Options.{Options}
use Rattle.plan.specs.declared.rules.Around.{Around}
use Rattle.plan.specs.declared.rules.Observable.{Observable}
use Rattle.plan.specs.Visit.{Run, arm, elementwise, refusal_number, options_of, simplify_ir_node_orders, goes, out_edge, unlink_node, settle, settled_by, looked_in, looks_of, ruling_of}
use Rattle.plan.specs.Walks.{walk, walk_by, begin, down, up, updated, simplify_and_fetch_orderings}
use Rattle.plan.specs.Finished.{run}
use Rattle.plan.specs.Graph.{graph}
use Rattle.plan.proofs.Settling.{settled, ruled_step}
use Rattle.claims.specs.WellFormed.{Accepted}
use Rattle.claims.proofs.Stays.{reads_kept}

-- a Scan, a Select, or a Sink that is not partitioned
pub data Plain (k : IR) (b : ℕ) : Type 0 where
  scan : k ≡ IR.Scan → Plain k b
  select : k ≡ IR.Select → Plain k b
  sink : k ≡ IR.Sink → yes? b ≡ false → Plain k b

abbrev shape : Step → IR × ℕ
shape s = (s.kind, s.b)

abbrev PlainShape : IR × ℕ → Type 0
PlainShape x = Plain x.0 x.1

abbrev pub AllPlain : List Step → Type 0
AllPlain ps = (n : ℕ) → PlainShape (shape (step_at ps n))

-- A visit -------------------------------------------------------------------------------------------------------------------

module _ (s : Options) (o : Observable) where
  -- kind and b by the arm of a kind
  abbrev shape_by : Around → IR → IR × ℕ
  shape_by e k = let x = (arm s e o rust_functions k).options in (x.kind, x.b)

  shape_kept : (e : Around) → Plain s.kind s.b → shape_by e s.kind ≡ (s.kind, s.b)
  unfolding arm
  shape_kept e (Plain.scan i) = ap (shape_by e) i
  shape_kept e (Plain.select i) = ap (shape_by e) i
  shape_kept e (Plain.sink i h) = ap (shape_by e) i

  abbrev number_by : IR → Bool → ℕ
  number_by k b = if same_ir k IR.Join && not (elementwise o) then 10 else if same_ir k IR.Sink && b && not (elementwise o) then 11 else 0

  not_refused : Plain s.kind s.b → refusal_number s o ≡ 0
  unfolding refusal_number
  not_refused (Plain.scan i) = ap (λ k. number_by k (yes? s.b)) i
  not_refused (Plain.select i) = ap (λ k. number_by k (yes? s.b)) i
  not_refused (Plain.sink i h) = ap (λ k. number_by k (yes? s.b)) i ∙ ap (number_by IR.Sink) h

module _ (n : ℕ) (r : Run) where
  abbrev may_go : IR → Bool
  may_go k = same_ir k IR.Sort && (out_edge n r.edges).unordered && not (yes? (step_at r.steps n).b)

  stays : PlainShape (shape (step_at r.steps n)) → goes n r ≡ false
  unfolding goes
  stays (Plain.scan i) = ap may_go i
  stays (Plain.select i) = ap may_go i
  stays (Plain.sink i h) = ap may_go i

-- it passes
visit_done : (n : ℕ) (r : Run) → PlainShape (shape (step_at r.steps n)) → simplify_ir_node_orders n r ≡ done (settled n r)
unfolding simplify_ir_node_orders settle looked_in looks_of
visit_done n r p =
    ap (λ (b : Bool). if b then done (unlink_node n r) else settle n r) (stays n r p)
    ∙ ap (λ (k : ℕ). if eqb k 0 then done (settled n r) else refused k)
    (not_refused (options_of (looked_in n r).step) (looked_in n r).observable p)

-- and leaves the steps plain
visit_plain : (n : ℕ) (r : Run) → AllPlain r.steps → AllPlain (settled n r).steps
unfolding settled_by ruling_of looked_in looks_of
visit_plain n r p m =
    let same = shape_kept (options_of (looked_in n r).step) (looked_in n r).observable (looked_in n r).around (p n) in
    subst PlainShape (sym (reads_kept shape r.steps n (ruled_step n r) same m)) (p m)

-- A walk --------------------------------------------------------------------------------------------------------------------

walk_passes : (ns : List ℕ) (r : Run) → AllPlain r.steps → (r' : Run) × (walk ns r ≡ done r') × AllPlain r'.steps
unfolding walk_by ◌then◌
walk_passes [] r p = (r, refl, p)
walk_passes (n ∷ ns) r p =
    let (r', e, p') = walk_passes ns (settled n r) (visit_plain n r p) in
    (r', ap (λ (o : Outcome Run). o then λ x. walk ns x) (visit_done n r (p n)) ∙ e, p')

-- both walks of an accepted sheet
pub plain_runs : (s : List ℕ) (sh : Sheet) → Accepted s sh → AllPlain sh.steps → (whole : Run) × (run s ≡ done whole)
unfolding run simplify_and_fetch_orderings down up begin ◌then◌
plain_runs s sh a p =
    let (half, e, p') = walk_passes (graph sh.steps).0 (begin sh) p in
    let (r, f, _) = walk_passes half.back half p' in
    let starts = ap (λ (o : Outcome Sheet). o then simplify_and_fetch_orderings) a in
    let goes_down = ap (λ (o : Outcome Run). o then up then λ x. done (updated sh x)) e in
    (updated sh r, starts ∙ goes_down ∙ ap (λ (o : Outcome Run). o then λ x. done (updated sh x)) f)
