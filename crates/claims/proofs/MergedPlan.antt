-- The merged plan where each id has one Cache line, as on a well-formed sheet: every step is its own key, and nothing is merged.
use Rattle.std.specs.Prelude.{if◌then◌else◌}
use mathlib.Core.Path.{◌≡◌, refl, ap, ap₂, sym, ◌∙◌, subst}
use mathlib.Core.Logic.{inl, inr}
use Prim.Native.Nat.{ℕ, suc, ◌+◌, ◌≤◌, ◌<◌}
use native.Mathlib.Omega.{arith}
use mathlib.Core.Bool.{Bool, true, false}
use mathlib.Core.List.{List, [], ◌∷◌, ◌++◌, map}
use lib.Dec.{T}
use lib.ListN.{length}
use Rattle.plan.specs.declared.ir.IR.{IR}
use Rattle.plan.specs.Lists.{numbered, times}
use Rattle.plan.specs.Sheet.{Step, Sheet, step_at}
use Rattle.plan.specs.Graph.{sinks, is_cache, one_id, first_met, all_steps, popped, key, hits, Edge, graph, update_cache_nodes}
use Rattle.plan.specs.Faults.{named}
use Rattle.plan.specs.Visit.{Run}
use Rattle.plan.specs.Walks.{updated}
use Rattle.plan.specs.Kinds.{same_ir}
use Rattle.claims.specs.WellFormed.{WellFormed}
use Rattle.plan.proofs.Booleans.{equal}
use Rattle.plan.proofs.Counts.{true_of}
use Rattle.claims.specs.Plan.{Plan}
use Rattle.claims.proofs.Plans.{plan_of, rooted_or_named}
use Rattle.claims.proofs.Keys.{met_one}
use Rattle.claims.proofs.Merged.{merged, as_merged, kept, map_kept, popped_keys, graph_merged}
use Rattle.claims.proofs.Hits.{hits_named}
use Rattle.claims.proofs.Places.{Ordered, graph_ordered}
use Rattle.claims.proofs.FirstMet.{key_met}
use Rattle.claims.proofs.ByLine as by_line

-- What the claims rest on: the merged plan is a plan, and lines with one id name one input
pub record Keyed (ps : List Step) : Type 0 where
  pub plan : Plan (merged ps)
  -- every key is a root or named
  pub rooted : (n : ℕ) → n < length ps → key ps n ≡ n → 1 ≤ times n (sinks (merged ps)) + times n (named (merged ps))
  pub shared : (k m : ℕ) → T (one_id ps k m) → (step_at ps k).inputs ≡ (step_at ps m).inputs

-- Where each id has one line -----------------------------------------------------------------------------------------------------------

module _ (ps : List Step) (plan : Plan ps) where
  met_own : (l : List ℕ) (n : ℕ) → first_met ps l n ≡ n
  met_own l n = elim (met_one ps l n) [ inl e ↦ e | inr (t, _) ↦ plan.ids (first_met ps l n) n t ]

  -- every step is its own key
  pub key_own : (n : ℕ) → key ps n ≡ n
  unfolding key
  key_own = met_own (popped ps ++ all_steps ps)

  pub merged_own : merged ps ≡ ps
  unfolding merged numbered
  merged_own = from 0 ps
    where
      same : (n : ℕ) (s : Step) (b : Bool) → b ≡ true → map (key ps) s.inputs ≡ s.inputs
          → ◌≡◌ {A = Step} (record {
            kind = if b then s.kind else IR.Scan;
            a = s.a;
            b = s.b;
            c = s.c;
            inputs = if b then map (key ps) s.inputs else [];
            exprs = s.exprs;
            aggs = s.aggs;
          }) s
      same n s true e i = λ j. record { kind = s.kind; a = s.a; b = s.b; c = s.c; inputs = i j; exprs = s.exprs; aggs = s.aggs }
      same n s false e i = absurd (subst T (sym e) tt)

      from : (k : ℕ) (l : List Step) → map (as_merged ps) (numbered k l) ≡ l
      from k [] = refl
      from k (x ∷ l) =
          ap₂ (λ (s : Step) (r : List Step). s ∷ r)
          (same k x (kept ps k) (true_of (kept ps k) (equal (key ps k) k (key_own k))) (map_kept (key ps) x.inputs (λ n _. key_own n))) (from (suc k) l)

  merged_plan : Plan (merged ps)
  merged_plan = subst Plan (sym merged_own) plan

  -- so both passes go line by line
  pub popped_own : popped ps ≡ by_line.popped ps
  popped_own = sym (map_kept (key ps) (popped ps) (λ n _. key_own n)) ∙ popped_keys ps merged_plan ∙ ap by_line.popped merged_own

  pub hits_own : (n : ℕ) → hits (key ps) (popped ps) n ≡ times n (by_line.popped ps)
  unfolding hits
  hits_own n = ap₂ (λ (m : ℕ) (l : List ℕ). times m l) (key_own n) (map_kept (key ps) (popped ps) (λ m _. key_own m) ∙ popped_own)

  -- a Cache is met as often as it is named
  pub met_as_named : (n : ℕ) → T (is_cache ps n) → hits (key ps) (popped ps) n ≡ times n (named ps)
  met_as_named n t = hits_own n ∙ hits_named ps plan n t

  pub key_first : (n : ℕ) → key ps n ≡ first_met ps (popped ps) n
  key_first = key_met ps merged_plan

  pub graph_own : graph ps ≡ by_line.graph ps
  graph_own = graph_merged ps merged_plan ∙ ap by_line.graph merged_own

  pub ordered_own : Ordered ps (graph ps).0 (graph ps).1
  ordered_own = subst (λ (x : List ℕ × List Edge). Ordered ps x.0 x.1) (sym graph_own) (graph_ordered ps plan)

-- Of a well-formed sheet -----------------------------------------------------------------------------------------------------------------

module _ (sh : Sheet) (w : WellFormed sh) where
  abbrev sent : List Step
  sent = sh.steps

  plan : Plan sent
  plan = plan_of sh w

  pub keyed_of : Keyed sent
  keyed_of = record {
    plan = merged_plan sent plan;
    rooted = λ n h _. subst (λ (qs : List Step). 1 ≤ times n (sinks qs) + times n (named qs)) (sym (merged_own sent plan)) (rooted_or_named sh w n h);
    shared = λ k m t. ap (λ (n : ℕ). (step_at sent n).inputs) (plan.ids k m t);
  }

  -- so update_cache_nodes changes nothing
  pub updated_own : (r : Run) → updated sh r ≡ r
  unfolding updated update_cache_nodes numbered
  updated_own r =
      λ j. record { arena = r.arena; steps = from 0 r.steps (λ n h. ap (step_at r.steps) (omega arith)) j; edges = r.edges; back = r.back; removed = r.removed; tally = r.tally }
    where
      own : (k : ℕ) (x : Step) → step_at r.steps k ≡ x → (b : Bool) → (if b then step_at r.steps (key sent k) else x).inputs ≡ x.inputs
      own k x e true = ap (λ (n : ℕ). (step_at r.steps n).inputs) (key_own sent plan k) ∙ ap (λ (s : Step). s.inputs) e
      own k x e false = refl

      from : (k : ℕ) (l : List Step) → ((n : ℕ) → n < length l → step_at r.steps (k + n) ≡ step_at l n)
          → map (λ (n, s).
          let met = if same_ir s.kind IR.Cache then step_at r.steps (key sent n) else s in
          record { kind = s.kind; a = s.a; b = s.b; c = s.c; inputs = met.inputs; exprs = s.exprs; aggs = s.aggs }) (numbered k l) ≡ l
      from k [] h = refl
      from k (x ∷ l) h =
          let here : step_at r.steps k ≡ x = ap (step_at r.steps) (omega arith) ∙ h 0 (omega arith) in
          let inputs = own k x here (same_ir x.kind IR.Cache) in
          let same : ◌≡◌ {A = Step} (record { kind = x.kind; a = x.a; b = x.b; c = x.c; inputs = (if same_ir x.kind IR.Cache then step_at r.steps (key sent k) else x).inputs; exprs = x.exprs; aggs = x.aggs }) x =
          λ j. record { kind = x.kind; a = x.a; b = x.b; c = x.c; inputs = inputs j; exprs = x.exprs; aggs = x.aggs } in
          ap₂ (λ (s : Step) (m : List Step). s ∷ m) same
          (from (suc k) l (λ n i. ap (step_at r.steps) (omega arith) ∙ h (suc n) (omega arith)))
