-- The walks keep which steps are Caches and how many inputs a step has, so update_cache_nodes may follow them.
use mathlib.Core.Path.{◌≡◌, refl, sym, ap, ◌∙◌, subst}
use mathlib.Core.Logic.{inl, inr}
use mathlib.Core.List.{List}
use Prim.Native.Nat.{ℕ}
use lib.Dec.{T}
use lib.ListN.{length}
use Rattle.plan.specs.declared.ir.IR.{IR}
use Rattle.plan.specs.Kinds.{ir_number, same_ir}
use Rattle.plan.specs.FunctionIR.{rust_functions}
use Rattle.plan.specs.Sheet.{Step, Sheet, done, no_step, step_at, in_step_table}
use Rattle.plan.specs.Graph.{graph, is_cache}
use Rattle.plan.specs.declared.rules.Options.{Options}
use Rattle.plan.specs.declared.rules.Around.{Around}
use Rattle.plan.specs.declared.rules.Observable.{Observable}
use Rattle.plan.specs.Visit.{Run, arm, rule, looked_in, looks_of, simplify_ir_node_orders, ruling_of}
use Rattle.plan.specs.Walks.{begin, down, up}
use Rattle.plan.proofs.Settling.{ruling}
use Rattle.claims.specs.WellFormed.{WellFormed}
use Rattle.plan.proofs.Booleans.{T_eq, all_at}
use Rattle.claims.proofs.Rules.{ruled_by}
use Rattle.claims.proofs.StepTable.{cache_has_one_input}
use Rattle.plan.proofs.KindNumbers.{same_kind, in_range}
use Rattle.claims.proofs.Visitables.{step_kept, inputs_kept}
use Rattle.claims.proofs.Walks.{walk_keeps}
use Rattle.ir_graph.specs.UpdateCaches.{first_lines, line_met, Updatable}
use Rattle.ir_graph.proofs.UpdateCaches.{first_cache, first_own}

-- A visit ------------------------------------------------------------------------------------------------------------------------

ruled_cache : (s : Options) (e : Around) (o : Observable) → s.kind ≡ IR.Cache → (rule rust_functions s e o).options.kind ≡ IR.Cache
unfolding arm
ruled_cache s e o i = ap (λ (k : IR). (arm s e o rust_functions k).options.kind) i ∙ i

cache_ruled : (n : ℕ) (r : Run) → same_ir (ruling n r).options.kind IR.Cache ≡ is_cache r.steps n
unfolding ruling_of looked_in looks_of
cache_ruled n r =
    let Is : IR → Type 0 = λ k. T (same_ir k IR.Cache) in
    T_eq (same_ir (ruling n r).options.kind IR.Cache) (is_cache r.steps n)
    (λ t. elim (ruled_by n r).kind [ inl k ↦ subst Is k t | inr k ↦ absurd (subst Is k t) ])
    (λ t. subst Is (sym (ruled_cache _ _ (looked_in n r).observable (same_kind (step_at r.steps n).kind IR.Cache t))) tt)

-- Both walks ---------------------------------------------------------------------------------------------------------------------

pub record SameCaches (sent ps : List Step) : Type 0 where
  pub cache : (m : ℕ) → is_cache ps m ≡ is_cache sent m
  pub inputs : (m : ℕ) → length (step_at ps m).inputs ≡ length (step_at sent m).inputs

same_visit : (sent : List Step) (n : ℕ) (ns : List ℕ) (r r' : Run) → SameCaches sent r.steps → simplify_ir_node_orders n r ≡ done r' → SameCaches sent r'.steps
same_visit sent n ns r r' s e =
    record {
      cache = λ m. step_kept n r e (λ x. same_ir x.kind IR.Cache) (λ k v x. refl) (cache_ruled n r) m ∙ s.cache m;
      inputs = λ m. inputs_kept n r e m ∙ s.inputs m;
    }

module _ (sh : Sheet) (half whole : Run) (goes_down : down sh ≡ done half) (goes_up : up half ≡ done whole) where
  pub same_after : SameCaches sh.steps whole.steps
  unfolding down up begin
  same_after =
      let Same : List ℕ → Run → Type 0 = λ ns q. SameCaches sh.steps q.steps in
      let there = walk_keeps Same (same_visit sh.steps) (graph sh.steps).0 (begin sh) (record { cache = λ m. refl; inputs = λ m. refl }) goes_down in
      walk_keeps Same (same_visit sh.steps) half.back half there goes_up

  -- update_cache_nodes after them
  pub updatable_after : WellFormed sh → Updatable (first_lines sh.steps) whole.steps
  updatable_after w =
      record {
        input =
            λ m t.
            let k = same_kind (step_at sh.steps m).kind IR.Cache (sent m t) in
            let row = all_at in_step_table sh.steps no_step w.steps_in_table m (in_range sh.steps m (ap ir_number k)) in
            same_after.inputs m ∙ cache_has_one_input (step_at sh.steps m) k row;
        cache = λ m t. subst T (sym (same_after.cache (line_met (first_lines sh.steps) m))) (first_cache sh.steps m (sent m t));
        own = λ m t. first_own sh.steps m (sent m t);
      }
    where
      sent : (m : ℕ) → T (is_cache whole.steps m) → T (is_cache sh.steps m)
      sent m t = subst T (same_after.cache m) t
