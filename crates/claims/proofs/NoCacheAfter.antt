-- No Cache stands after the sort that it names: it is the consumer of the edge out of it.
use mathlib.Core.Path.{◌≡◌, refl, ap, sym, ◌∙◌, subst}
use mathlib.Core.Logic.{◌≢◌}
use Prim.Native.Nat.{ℕ, zero, suc, ◌≤◌, ◌<◌}
use native.Mathlib.Omega.{arith}
use native.Mathlib.Nat.{not-suc-le-zero}
use native.Mathlib.Decide.{ℕ_discrete}
use mathlib.Core.List.{List, [], ◌∷◌, map, Memᴰ}
use lib.Dec.{T}
use lib.ListN.{length, get_or, length-map}
use Rattle.plan.specs.declared.ir.IR.{IR}
use Rattle.plan.specs.Kinds.{same_ir}
use Rattle.plan.specs.Lists.{times, concat_map}
use Rattle.plan.specs.Sheet.{Step, Sheet, step_at}
use Rattle.plan.specs.Faults.{named}
use Rattle.plan.specs.Graph.{key, build_ir_traversal_graph, graph}
use Rattle.plan.specs.Visit.{is_out_of}
use Rattle.plan.proofs.ListLaws.{sum_append}
use Rattle.claims.specs.Demand3.{IsSort, CacheAfter, NoCacheAfter}
use Rattle.claims.proofs.Taken.{well_formed}
use Rattle.plan.proofs.Counts.{mem_at, some_counted, times_of, only}
use Rattle.claims.proofs.Keys.{key_other, key_id, key_key}
use Rattle.claims.proofs.Merged.{merged, merged_inputs}
use Rattle.claims.proofs.MergedPlan.{Keyed, keyed_of}
use Rattle.claims.proofs.Edges.{producer_of}
use Rattle.claims.proofs.Links.{Clear}
use Rattle.claims.proofs.Starts.{sort_key, named_once, one_edge, named_by, consumer_before}

named_in : (n : ℕ) (ps : List Step) (c : ℕ) → Memᴰ n (step_at ps c).inputs → 1 ≤ times n (named ps)
unfolding named concat_map
named_in n [] c m = absurd (mathlib.Core.List.Memᴰ.not-nil m)
named_in n (x ∷ ps) zero m = omega (arith, times_of n x.inputs m, sum_append (only n) x.inputs (named ps))
named_in n (x ∷ ps) (suc c) m = omega (arith, named_in n ps c m, sum_append (only n) x.inputs (named ps))

-- a step that two steps name is named twice
named_twice : (n : ℕ) (ps : List Step) (c c' : ℕ) → Memᴰ n (step_at ps c).inputs → Memᴰ n (step_at ps c').inputs → c ≢ c' → 2 ≤ times n (named ps)
unfolding named concat_map
named_twice n [] c c' m m' h = absurd (mathlib.Core.List.Memᴰ.not-nil m)
named_twice n (x ∷ ps) zero zero m m' h = absurd (h refl)
named_twice n (x ∷ ps) zero (suc c') m m' h =
    omega (arith, times_of n x.inputs m, named_in n ps c' m', sum_append (only n) x.inputs (named ps))
named_twice n (x ∷ ps) (suc c) zero m m' h =
    omega (arith, times_of n x.inputs m', named_in n ps c m, sum_append (only n) x.inputs (named ps))
named_twice n (x ∷ ps) (suc c) (suc c') m m' h =
    omega (arith, named_twice n ps c c' m m' (λ e. h (ap suc e)), sum_append (only n) x.inputs (named ps))

not_after : (c n i j : ℕ) (l : List ℕ) → Clear c n l → i < j → j < length l → get_or l i 0 ≡ n → get_or l j 0 ≡ c → ⊥
not_after c n i j [] k h b e f = not-suc-le-zero b
not_after c n zero zero (x ∷ l) k h b e f = omega arith
not_after c n zero (suc j) (x ∷ l) k h b e f = (k.0 e).1 (subst (λ y. Memᴰ y l) f (mem_at l j 0 (omega arith)))
not_after c n (suc i) zero (x ∷ l) k h b e f = omega arith
not_after c n (suc i) (suc j) (x ∷ l) k h b e f = not_after c n i j l k.1 (omega arith) (omega arith) e f

-- what c names, its line in the merged plan names by key
names_merged : (sh : Sheet) (c n : ℕ) → IsSort sh n → key sh.steps c ≡ c → (step_at sh.steps c).inputs ≡ n ∷ [] → Memᴰ n (step_at (merged sh.steps) c).inputs
names_merged sh c n e own names =
    let ps = sh.steps in
    let one : (step_at (merged ps) c).inputs ≡ key ps n ∷ [] = merged_inputs ps c own ∙ ap (map (key ps)) names in
    subst (λ l. Memᴰ n l) (sym one) (mathlib.Core.List.Memᴰ.head (sym (key_other ps n (ap (λ (k : IR). same_ir k IR.Cache) e))))

-- a place of the visiting list, and its key
key_at : (ps : List Step) (i : ℕ) → i < length (build_ir_traversal_graph ps).0 → get_or (graph ps).0 i 0 ≡ key ps (get_or (build_ir_traversal_graph ps).0 i 0)
unfolding graph
key_at ps i h = in_map (build_ir_traversal_graph ps).0 i h
  where
    in_map : (l : List ℕ) (j : ℕ) → j < length l → get_or (map (key ps) l) j 0 ≡ key ps (get_or l j 0)
    in_map [] j h = absurd (not-suc-le-zero h)
    in_map (x ∷ l) zero h = refl
    in_map (x ∷ l) (suc j) h = in_map l j (omega arith)

as_many : (ps : List Step) → length (graph ps).0 ≡ length (build_ir_traversal_graph ps).0
unfolding graph
as_many ps = simp length-map

pub none_after : (sh : Sheet) → Keyed sh.steps → (n : ℕ) → IsSort sh n → ¬ CacheAfter sh n
none_after sh keyed n e (c, k, names, (i, j, h, b, at, at')) =
    let ps = sh.steps in
    let places = (graph ps).0 in
    let many = as_many ps in
    let t = subst (λ (x : IR). T (same_ir x IR.Cache)) (sym k) tt in
    let mine = names_merged sh (key ps c) n e (key_key ps c) (keyed.shared (key ps c) c (key_id ps c t) ∙ names) in
    let at_n : get_or places i 0 ≡ n = key_at ps i (omega arith) ∙ ap (key ps) at ∙ sort_key sh keyed n e in
    let at_c : get_or places j 0 ≡ key ps c = key_at ps j b ∙ ap (key ps) at' in
    let here : Memᴰ n places = subst (λ x. Memᴰ x places) at_n (mem_at places i 0 (omega arith)) in
    let (d, m, o) = some_counted (is_out_of n) (graph ps).1 (omega (arith, one_edge sh keyed n e, times_of n places here)) in
    let q = producer_of n d o in
    not_after (key ps c) n i j places (by (ℕ_discrete d.consumer (key ps c)) (named_by sh keyed n d m q) mine (consumer_before sh keyed n e d m q)) h (omega arith) at_n at_c
  where
    by : {x y : ℕ} → Dec (x ≡ y) → Memᴰ n (step_at (merged sh.steps) x).inputs → Memᴰ n (step_at (merged sh.steps) y).inputs
        → Clear x n (graph sh.steps).0 → Clear y n (graph sh.steps).0
    by (yes s) m m' k = subst (λ y. Clear y n (graph sh.steps).0) s k
    by {x} {y} (no s) m m' k = absurd (omega (arith, named_twice n (merged sh.steps) x y m m' s, named_once sh keyed n e))

pub no_cache_after : NoCacheAfter
no_cache_after s sh a = none_after sh (keyed_of sh (well_formed s sh a))
