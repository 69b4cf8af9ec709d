-- The links between sorts and edges when the downward walk begins.
use Rattle.std.specs.Prelude.{if◌then◌else◌}
use mathlib.Core.Path.{◌≡◌, refl, ap, sym, ◌∙◌, subst}
use mathlib.Core.Logic.{inl, inr, ◌≢◌}
use Prim.Native.Nat.{ℕ, ◌+◌, ◌≤◌, ◌<◌}
use native.Mathlib.Omega.{arith}
use mathlib.Core.Bool.{not}
use mathlib.Core.List.Memᴰ
use mathlib.Core.List.{List, [], ◌∷◌, ◌++◌, reverse, reverse-cons, Memᴰ}
use mathlib.Core.Option.{some}
use lib.Dec.{T}
use lib.ListN.{length, get_or}
use Rattle.plan.specs.declared.ir.IR.{IR}
use Rattle.plan.specs.Kinds.{ir_number, same_ir}
use Rattle.plan.specs.Lists.{sum, times}
use Rattle.plan.specs.Sheet.{Step, Sheet, step_at}
use Rattle.plan.specs.Faults.{named}
use Rattle.plan.specs.Graph.{Edge, key, graph, sinks, is_cache}
use Rattle.plan.specs.Walks.{begin}
use Rattle.claims.specs.Demand3.{IsSort}
use Rattle.plan.proofs.Counts.{mem_at, sum_reverse, times_of, times_same, only}
use Rattle.plan.proofs.KindNumbers.{in_range}
use Rattle.claims.specs.Plan.{Plan}
use Rattle.claims.proofs.Keys.{key_other}
use Rattle.claims.proofs.Merged.{merged, merged_kind, ordered_graph}
use Rattle.claims.proofs.MergedPlan.{Keyed}
use Rattle.claims.proofs.Edges.{outs, same_some}
use Rattle.claims.proofs.Places.{Later, Ordered}
use Rattle.claims.proofs.Links.{Clear, OneIn, Linked}

clear_without : (c n : ℕ) (l : List ℕ) → ¬ Memᴰ n l → Clear c n l
clear_without c n [] h = tt
clear_without c n (x ∷ l) h = (λ e. absurd (h (Memᴰ.head (sym e))), clear_without c n l (λ m. h (Memᴰ.tail m)))

clear_snoc : (c n x : ℕ) (l : List ℕ) → x ≢ c → Clear c n l → Clear c n (l ++ (x ∷ []))
clear_snoc c n x [] h k = (λ e. (h, Memᴰ.not-nil), tt)
clear_snoc c n x (y ∷ l) h k = (
  λ e. ((k.0 e).0, λ m. elim (Memᴰ.append_cases l m) [ inl m' ↦ (k.0 e).1 m' | inr m' ↦ h (sym (Memᴰ.eq_of_singleton m')) ]),
  clear_snoc c n x l h k.1,
)

later_clear : (c n : ℕ) (p : List ℕ) → n ≢ c → times n p ≤ 1 → Later n c p → Clear c n (reverse p)
unfolding sum
later_clear c n [] h o l = absurd l
later_clear c n (x ∷ p) h o l =
    rw reverse-cons (elim l [
      | inl e ↦ clear_snoc c n x (reverse p) (λ i. h (sym e ∙ i)) (clear_without c n (reverse p) (λ m. twice e m))
      | inr k ↦ clear_snoc c n x (reverse p) k.0 (later_clear c n p h (omega arith) k.1)
    ])
  where
    twice : x ≡ n → Memᴰ n (reverse p) → ⊥
    twice e m =
        let one = times_of n (reverse p) m in
        omega (arith, one, sum_reverse (only n) p, subst (λ y. times n (y ∷ p) ≤ 1) e o, times_same n p)

module _ (sh : Sheet) (keyed : Keyed sh.steps) where
  abbrev ps : List Step
  ps = sh.steps

  abbrev plan : Plan (merged ps)
  plan = keyed.plan

  pub sort_key : (n : ℕ) → IsSort sh n → key ps n ≡ n
  sort_key n e = key_other ps n (ap (λ (k : IR). same_ir k IR.Cache) e)

  sort_merged : (n : ℕ) → IsSort sh n → (step_at (merged ps) n).kind ≡ IR.Sort
  sort_merged n e = merged_kind ps n (sort_key n e) ∙ e

  abbrev places : List ℕ
  places = (graph ps).0

  abbrev edges : List Edge
  edges = (graph ps).1

  pub g : Ordered (merged ps) places edges
  g = ordered_graph ps plan

  not_cache : (n : ℕ) → IsSort sh n → T (not (is_cache (merged ps) n))
  not_cache n e = subst (λ (k : IR). T (not (same_ir k IR.Cache))) (sym (sort_merged n e)) tt

  pub named_once : (n : ℕ) → IsSort sh n → times n (sinks (merged ps)) + times n (named (merged ps)) ≤ 1
  named_once n e = plan.once n (not_cache n e)

  -- a sort is a root or named
  pub sort_rooted : (n : ℕ) → IsSort sh n → 1 ≤ times n (sinks (merged ps)) + times n (named (merged ps))
  sort_rooted n e =
      elim (plan.rooted n (in_range (merged ps) n (ap ir_number (sort_merged n e)))) [
        | inl h ↦ h
        | inr i ↦ let one = plan.one_input n (sort_merged n e) in absurd (omega (arith, ap length i))
      ]

  one_place : (n : ℕ) → IsSort sh n → times n places ≤ 1
  one_place n e = omega (arith, g.placed_all (only n), named_once n e)

  pub one_edge : (n : ℕ) → IsSort sh n → outs n edges ≡ times n places
  one_edge n e =
      let unrooted : times n (sinks (merged ps)) ≡ 0 = plan.roots n ∙ ap (λ (k : IR). if same_ir k IR.Sink then 1 else 0) (sort_merged n e) in
      omega (arith, g.leaving n)

  pub named_by : (n : ℕ) (d : Edge) → Memᴰ d edges → d.producer ≡ some n → Memᴰ n (step_at (merged ps) d.consumer).inputs
  named_by n d m j =
      let (h, q) = g.made d m in
      let inputs = (step_at (merged ps) d.consumer).inputs in
      subst (λ x. Memᴰ x inputs) (same_some (sym q ∙ j)) (mem_at inputs d.slot 0 h)

  -- the consumer of an edge out of a sort
  pub consumer_before : (n : ℕ) → IsSort sh n → (d : Edge) → Memᴰ d edges → d.producer ≡ some n → Clear d.consumer n places
  consumer_before n e d m j =
      let apart : n ≢ d.consumer = λ i. let h = subst (λ x. plan.rank n < plan.rank x) (sym i) (plan.lower d.consumer n (named_by n d m j)) in omega arith in
      let one = subst (λ l. times n l ≤ 1) g.reversed (one_place n e) in
      rw g.reversed (later_clear d.consumer n g.back apart (omega (arith, one, sum_reverse (only n) g.back)) (g.after d m n j))

  enters_at : (n : ℕ) → IsSort sh n → Memᴰ n places → OneIn n edges
  enters_at n e m =
      let l = plan.one_input n (sort_merged n e) in
      record {
        from = get_or (step_at (merged ps) n).inputs 0 0;
        one = omega (arith, g.entering n (not_cache n e) l, times_of n places m, one_place n e);
        linked =
            λ d k j.
            let Named : ℕ → Type 0 = λ x. let inputs = (step_at (merged ps) x).inputs in (d.slot < length inputs) × (d.producer ≡ some (get_or inputs d.slot 0)) in
            let (h, q) = subst Named j (g.made d k) in
            let first : d.slot ≡ 0 = omega arith in
            (first, q ∙ ap (λ x. some (get_or (step_at (merged ps) n).inputs x 0)) first);
      }

  pub linked_begin : Linked ps places (begin sh)
  unfolding begin sum
  linked_begin = record {
    sorts = λ n. refl;
    once = λ n e. omega (arith, one_place n e);
    leaves = λ n e. omega (arith, one_edge n e);
    enters = enters_at;
    clear = consumer_before;
    kept = tt;
  }
