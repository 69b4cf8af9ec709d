-- Sorts without slice: no visit makes or ends one, and one that stays keeps an ordered edge until its visit on the way up.
use Rattle.std.specs.Prelude.{if◌then◌else◌}
use mathlib.Core.Path.{◌≡◌, refl, ap, sym, ◌∙◌, subst}
use mathlib.Core.Logic.{inl, inr}
use Prim.Native.Nat.{ℕ, ◌<◌}
use native.Mathlib.Omega.{arith}
use native.Mathlib.Decide.{ℕ_discrete, dec_lt}
use mathlib.Core.Bool.{Bool, true, false, ◌&&◌, not}
use mathlib.Core.List.Memᴰ
use mathlib.Core.List.{List, [], ◌∷◌, Memᴰ}
use lib.Dec.{T}
use lib.ListN.{length, get_or, set}
use lib.Seq.{set_out, get_or-set_same, get_or-set_other}
use Rattle.plan.specs.declared.ir.IR.{IR}
use Rattle.plan.specs.Kinds.{same_ir, join_type, same_join_type}
use Rattle.plan.specs.declared.join.JoinType.{JoinType}
use Rattle.plan.specs.FunctionIR.{Functions, rust_functions}
use Rattle.plan.specs.Lists.{yes?}
use Rattle.plan.specs.Sheet.{Step, done, no_step, step_at}
use Rattle.plan.specs.Graph.{Edge}
use Rattle.plan.specs.declared.rules.Options.{Options}
use Rattle.plan.specs.declared.rules.Around.{Around}
use Rattle.plan.specs.declared.rules.Observable.{Observable}
use Rattle.plan.specs.declared.rules.Ruled.{Ruled}
use Rattle.plan.specs.Visit.{Run, arm, rule, unordered_union, merge_sorted_all, simplify_ir_node_orders, goes, looked_in, looks_of, is_out_of, no_edge, out_edge, ruling_of}
use Rattle.plan.proofs.Settling.{ruling, ruled_step}
use Rattle.plan.proofs.ListLaws.{and_left}
use Rattle.plan.proofs.KindNumbers.{same_kind}
use Rattle.claims.proofs.Visits.{visited}
use Rattle.claims.proofs.Edges.{Apart, edge_at, visit_apart}

abbrev pub unsliced_sort : Step → Bool
unsliced_sort s = same_ir s.kind IR.Sort && not (yes? s.b)

pub sort_kind : (s : Step) → T (unsliced_sort s) → s.kind ≡ IR.Sort
sort_kind s t = same_kind s.kind IR.Sort (and_left (same_ir s.kind IR.Sort) (not (yes? s.b)) t)

-- A visit makes no sort and takes no slice off ----------------------------------------------------------------------------------------

abbrev unsliced : Options → Bool
unsliced s = same_ir s.kind IR.Sort && not (yes? s.b)

module _ (s : Options) (e : Around) (o : Observable) (functions : Functions) where
  neither_sort : (t : Options) → same_ir s.kind IR.Sort ≡ false → same_ir t.kind IR.Sort ≡ false → unsliced t ≡ unsliced s
  neither_sort t f g = rw (f, g)

  rule_sort : (k : IR) → k ≡ s.kind → unsliced (arm s e o functions k).options ≡ unsliced s
  unfolding arm
  rule_sort IR.Scan i = refl
  rule_sort IR.UnoptimizedDispatch i = refl
  rule_sort IR.Sink i = refl
  rule_sort IR.Select i = refl
  rule_sort IR.HStack i = refl
  rule_sort IR.Sort i = refl
  rule_sort IR.Filter i = refl
  rule_sort IR.GroupBy i = refl
  rule_sort IR.Distinct i = refl
  rule_sort IR.Join i = by (same_join_type (join_type s.a) JoinType.AsOf) _ _ refl refl
    where
      none : same_ir s.kind IR.Sort ≡ false
      none = ap (λ (k : IR). same_ir k IR.Sort) (sym i)

      by : (b : Bool) (x y : Ruled) → x.options.kind ≡ s.kind → y.options.kind ≡ s.kind → unsliced (if b then x else y).options ≡ unsliced s
      by true x y f g = neither_sort x.options none (rw f none)
      by false x y f g = neither_sort y.options none (rw g none)
  rule_sort IR.Gather i = refl
  rule_sort IR.Union i = refl
  rule_sort IR.MergeSorted i = by (merge_sorted_all s e o)
    where
      by : (b : Bool) → unsliced (if b then unordered_union s e o else s) ≡ unsliced s
      by true = neither_sort (unordered_union s e o) (ap (λ (k : IR). same_ir k IR.Sort) (sym i)) refl
      by false = refl
  rule_sort IR.MapFunction i = refl
  rule_sort IR.HConcat i = refl
  rule_sort IR.Slice i = refl
  rule_sort IR.ExtContext i = refl
  rule_sort IR.SimpleProjection i = refl
  rule_sort IR.Cache i = refl

  -- a sort's rule loosens nothing that leaves it
  rule_holds_out : s.kind ≡ IR.Sort → (rule functions s e o).loosened.out ≡ false
  unfolding arm
  rule_holds_out i = ap (λ (k : IR). (arm s e o functions k).loosened.out) i

pub ruling_sort : (n : ℕ) (r : Run) → unsliced_sort (ruled_step n r) ≡ unsliced_sort (step_at r.steps n)
unfolding ruling_of looked_in looks_of
ruling_sort n r = rule_sort _ _ (looked_in n r).observable rust_functions _ refl

pub sort_holds_out : (n : ℕ) (r : Run) → (step_at r.steps n).kind ≡ IR.Sort → (ruling n r).loosened.out ≡ false
unfolding ruling_of looked_in looks_of
sort_holds_out n r i = rule_holds_out _ _ (looked_in n r).observable rust_functions i

-- another step at c, of which f reads what it read of the one before
pub reads_kept : {A : Type 0} (f : Step → A) (ps : List Step) (c : ℕ) (s : Step) → f s ≡ f (step_at ps c)
    → (n : ℕ) → f (step_at (set ps c s) n) ≡ f (step_at ps n)
reads_kept f ps c s e n = by (dec_lt c (length ps)) (ℕ_discrete n c)
  where
    by : Dec (c < length ps) → Dec (n ≡ c) → f (step_at (set ps c s) n) ≡ f (step_at ps n)
    by (yes l) (yes i) = rw i (ap f (get_or-set_same ps c s no_step l) ∙ e)
    by (yes l) (no m) = ap f (get_or-set_other ps c n s no_step m)
    by (no l) d = ap (λ (x : List Step). f (step_at x n)) (set_out ps c s (omega arith))

-- one that is as much of a sort
pub sorts_kept : (ps : List Step) (c : ℕ) (s : Step) → unsliced_sort s ≡ unsliced_sort (step_at ps c)
    → (n : ℕ) → unsliced_sort (step_at (set ps c s) n) ≡ unsliced_sort (step_at ps n)
sorts_kept = reads_kept unsliced_sort

-- The test for removal ------------------------------------------------------------------------------------------------------------------

pub goes_sort : (n : ℕ) (r : Run) → T (goes n r) → T (unsliced_sort (step_at r.steps n)) × T (out_edge n r.edges).unordered
unfolding goes
goes_sort n r t = by (same_ir (step_at r.steps n).kind IR.Sort) (out_edge n r.edges).unordered (not (yes? (step_at r.steps n).b)) t
  where
    by : (a b c : Bool) → T (a && b && c) → T (a && c) × T b
    by true true true t = (tt, tt)
    by true true false t = absurd t
    by true false c t = absurd t
    by false b c t = absurd t

pub stays_ordered : (n : ℕ) (r : Run) → T (unsliced_sort (step_at r.steps n)) → goes n r ≡ false → (out_edge n r.edges).unordered ≡ false
unfolding goes
stays_ordered n r t e = by (same_ir (step_at r.steps n).kind IR.Sort) (out_edge n r.edges).unordered (not (yes? (step_at r.steps n).b)) t e
  where
    by : (a b c : Bool) → T (a && c) → a && b && c ≡ false → b ≡ false
    by true true true t e = e
    by true false true t e = refl
    by true b false t e = absurd t
    by false b c t e = absurd t

-- Sorts that stay -----------------------------------------------------------------------------------------------------------------------

-- an ordered edge out of n, at neither of whose ends one of `rest` stands
pub record Held (n : ℕ) (rest : List ℕ) (es : List Edge) : Type 0 where
  pub at : ℕ
  pub there : at < length es
  pub leaves : T (is_out_of n (get_or es at no_edge))
  pub ordered : (get_or es at no_edge).unordered ≡ false
  pub apart : (m : ℕ) → Memᴰ m rest → Apart m (get_or es at no_edge)

-- each sort of `back` has such an edge, up to its visit on the way up; `rest` is visited first, then what stands before it in `back`
abbrev pub Kept : List Step → List ℕ → List ℕ → List Edge → Type 0
Kept ps [] rest es = Unit {0}
Kept ps (n ∷ back) rest es = (T (unsliced_sort (step_at ps n)) → Held n rest es) × Kept ps back (n ∷ rest) es

pub kept_part : (ps : List Step) (back rest part : List ℕ) (es : List Edge) → ((m : ℕ) → Memᴰ m part → Memᴰ m rest)
    → Kept ps back rest es → Kept ps back part es
kept_part ps [] rest part es f k = tt
kept_part ps (n ∷ back) rest part es f k = (
  λ t. let h = k.0 t in record { at = h.at; there = h.there; leaves = h.leaves; ordered = h.ordered; apart = λ m i. h.apart m (f m i) },
  kept_part ps back (n ∷ rest) (n ∷ part) es (λ m i. elim (Memᴰ.cases_cons i) [ inl e ↦ Memᴰ.head e | inr j ↦ Memᴰ.tail (f m j) ]) k.1,
)

pub kept_visit : (ps : List Step) (back rest : List ℕ) (m : ℕ) (r : Run) {r' : Run} → simplify_ir_node_orders m r ≡ done r' → Memᴰ m rest
    → Kept ps back rest r.edges → Kept ps back rest r'.edges
kept_visit ps [] rest m r e i k = tt
kept_visit ps (n ∷ back) rest m r {r'} e i k = (λ t. still (k.0 t), kept_visit ps back (n ∷ rest) m r e (Memᴰ.tail i) k.1)
  where
    still : Held n rest r.edges → Held n rest r'.edges
    still h =
        let same : edge_at h.at r ≡ edge_at h.at r' = sym (visit_apart m r e h.at h.there (h.apart m i)) in
        record {
          at = h.at;
          there = omega (arith, h.there, (visited m r e).edges);
          leaves = subst (λ (d : Edge). T (is_out_of n d)) same h.leaves;
          ordered = subst (λ (d : Edge). d.unordered ≡ false) same h.ordered;
          apart = λ x j. subst (Apart x) same (h.apart x j);
        }

pub kept_at : (ps : List Step) (back rest : List ℕ) (es : List Edge) → Kept ps back rest es
    → (n : ℕ) → Memᴰ n back → T (unsliced_sort (step_at ps n)) → Held n [] es
kept_at ps [] rest es k n i t = absurd (Memᴰ.not-nil i)
kept_at ps (x ∷ back) rest es k n i t =
    elim (Memᴰ.cases_cons i) [
      | inl e ↦
          let h = k.0 (subst (λ y. T (unsliced_sort (step_at ps y))) e t) in
          record {
            at = h.at;
            there = h.there;
            leaves = subst (λ y. T (is_out_of y (get_or es h.at no_edge))) (sym e) h.leaves;
            ordered = h.ordered;
            apart = λ m j. absurd (Memᴰ.not-nil j);
          }
      | inr j ↦ kept_at ps back (x ∷ rest) es k.1 n j t
    ]
