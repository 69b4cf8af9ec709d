-- The Implodes of a step, one after the other: what holds when the first k entries of its n3 list are done.
use Rattle.std.specs.Prelude.{if◌then◌else◌}
use mathlib.Core.Path.{◌≡◌, refl, sym, ap, ◌∙◌, subst}
use Prim.Native.Nat.{ℕ, suc, ◌+◌, ◌≤◌, ◌<◌}
use native.Mathlib.Omega.{arith}
use mathlib.Core.Bool.{Bool, true, false}
use mathlib.Core.List.{List, [], ◌∷◌, ◌++◌, append_assoc, append-nil}
use lib.ListN.{length, get_or, set, drop, length-append, length-drop, drop_of_length-le}
use lib.Seq.{drop-cons, get_or-set_same, set-get_or, set-set, set_at, get_or_at}
use Rattle.plan.specs.declared.ir.IR.{IR}
use Rattle.plan.specs.Kinds.{same_ir}
use Rattle.plan.specs.Sheet.{Expr, Step, no_step, expr_at, step_at}
use Rattle.plan.specs.Visit.{implode, imploded, with_implodes, implode_over, with_aggs}
use Rattle.storage.specs.Steps.{with_agg}

-- appending only makes the arena longer
longer_one : (q : ℕ) (es : List Expr) → length es ≤ length (implode q es).1
unfolding implode
longer_one q es = by (expr_at es q).scalar
  where
    by : (b : Bool) → let r : ℕ × List Expr = if b then (q, es) else (length es, es ++ (implode_over q ∷ [])) in length es ≤ length r.1
    by true = omega arith
    by false = simp length-append (omega arith)

longer : (qs : List ℕ) (es : List Expr) → length es ≤ length (imploded qs es).1
unfolding imploded
longer [] es = omega arith
longer (q ∷ qs) es = omega (arith, longer_one q es, longer qs (implode q es).1)

pub longer_start : (s : Step) (es : List Expr) → length es ≤ length (with_implodes s es).1
unfolding with_implodes
longer_start s es = by (same_ir s.kind IR.GroupBy)
  where
    by : (b : Bool) → let r : List ℕ × List Expr = if b then imploded s.aggs es else (s.aggs, es) in length es ≤ length r.1
    by true = longer s.aggs es
    by false = omega arith

-- qs, es and ps are the list, the arena and the steps before; es' and ps' those after k entries
pub record Imploding (i : ℕ) (qs : List ℕ) (es : List Expr) (ps : List Step) (k : ℕ) (es' : List Expr) (ps' : List Step) : Type 0 where
  pub most : k ≤ length qs
  pub arena : (imploded (drop k qs) es').1 ≡ (imploded qs es).1
  pub front : List ℕ
  pub size : length front ≡ k
  pub entries : front ++ (imploded (drop k qs) es').0 ≡ (imploded qs es).0
  pub steps : ps' ≡ set ps i (with_aggs (front ++ drop k qs) (step_at ps i))
  pub longer : length es ≤ length es'

module _ (i : ℕ) (qs : List ℕ) (es : List Expr) (ps : List Step) (own : (step_at ps i).aggs ≡ qs) (here : i < length ps) where
  pub imploding_none : Imploding i qs es ps 0 es ps
  imploding_none =
      record {
        most = omega arith;
        arena = refl;
        front = [];
        size = refl;
        entries = refl;
        steps = sym (ap (λ (x : List ℕ). set ps i (with_aggs x (step_at ps i))) (sym own) ∙ set-get_or ps i no_step);
        longer = omega arith;
      }

  module _ (k : ℕ) (es' : List Expr) (ps' : List Step) (g : Imploding i qs es ps k es' ps') where
    now_is : (step_at ps' i).aggs ≡ g.front ++ drop k qs
    now_is = ap (λ (x : List Step). (step_at x i).aggs) g.steps ∙ ap (λ (s : Step). s.aggs) (get_or-set_same ps i (with_aggs (g.front ++ drop k qs) (step_at ps i)) no_step here)

    pub same_length : length (step_at ps' i).aggs ≡ length qs
    same_length = ap length now_is ∙ simp (length-append, length-drop) (omega (arith, g.size, g.most))

    pub all_done : length qs ≤ k → (es' ≡ (imploded qs es).1) × (ps' ≡ set ps i (with_aggs (imploded qs es).0 (step_at ps i)))
    unfolding imploded
    all_done h =
        let none : drop k qs ≡ [] = drop_of_length-le qs {i = k} h in
        let e₀ : imploded (drop k qs) es' ≡ ([], es') = rw none in
        let f : g.front ≡ (imploded qs es).0 = sym (append-nil g.front) ∙ ap (λ (x : List ℕ × List Expr). g.front ++ x.0) (sym e₀) ∙ g.entries in (
          ap (λ (x : List ℕ × List Expr). x.1) (sym e₀) ∙ g.arena,
          g.steps ∙ ap (λ (x : List ℕ). set ps i (with_aggs x (step_at ps i))) (ap (λ (x : List ℕ). g.front ++ x) none ∙ append-nil g.front ∙ f),
        )

    module _ (h : k < length qs) where
      abbrev q : ℕ
      q = get_or qs k 0

      next : drop k qs ≡ q ∷ drop (k + 1) qs
      next = let e : k + 1 ≡ suc k = omega arith in rw e (drop-cons qs k 0 h)

      pub entry_is : q ≡ get_or (step_at ps' i).aggs k 0
      entry_is = sym (ap (λ (x : List ℕ). get_or x k 0) (now_is ∙ ap (λ (x : List ℕ). g.front ++ x) next) ∙ get_or_at g.front q (drop (k + 1) qs) 0 k g.size)

      pub room_for_one : length (imploded qs es).1 ≤ 128 → length (implode q es').1 ≤ 128
      unfolding imploded
      room_for_one m =
          let e : (imploded (q ∷ drop (k + 1) qs) es').1 ≡ (imploded qs es).1 = subst (λ (x : List ℕ). (imploded x es').1 ≡ (imploded qs es).1) next g.arena in
          omega (arith, longer (drop (k + 1) qs) (implode q es').1, ap length e)

      pub imploding_more : (es'' : List Expr) (ps'' : List Step) → es'' ≡ (implode q es').1 → ps'' ≡ with_agg i k (implode q es').0 ps'
          → Imploding i qs es ps (k + 1) es'' ps''
      unfolding imploded
      imploding_more es'' ps'' p r =
          let q' = (implode q es').0 in
          let rest = drop (k + 1) qs in
          let a : (imploded (q ∷ rest) es').1 ≡ (imploded qs es).1 = subst (λ (x : List ℕ). (imploded x es').1 ≡ (imploded qs es).1) next g.arena in
          let b : g.front ++ (imploded (q ∷ rest) es').0 ≡ (imploded qs es).0 =
          subst (λ (x : List ℕ). g.front ++ (imploded x es').0 ≡ (imploded qs es).0) next g.entries in
          record {
            most = omega arith;
            arena = ap (λ (x : List Expr). (imploded rest x).1) p ∙ a;
            front = g.front ++ (q' ∷ []);
            size = simp length-append (omega (arith, g.size));
            entries = ap (λ (x : List Expr). (g.front ++ (q' ∷ [])) ++ (imploded rest x).0) p ∙ append_assoc g.front (q' ∷ []) (imploded rest (implode q es').1).0 ∙ b;
            steps = r ∙ stored q' rest refl;
            longer = omega (arith, g.longer, longer_one q es', ap length p);
          }
        where
          stored : (q' : ℕ) (rest : List ℕ) → rest ≡ drop (k + 1) qs → with_agg i k q' ps' ≡ set ps i (with_aggs ((g.front ++ (q' ∷ [])) ++ rest) (step_at ps i))
          stored q' rest e =
              let all : List ℕ = g.front ++ q ∷ rest in
              let s : Step = step_at ps i in
              let before : ps' ≡ set ps i (with_aggs all s) = g.steps ∙ ap (λ (x : List ℕ). set ps i (with_aggs (g.front ++ x) s)) (next ∙ ap (λ (x : List ℕ). q ∷ x) (sym e)) in
              ap (with_agg i k q') before
              ∙ ap (λ (x : Step). set (set ps i (with_aggs all s)) i (with_aggs (set x.aggs k q') x)) (get_or-set_same ps i (with_aggs all s) no_step here)
              ∙ set-set ps i (with_aggs all s) (with_aggs (set all k q') s)
              ∙ ap (λ (x : List ℕ). set ps i (with_aggs x s)) (set_at g.front q rest q' k g.size ∙ sym (append_assoc g.front (q' ∷ []) rest))
