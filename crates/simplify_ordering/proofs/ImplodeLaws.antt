-- An appended Implode: what the code stores is the definition's arena with one record more.
use Rattle.std.specs.Prelude.{if◌then◌else◌}
use mathlib.Core.Path.{◌≡◌, refl, sym, ap, ◌∙◌, subst}
use Prim.Native.Nat.{ℕ, zero, suc, ◌+◌, ◌≤◌, ◌<◌}
use native.Mathlib.Omega.{arith}
use native.Mathlib.Decide.{ℕ_discrete}
use mathlib.Core.Bool.{Bool, true, false}
use mathlib.Core.List.{List, [], ◌∷◌, ◌++◌}
use lib.ListN.{length, get_or, set, length-append}
use lib.Seq.{set-get_or}
use Rattle.plan.specs.Sheet.{Expr, Step, no_expr, no_step, expr_at, step_at}
use Rattle.plan.specs.Look.{switched_off}
use Rattle.storage.specs.Stored.{stored_expr, held_expr, arena_of, ExprFormed}
use Rattle.storage.proofs.Laws.{table_at}
use Rattle.storage.proofs.Append.{arena_appended}
use Rattle.plan.specs.Visit.{implode, implode_over, with_aggs}
use Rattle.storage.specs.Based.{Falls, sorts, Based}
use Rattle.storage.specs.Exprs.{ExprStored}
use Rattle.storage.specs.declared.stored.Arena.{Arena}
use Rattle.storage.specs.declared.stored.Lines.{Lines}
use Rattle.storage.specs.Held.{arena_in}
use Rattle.storage.specs.Steps.{with_agg}

module _ (a : Arena) (q : ℕ) (more : a.records.count < 128) (lower : q < a.records.count) (exit : List ℕ)
    (new : ExprStored a.records.bytes a.records.count (implode_over q) exit) where
  abbrev n : ℕ
  n = a.records.count

  abbrev held : Based a.records.bytes n
  held = a.records.based

  abbrev lines : Lines
  lines = a.lines

  pub implode_law : arena_of exit (set lines.holds n n) (set lines.off n false) (n + 1) ≡ arena_in a ++ (implode_over q ∷ [])
  implode_law =
      arena_appended a.records.bytes lines.holds lines.off n (implode_over q) exit new (omega (arith, lines.sized)) (omega (arith, lines.off_sized)) held.formed
      a.below

  formed_more : (l : ℕ) → l < n + 1 → Dec (l ≡ n) → ExprFormed exit l
  formed_more l h (yes e) = subst (ExprFormed exit) (sym e) new.formed
  formed_more l h (no e) = (new.others l e (held.formed l (omega (arith, e)))).1

  falls_more : (l : ℕ) → l < n + 1 → Dec (l ≡ n) → Falls l (stored_expr exit l).children
  falls_more l h (yes e) =
      rw (e, new.is) (record { child = λ k j. by k j })
    where
      by : (k : ℕ) → k < 1 → get_or (q ∷ []) k 0 < n
      by zero j = lower
      by (suc k) j = absurd (omega arith)
  falls_more l h (no e) =
      let there : l < n = omega (arith, e) in
      subst (λ (x : Expr). Falls l x.children) (sym (new.others l e (held.formed l there)).0) (held.falls l there)

  sorted_more : (l : ℕ) → l < n + 1 → Dec (l ≡ n) → sorts (stored_expr exit l).kind ≡ true → 0 < length (stored_expr exit l).children
  sorted_more l h (yes e) = rw (e, new.is) (λ _. omega arith)
  sorted_more l h (no e) =
      let there : l < n = omega (arith, e) in
      subst (λ (x : Expr). sorts x.kind ≡ true → 0 < length x.children) (sym (new.others l e (held.formed l there)).0) (held.sorted l there)

  pub implode_based : Based exit (n + 1)
  implode_based =
      record {
        few = omega arith;
        room = omega (arith, new.size, a.records.sized);
        formed = λ l h. formed_more l h (ℕ_discrete l n);
        falls = λ l h. falls_more l h (ℕ_discrete l n);
        sorted = λ l h. sorted_more l h (ℕ_discrete l n);
      }

-- An agg that is a scalar, and one that is not -------------------------------------------------------------------------------------

pub scalar_law : (recs line : List ℕ) (off : List Bool) (n q : ℕ) → q < n → (stored_expr recs (get_or line q 0)).scalar ≡ (expr_at (arena_of recs line off n) q).scalar
unfolding arena_of held_expr
scalar_law recs line off n q lower =
    by (get_or off q false) (stored_expr recs (get_or line q 0)) ∙ sym (ap (λ (e : Expr). e.scalar) (table_at (held_expr recs line off) n q no_expr lower))
  where
    by : (b : Bool) (e : Expr) → e.scalar ≡ (if b then switched_off e else e).scalar
    by true e = refl
    by false e = refl

module _ (q : ℕ) (es : List Expr) where
  pub implode_scalar : (expr_at es q).scalar ≡ true → implode q es ≡ (q, es)
  unfolding implode
  implode_scalar h = rw h

  pub implode_other : (expr_at es q).scalar ≡ false → implode q es ≡ (length es, es ++ (implode_over q ∷ []))
  unfolding implode
  implode_other h = rw h

pub agg_same : (i k q : ℕ) (ps : List Step) → q ≡ get_or (step_at ps i).aggs k 0 → ps ≡ with_agg i k q ps
agg_same i k q ps e =
    let s : Step = step_at ps i in
    sym (ap (λ (qs : List ℕ). set ps i (with_aggs qs s)) (ap (set s.aggs k) e ∙ set-get_or s.aggs k 0) ∙ set-get_or ps i no_step)

-- b says whether agg q, entry k of step i, is a scalar
module _ (q : ℕ) (es : List Expr) (b : Bool) (is : b ≡ (expr_at es q).scalar) (i k : ℕ) (ps : List Step) where
  pub stays : b ≡ true → q ≡ get_or (step_at ps i).aggs k 0 → (es ≡ (implode q es).1) × (ps ≡ with_agg i k (implode q es).0 ps)
  stays t e = rw (implode_scalar q es (sym is ∙ t)) (refl, agg_same i k q ps e)

  module _ (f : b ≡ false) where
    pub appended : {es' : List Expr} {ps' : List Step} → es' ≡ es ++ (implode_over q ∷ []) → ps' ≡ with_agg i k (length es) ps
        → (es' ≡ (implode q es).1) × (ps' ≡ with_agg i k (implode q es).0 ps)
    appended p r = rw (implode_other q es (sym is ∙ f)) (p, r)

    pub has_room : length (implode q es).1 ≤ 128 → length es < 128
    has_room h = omega (arith, rw (implode_other q es (sym is ∙ f), length-append es (implode_over q ∷ [])) at h)
