-- The looks of a visit keep to demand 3, in a run whose entries reach each record at most once.
use mathlib.Core.Path.{◌≡◌, refl, ap}
use Prim.Native.Nat.{ℕ, ◌+◌, ◌≤◌}
use native.Mathlib.Omega.{arith}
use native.Mathlib.Nat.{le_refl, le_trans}
use mathlib.Core.Bool.{Bool, false}
use mathlib.Core.List.Memᴰ
use mathlib.Core.List.{List, Memᴰ}
use lib.ListN.{length}
use Rattle.plan.specs.Lists.{sum}
use Rattle.plan.specs.Sheet.{Expr, Step, no_step, step_at}
use Rattle.plan.specs.Look.{Eos, simplify_projected_exprs}
use Rattle.plan.specs.Visit.{Run, Looked, looked_in, looks_of, around, options_of, allow_deordering_top}
use Rattle.plan.proofs.ListLaws.{sum_append}
use Rattle.claims.specs.Demand3.{records, ListBounded, LooksBounded}
use Rattle.plan.proofs.Counts.{times_of, only}
use Rattle.claims.proofs.Sums.{sum_part, sum_at, sum_below, below_one, below_if_counted}
use Rattle.claims.proofs.Loads.{load, load_own, load_records, among_records}
use Rattle.claims.proofs.Changes.{Formed, earlier_of, Changes, changes_on, changed_formed, changed_length, changed_loads}
use Rattle.claims.proofs.ListBound.{ListSpent, list_spent, list_few}
use Rattle.claims.proofs.LooksLogged.{list_logged}
use Rattle.claims.proofs.Implodes.{Inside, Imploded, implodes, old_loads}
use Rattle.claims.proofs.Once.{entries, step_load, Once}

-- the trees of a list together weigh no more than the arena
abbrev pub OnceIn : List ℕ → List Expr → Type 0
OnceIn qs es = (w : ℕ → ℕ) → sum (load w es) qs ≤ sum_below w (length es)

inside_if_once : (qs : List ℕ) (es : List Expr) → Formed es → OnceIn qs es → Inside qs es
inside_if_once qs es g once q m =
    below_if_counted q (length es)
    (omega (arith, once (only q), sum_part (load (only q) es) qs q m, load_own es (earlier_of es g) q))

list_bounded : (qs : List ℕ) (allow : Bool) (s : Eos) → Formed s.expr_arena → OnceIn qs s.expr_arena
    → ListBounded qs allow s (simplify_projected_exprs qs allow s).1
list_bounded qs allow s g once =
    let logged = list_logged qs allow s g in
    record {
      few = list_few qs s (simplify_projected_exprs qs allow s).1 g (list_spent qs allow s g);
      apart = λ p. omega (arith, load_records (only p) s.expr_arena qs, once (only p), below_one p (length s.expr_arena));
      counted = logged.counted;
      own = λ p m. among_records p s.expr_arena qs (logged.own p m);
    }

-- A run ------------------------------------------------------------------------------------------------------------------------

-- what holds before and after each visit
pub record Sound (r : Run) : Type 0 where
  pub formed : Formed r.arena
  pub once : Once r.arena r.steps

pub no_load : (w : ℕ → ℕ) (es : List Expr) → step_load w es no_step ≡ 0
unfolding sum
no_load w es = refl

module _ (r : Run) (sound : Sound r) where
  once_of_step : (n : ℕ) → OnceIn (entries (step_at r.steps n)) r.arena
  once_of_step n w =
      le_trans (sum_at (step_load w r.arena) r.steps no_step (no_load w r.arena) n) (sound.once w)

  -- the entries of every step are in the arena
  pub inside_of_step : (n : ℕ) → Inside (entries (step_at r.steps n)) r.arena
  inside_of_step n = inside_if_once (entries (step_at r.steps n)) r.arena sound.formed (once_of_step n)

  pub inside_of_member : (s : Step) → Memᴰ s r.steps → Inside (entries s) r.arena
  inside_of_member s m =
      inside_if_once (entries s) r.arena sound.formed
      (λ w. le_trans (sum_part (step_load w r.arena) r.steps s m) (sound.once w))

-- A visit to n -----------------------------------------------------------------------------------------------------------------

module _ (r : Run) (sound : Sound r) (n : ℕ) where
  abbrev s : Step
  s = step_at r.steps n

  abbrev l : Looked
  l = looked_in n r

  pub imploded_start : Imploded (step_at r.steps n).aggs r.arena l.step.aggs l.start.expr_arena
  unfolding looked_in looks_of
  imploded_start = implodes s r.arena sound.formed (λ q m. inside_of_step r sound n q (Memᴰ.append_right s.exprs m))

  -- the two lists as the looks begin: they have what they had, and the Implodes
  pub loads_start : (w : ℕ → ℕ)
      → step_load w l.start.expr_arena l.step + sum_below w (length r.arena)
      ≡ step_load w r.arena (step_at r.steps n) + sum_below w (length l.start.expr_arena)
  unfolding looked_in looks_of
  loads_start w =
      let i = imploded_start in
      let es = r.arena in
      let es' = l.start.expr_arena in
      omega (
        arith,
        sum_append (load w es) s.exprs s.aggs,
        sum_append (load w es') s.exprs l.step.aggs,
        i.loads w,
        old_loads (length es) es es' sound.formed i.formed i.old w s.exprs
            (λ q m. inside_of_step r sound n q (Memᴰ.append_left s.aggs m)),
      )

  pub once_start : OnceIn (entries l.step) l.start.expr_arena
  once_start w = omega (arith, once_of_step r sound n w, loads_start w)

  pub exprs_spent : ListSpent l.step.exprs l.start l.between
  unfolding looked_in looks_of
  exprs_spent = list_spent s.exprs (allow_deordering_top (options_of s) (around n r.edges)) l.start imploded_start.formed

  formed_between : Formed l.between.expr_arena
  formed_between = changed_formed exprs_spent.goes.changes imploded_start.formed

  pub aggs_spent : ListSpent l.step.aggs l.between l.end
  unfolding looked_in looks_of
  aggs_spent = list_spent l.step.aggs false l.between formed_between

  pub looks_change : Changes l.end.expr_arena l.start.expr_arena
  looks_change = changes_on exprs_spent.goes.changes aggs_spent.goes.changes

  -- each list as its own looks begin
  pub once_exprs : OnceIn l.step.exprs l.start.expr_arena
  once_exprs w = omega (arith, once_start w, sum_append (load w l.start.expr_arena) l.step.exprs l.step.aggs)

  pub once_aggs : OnceIn l.step.aggs l.between.expr_arena
  once_aggs w =
      let c = exprs_spent.goes.changes in
      omega (
        arith,
        once_start w,
        sum_append (load w l.start.expr_arena) l.step.exprs l.step.aggs,
        changed_loads c imploded_start.formed w l.step.aggs,
        ap (sum_below w) (changed_length c),
      )

  -- no record is in the trees of both lists, be it those of the n3 list as its own looks begin
  apart : (es : List Expr) → ((w : ℕ → ℕ) → sum (load w es) l.step.aggs ≤ sum (load w l.start.expr_arena) l.step.aggs)
      → (p : ℕ) → Memᴰ p (records l.start.expr_arena l.step.exprs) → ¬ Memᴰ p (records es l.step.aggs)
  apart es less p m k =
      omega (
        arith,
        times_of p (records l.start.expr_arena l.step.exprs) m,
        load_records (only p) l.start.expr_arena l.step.exprs,
        times_of p (records es l.step.aggs) k,
        load_records (only p) es l.step.aggs,
        less (only p),
        once_start (only p),
        sum_append (load (only p) l.start.expr_arena) l.step.exprs l.step.aggs,
        below_one p (length l.start.expr_arena),
      )

  pub looks_bounded_in : LooksBounded n r
  unfolding looked_in looks_of allow_deordering_top
  looks_bounded_in =
      record {
        exprs = list_bounded s.exprs (allow_deordering_top (options_of s) (around n r.edges)) l.start imploded_start.formed once_exprs;
        aggs = list_bounded l.step.aggs false l.between formed_between once_aggs;
        apart = apart l.start.expr_arena (λ w. le_refl _);
        apart_later = apart l.between.expr_arena (λ w. changed_loads exprs_spent.goes.changes imploded_start.formed w l.step.aggs);
      }
