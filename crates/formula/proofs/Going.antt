-- While operators get their right operands: how far the writer is.
use mathlib.Core.Path.{◌≡◌, refl, sym, ap, ◌∙◌, subst}
use mathlib.Core.List.{List, [], ◌∷◌, ◌++◌}
use Prim.Native.Nat.{ℕ, ◌+◌, ◌-◌, ◌<◌, ◌≤◌}
use native.Mathlib.Omega.{arith}
use lib.ListN.{length, get_or}
use Rattle.plan.specs.Sheet.{Expr}
use Rattle.formula.specs.declared.writer.Waiting.{Waiting}
use Rattle.formula.specs.declared.writer.Writer.{Writer}
use Rattle.formula.specs.Progress.{Progress, progress, settle, settled, joined, joined_line}
use Rattle.formula.specs.Written.{no_waiting, stack, last_waiting, Stand, progress_of, Holds, Joins, Settles}
use Rattle.formula.proofs.Settling.{settle_take, settle_stop}
use Rattle.formula.proofs.Waits.{stack_pop}

-- lines that stand, from which all that is left comes to what it came to at first
pub record Stood (w : ℕ) (ws : List Waiting) (entry : List ℕ) (first : Progress) (k : Writer) (now : List ℕ) : Type 0 where
  pub lines : List Expr
  pub stand : Stand entry lines k now
  pub same : settled w (progress_of k ws lines) ≡ first

pub record Going (w : ℕ) (ws : List Waiting) (k k' : Writer) (before now : List ℕ) : Type 0 where
  pub fewer : k'.count ≤ k.count
  pub load : k'.lines + k'.count ≡ k.lines + k.count
  pub size : length now ≡ length before
  pub stood : (entry : List ℕ) (p : Progress) → Holds entry p k ws before → Stood w ws entry (settled w p) k' now

pub going : (w : ℕ) (ws : List Waiting) (k : Writer) (now : List ℕ) → Going w ws k k now now
going w ws k now =
    record {
      fewer = omega arith;
      load = refl;
      size = refl;
      stood = λ entry p h. record { lines = p.lines; stand = h.stand; same = ap (settled w) h.is };
    }

-- one operator more got its right operand
module _ (w : ℕ) (ws : List Waiting) (k k' k'' : Writer) (before now after : List ℕ) (g : Going w ws k k' before now) where
  pub going_on : 1 ≤ k'.count → w ≤ (get_or ws (k'.count - 1) no_waiting).weight → Joins ws k' k'' now after
      → k''.count ≡ k'.count - 1
      → Going w ws k k'' before after
  going_on some h m c =
      record {
        fewer = omega (arith, c, g.fewer);
        load = omega (arith, c, m.lines, g.load);
        size = m.size ∙ g.size;
        stood = stands;
      }
    where
      stands : (entry : List ℕ) (p : Progress) → Holds entry p k ws before → Stood w ws entry (settled w p) k'' after
      stands entry p q =
          let o = g.stood entry p q in
          record {
            lines = o.lines ++ (joined_line (last_waiting ws k') k'.last ∷ []);
            stand = m.stand entry o.lines o.stand;
            same =
                (λ i. settle w ((m.last ∙ ap (λ n. joined n (last_waiting ws k') k'.last) o.stand.lines) i) (stack ws (c i)) (o.lines ++ (joined_line (last_waiting ws k') k'.last ∷ [])))
                ∙ sym (settle_take w k'.last (get_or ws (k'.count - 1) no_waiting) (stack ws (k'.count - 1)) o.lines h)
                ∙ ap (λ ps. settle w k'.last ps o.lines) (sym (stack_pop ws k'.count some))
                ∙ o.same;
          }

-- nothing is left that is heavy enough
module _ (w : ℕ) (ws : List Waiting) (k k' : Writer) (before now : List ℕ) (g : Going w ws k k' before now) where
  ended_by : ((es : List Expr) → settled w (progress_of k' ws es) ≡ progress_of k' ws es) → Settles w ws k k' before now
  ended_by p =
      record {
        fewer = g.fewer;
        load = g.load;
        size = g.size;
        holds = λ entry q h.
            let o = g.stood entry q h in
            let e : progress_of k' ws o.lines ≡ settled w q = sym (p o.lines) ∙ o.same in
            subst (λ z. Holds entry z k' ws now) e (record { is = refl; stand = o.stand });
      }

  pub going_empty : k'.count ≡ 0 → Settles w ws k k' before now
  unfolding stack settle
  going_empty z = ended_by (λ es. ap (λ n. settle w k'.last (stack ws n) es) z ∙ ap (λ n. progress k'.last (stack ws n) es) (sym z))

  pub going_light : 1 ≤ k'.count → (get_or ws (k'.count - 1) no_waiting).weight < w → Settles w ws k k' before now
  going_light some h =
      ended_by (λ es.
      ap (λ ps. settle w k'.last ps es) (stack_pop ws k'.count some) ∙ settle_stop w k'.last _ (stack ws (k'.count - 1)) es h
      ∙ ap (λ ps. progress k'.last ps es) (sym (stack_pop ws k'.count some)))
