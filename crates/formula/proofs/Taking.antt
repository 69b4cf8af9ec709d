-- An operand or an operator more: what the writer holds then.
use Rattle.std.specs.Prelude.{if◌then◌else◌}
use mathlib.Core.Path.{◌≡◌, refl, sym, ap, ◌∙◌, subst}
use mathlib.Core.Bool.{Bool, true, false}
use mathlib.Core.List.{List, [], ◌∷◌, ◌++◌}
use Prim.Native.Nat.{ℕ, ◌+◌, ◌<◌, ◌≤◌}
use native.Mathlib.Omega.{arith}
use native.Mathlib.Numerals.{add-one}
use lib.ListN.{length, length-set, set, get_or, take}
use lib.Seq.{take-suc}
use Rattle.std.proofs.lemmas.List.{take_all}
use Rattle.plan.specs.Lists.{concat_map}
use Rattle.plan.specs.Sheet.{Expr}
use Rattle.formula.specs.declared.items.Item.{Item}
use Rattle.formula.specs.declared.items.Kind.{Kind}
use Rattle.formula.specs.declared.writer.Waiting.{Waiting}
use Rattle.formula.specs.declared.writer.Writer.{Writer}
use Rattle.formula.specs.Formula.{column, literal}
use Rattle.formula.specs.Converted.{text}
use Rattle.formula.specs.Progress.{Progress, progress, start, no_operand, operand_of, with_operand, settled, waits, weight, taken, taken_by, all_taken}
use Rattle.formula.specs.Written.{stack, Holds, LineMore, Settles, Waits, Takes}
use Rattle.formula.proofs.Settling.{taken_append}
use Rattle.formula.proofs.Waits.{stack_push}

-- Nothing taken yet
pub held_nothing : (entry : List ℕ) (k : Writer) (ws : List Waiting) → k.last ≡ no_operand → k.count ≡ 0 → k.lines ≡ 0 → k.written ≡ 0
    → Holds entry start k ws entry
unfolding stack text concat_map
held_nothing entry k ws v c l n =
    record {
      is = (λ i. progress (v i) (stack ws (c i)) []);
      stand = record { wrote = record { len = n; bytes = refl }; lines = l };
    }

-- An operand ------------------------------------------------------------------------------------------------------------------------

module _ (k k' : Writer) (ws : List Waiting) (before now : List ℕ) (x : Item) where
  abbrev line_of : Bool → Expr
  line_of d = if d then literal else column

  operand_held : (d : Bool) → LineMore (line_of d) (operand_of k.lines d) k k' before now → k'.count ≡ k.count → (entry : List ℕ)
      → (p : Progress)
      → Holds entry p k ws before → Holds entry (with_operand d p) k' ws now
  operand_held d m c entry p h =
      record {
        is =
            (λ i. progress
            ((m.last ∙ ap (λ n. operand_of n d) h.stand.lines) i)
            ((ap (stack ws) c ∙ ap (λ (q : Progress). q.waiting) h.is) i)
            (p.lines ++ (line_of d ∷ [])));
        stand = m.stand entry p.lines h.stand;
      }

  operand_takes : (d : Bool) → LineMore (line_of d) (operand_of k.lines d) k k' before now → k'.count ≡ k.count
      → ((p : Progress) → with_operand d p ≡ taken x p) → Takes x k ws k' ws before now
  operand_takes d m c e =
      record {
        more = omega (arith, c);
        load = omega (arith, c, m.lines);
        places = refl;
        size = m.size;
        holds = λ entry p h. subst (λ q. Holds entry q k' ws now) (e p) (operand_held d m c entry p h);
      }

  pub letter_takes : x.kind ≡ Kind.Letter → LineMore column (operand_of k.lines false) k k' before now → k'.count ≡ k.count
      → Takes x k ws k' ws before now
  unfolding taken_by
  letter_takes e m c = operand_takes false m c (λ p. ap (λ z. taken_by z x.depth p) (sym e))

  pub number_takes : x.kind ≡ Kind.Number → LineMore literal (operand_of k.lines true) k k' before now → k'.count ≡ k.count
      → Takes x k ws k' ws before now
  unfolding taken_by
  number_takes e m c = operand_takes true m c (λ p. ap (λ z. taken_by z x.depth p) (sym e))

-- An operator -----------------------------------------------------------------------------------------------------------------------

-- k' is k with an operator more that waits
pub record Pushed (k k' : Writer) : Type 0 where
  pub last : k'.last ≡ k.last
  pub count : k'.count ≡ k.count + 1
  pub lines : k'.lines ≡ k.lines
  pub written : k'.written ≡ k.written

module _ (w : ℕ) (k k₁ k' : Writer) (ws : List Waiting) (before now : List ℕ) where
  abbrev pushed : List Waiting
  pushed = set ws k₁.count (record { weight = w; left = k₁.last })

  pub operator_waits : Settles w ws k k₁ before now → Pushed k₁ k' → k₁.count < length ws → Waits w k ws k' pushed before now
  operator_waits s u l =
      record {
        more = omega (arith, u.count, s.fewer);
        load = omega (arith, u.count, u.lines, s.load);
        places = length-set ws k₁.count _;
        size = s.size;
        holds = held;
      }
    where
      held : (entry : List ℕ) (p : Progress) → Holds entry p k ws before → Holds entry (waits w (settled w p)) k' pushed now
      held entry p h =
          let q = s.holds entry p h in
          record {
            is =
                (λ i. progress (u.last i) (stack pushed (u.count i)) (settled w p).lines)
                ∙ ap (λ ps. progress k₁.last ps (settled w p).lines) (stack_push ws k₁.count _ l)
                ∙ ap (waits w) q.is;
            stand = record { wrote = rw u.written q.stand.wrote; lines = u.lines ∙ q.stand.lines };
          }

module _ (k k' : Writer) (ws ws' : List Waiting) (before now : List ℕ) (x : Item) where
  pub operator_takes : (n w : ℕ) → x.kind ≡ Kind.Operator n → w ≡ weight x.depth n → Waits w k ws k' ws' before now
      → Takes x k ws k' ws' before now
  unfolding taken_by
  operator_takes n w e i m =
      record {
        more = rw e m.more;
        load = m.load;
        places = m.places;
        size = m.size;
        holds = λ entry p h.
            subst (λ q. Holds entry q k' ws' now) ((λ j. waits (i j) (settled (i j) p)) ∙ ap (λ z. taken_by z x.depth p) (sym e)) (m.holds entry p h);
      }

-- All of them -----------------------------------------------------------------------------------------------------------------------

pub next_held : (entry now : List ℕ) (k : Writer) (ws : List Waiting) (xs : List Item) (i : ℕ) (d : Item) → i < length xs
    → Holds entry (taken (get_or xs i d) (all_taken (take i xs) start)) k ws now → Holds entry (all_taken (take (i + 1) xs) start) k ws now
unfolding all_taken
next_held entry now k ws xs i d l h =
    rw (add-one i, take-suc xs i d l) (subst (λ p. Holds entry p k ws now) (sym (taken_append (take i xs) (get_or xs i d ∷ []) start)) h)

pub all_held : (entry now : List ℕ) (k : Writer) (ws : List Waiting) (xs : List Item) (i : ℕ) → length xs ≤ i
    → Holds entry (all_taken (take i xs) start) k ws now
    → Holds entry (all_taken xs start) k ws now
all_held entry now k ws xs i l h = (rw (take_all i xs l) at h)
