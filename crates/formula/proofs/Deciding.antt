-- While the first pass goes on: what is kept and noted of the bytes that it has read, and what the formula's end makes of it.
use Rattle.std.specs.Prelude.{Option, Some, Result, Ok, Err, IfOk, IfSome}
use mathlib.Core.Path.{◌≡◌, refl, sym, ap, ◌∙◌, subst}
use mathlib.Core.List.{List, [], ◌∷◌, ◌++◌}
use Prim.Native.Nat.{ℕ, suc, ◌+◌, ◌<◌, ◌≤◌}
use native.Mathlib.Omega.{arith}
use native.Mathlib.Numerals.{add-one}
use lib.ListN.{length, take, get_or}
use lib.Seq.{take-suc}
use Rattle.std.proofs.lemmas.List.{take_all}
use Rattle.formula.specs.declared.items.Item.{Item}
use Rattle.formula.specs.declared.refusal.Refusal.{Refusal}
use Rattle.formula.specs.declared.seen.Seen.{Seen}
use Rattle.formula.specs.Tokens.{class}
use Rattle.formula.specs.Formula.{Tree}
use Rattle.formula.specs.Parse.{Frame, Tail, State, behind, reduce, whole, ended, parse, step, run, reading}
use Tail.{digits, closed, spaced}
use State.{bad, want, have}
use Rattle.formula.specs.Items.{items_of, depth, items_before, items_read, Notes, notes, Noted}
use Rattle.formula.specs.Seen.{seen_of, After, with_begun}
use Rattle.formula.proofs.Constructors.{clash, some_same}
use Rattle.formula.proofs.Kept.{kept}
use Rattle.formula.proofs.Noting.{noted_same, noted_none, step_noted}
use Rattle.formula.proofs.Seeing.{reading_after, none_seen, start_flat}

-- s is kept of the first i bytes of w, and m is noted
pub record SoFar (w : List ℕ) (i : ℕ) (s : Seen) (m : Notes) : Type 0 where
  pub seen : seen_of (reading (take i w)) ≡ Some s
  pub noted : Noted m (items_read (reading (take i w)))
  pub flat : s.depth ≤ i

no_items : [] ≡ items_read (reading [])
unfolding run items_read items_before
no_items = refl

pub at_first : (w : List ℕ) (s : Seen) (ps : List Item) → seen_of (reading []) ≡ Some s → SoFar w 0 s (notes ps 0)
at_first w s ps e = record { seen = e; noted = subst (Noted (notes ps 0)) no_items (noted_none ps); flat = start_flat s e }

-- one byte further
module _ (w : List ℕ) (i : ℕ) (s s' : Seen) (m m' : Notes) (r : Option Seen) (l : i < length w) where
  abbrev b : ℕ
  b = get_or w i 0

  pub one_further : After (class b) b s r → m' ≡ with_begun (class b) s m → r ≡ Some s' → SoFar w i s m → SoFar w (i + 1) s' m'
  one_further a n e f =
      rw (add-one i) (record {
        seen = ap (λ v. seen_of (reading v)) further ∙ goes;
        noted = rw n (subst (λ x. Noted (with_begun (class b) s m) (items_read x)) (sym one_more) (step_noted (reading (take i w)) b s m f.seen f.noted good));
        flat = omega (arith, f.flat, subst (λ o. IfSome o (λ z. z.depth ≤ s.depth + 1)) e a.deeper);
      })
    where
      further : take (suc i) w ≡ take i w ++ (b ∷ [])
      further = take-suc w i 0 l

      one_more : reading (take (suc i) w) ≡ step (reading (take i w)) b
      one_more = ap reading further ∙ reading_after (take i w) b

      goes : seen_of (reading (take i w ++ (b ∷ []))) ≡ Some s'
      goes = a.seen (take i w) refl f.seen ∙ e

      good : step (reading (take i w)) b ≡ bad → ⊥
      good z = clash s' (sym (none_seen _ (reading_after (take i w) b ∙ z)) ∙ goes)

-- The end ---------------------------------------------------------------------------------------------------------------------------

whole_items : (u : Tree) (fs : List Frame) (t : Tree) → whole (behind u fs) ≡ Some t
    → items_before fs ++ items_of (depth fs) u ≡ items_of 0 t
unfolding whole items_before depth
whole_items u [] t e = ap (items_of 0) (some_same u t e)
whole_items u (f ∷ fs) t e = clash t e

have_items : (u : Tree) (fs : List Frame) (t : Tree) → whole (reduce 0 u fs) ≡ Some t
    → items_before fs ++ items_of (depth fs) u ≡ items_of 0 t
have_items u fs t e = let r = reduce 0 u fs in sym (kept 0 u fs).items ∙ whole_items r.tree r.frames t e

ended_items : (x : State) (t : Tree) → ended x ≡ Some t → items_read x ≡ items_of 0 t
unfolding ended items_read
ended_items bad t e = clash t e
ended_items (want fs) t e = clash t e
ended_items (have u digits fs) t e = have_items u fs t e
ended_items (have u closed fs) t e = have_items u fs t e
ended_items (have u spaced fs) t e = clash t e

-- what is kept and noted of all bytes
module _ (w : List ℕ) (i : ℕ) (s : Seen) (ps : List Item) (n : ℕ) (l : length w ≤ i) (f : SoFar w i s (notes ps n)) where
  pub seen_whole : seen_of (reading w) ≡ Some s
  seen_whole = (rw (take_all i w l) at f.seen)

  pub noted_whole : Noted (notes ps n) (items_read (reading w))
  noted_whole = (rw (take_all i w l) at f.noted)

  pub formula_noted : length ps ≡ 129 → (r : Result ℕ Refusal) → IfOk r (λ k. (k ≡ n) × (k ≤ 128))
      → IfOk r (λ k. (t : Tree) → parse w ≡ Some t → take k ps ≡ items_of 0 t)
  unfolding parse
  formula_noted size (Ok k) h =
      λ t e. ap (λ j. take j ps) h.0 ∙ noted_same (notes ps n) _ noted_whole (omega (arith, size, h.0, h.1)) ∙ ended_items (reading w) t e
  formula_noted size (Err e) h = tt

-- so many items and no more
pub few_noted : (n : ℕ) (r : Result ℕ Refusal) → IfOk r (λ k. (k ≡ n) × (k ≤ 128)) → IfOk r (λ k. k ≤ 128)
few_noted n (Ok k) h = h.1
few_noted n (Err e) h = tt
