-- What is reduced keeps its open brackets and its items.
use mathlib.Core.Path.{◌≡◌, refl, sym, ◌∙◌}
use mathlib.Core.Bool.{Bool}
use mathlib.Core.List.{List, [], ◌∷◌, ◌++◌, append_assoc}
use Prim.Native.Nat.{ℕ, ◌≤◌}
use native.Mathlib.Omega.{arith}
use native.Mathlib.Decide.{dec_le}
use Rattle.formula.specs.Tokens.{level}
use Rattle.formula.specs.Formula.{Tree}
use Tree.{operator}
use Rattle.formula.specs.Parse.{Frame, Behind, reduce}
use Frame.{opened, left}
use Rattle.formula.specs.Items.{items_of, depth, items_before}
use Rattle.formula.proofs.Reading.{reduce_take, reduce_stop}

-- An operator with its right operand has the items that it had waiting
pub joined_items : (t l : Tree) (s : Bool) (b : ℕ) (s' : Bool) (fs : List Frame)
    → items_before (left l s b s' ∷ fs) ++ items_of (depth fs) t ≡ items_before fs ++ items_of (depth fs) (operator l s b s' t)
unfolding items_before items_of
joined_items t l s b s' fs = simp append_assoc refl

-- r is what t behind fs was reduced to
pub record Kept (r : Behind) (t : Tree) (fs : List Frame) : Type 0 where
  pub brackets : depth r.frames ≡ depth fs
  pub items : items_before r.frames ++ items_of (depth r.frames) r.tree ≡ items_before fs ++ items_of (depth fs) t

kept_left : (k : ℕ) (t l : Tree) (s : Bool) (b : ℕ) (s' : Bool) (fs : List Frame) → Dec (k ≤ level b)
    → Kept (reduce k (operator l s b s' t) fs) (operator l s b s' t) fs → Kept (reduce k t (left l s b s' ∷ fs)) t (left l s b s' ∷ fs)
unfolding depth
kept_left k t l s b s' fs (yes m) e =
    rw (reduce_take k t l s b s' fs m) (record { brackets = e.brackets; items = e.items ∙ sym (joined_items t l s b s' fs) })
kept_left k t l s b s' fs (no m) e = rw (reduce_stop k t l s b s' fs (omega arith)) (record { brackets = refl; items = refl })

pub kept : (k : ℕ) (t : Tree) (fs : List Frame) → Kept (reduce k t fs) t fs
unfolding reduce
kept k t [] = record { brackets = refl; items = refl }
kept k t (opened s ∷ fs) = record { brackets = refl; items = refl }
kept k t (left l s b s' ∷ fs) = kept_left k t l s b s' fs (dec_le k (level b)) (kept k (operator l s b s' t) fs)
