-- A formula that the first pass lets through: its tree, its items and its lines.
use Rattle.std.specs.Prelude.{Option, None, Some}
use mathlib.Core.Path.{◌≡◌, refl}
use mathlib.Core.List.{List}
use Prim.Native.Nat.{ℕ, ◌<◌, ◌≤◌}
use native.Mathlib.Omega.{arith}
use native.Mathlib.Decide.{dec_lt}
use lib.ListN.{length}
use Rattle.plan.specs.Sheet.{Expr, done, ◌then◌}
use Rattle.formula.specs.declared.items.Item.{Item}
use Rattle.formula.specs.Formula.{Tree, lines}
use Rattle.formula.specs.Parse.{parse}
use Rattle.formula.specs.Converted.{within_limit, judged, answer_number}
use Rattle.formula.specs.Items.{items_of, operators}
use Rattle.formula.specs.Progress.{lines_of}
use Rattle.formula.proofs.Settling.{lines_same}
use Rattle.formula.proofs.Sound.{parsed}
use Rattle.formula.proofs.Verdicts.{items_length, many, few, come_to}
use Rattle.formula.proofs.Waits.{few_operators}

pub record LetThrough (w : List ℕ) : Type 0 where
  pub tree : Tree
  pub parsed : parse w ≡ Some tree
  pub few : length (lines 0 tree) ≤ 128
  pub is : judged w ≡ done (lines 0 tree)
  pub same : lines_of (items_of 0 tree) ≡ lines 0 tree

limited : (es : List Expr) → answer_number (within_limit es) ≡ 0 → length es ≤ 128
limited es z = by (dec_lt 128 (length es))
  where
    by : Dec (128 < length es) → length es ≤ 128
    by (yes h) = absurd (let y : ◌≡◌ {A = ℕ} 15 0 = (rw (many es h) at z) in omega arith)
    by (no h) = omega arith

accepted_by : (w : List ℕ) (o : Option Tree) → parse w ≡ o → answer_number (come_to o) ≡ 0 → LetThrough w
unfolding judged ◌then◌
accepted_by w None e z = absurd (omega arith)
accepted_by w (Some t) e z =
    let l = limited (lines 0 t) z in
    record { tree = t; parsed = e; few = l; is = rw e (few (lines 0 t) l); same = lines_same t (parsed w t e).fits }

pub accepted : (w : List ℕ) → answer_number (judged w) ≡ 0 → LetThrough w
unfolding judged
accepted w z = accepted_by w (parse w) refl z

-- the second pass has places for its operators
pub few_wait : (w : List ℕ) → answer_number (judged w) ≡ 0 → (xs : List Item) → ((t : Tree) → parse w ≡ Some t → xs ≡ items_of 0 t)
    → operators xs ≤ 63
few_wait w z xs f =
    let a = accepted w z in rw (f a.tree a.parsed) (few_operators a.tree (omega (arith, a.few, items_length 0 0 a.tree)))
