-- What the bytes of an expression are as the definition has it.
use Rattle.std.specs.Prelude.{if◌then◌else◌}
use mathlib.Core.Path.{◌≡◌, refl, sym, ap, ◌∙◌}
use Prim.Native.Nat.{ℕ, suc, ◌+◌, ◌*◌, ◌≤◌, ◌<◌}
use native.Mathlib.Omega.{arith}
use mathlib.Core.Bool.{Bool, true, false}
use mathlib.Core.List.{List, [], ◌∷◌, ◌++◌}
use lib.Dec.{eqb}
use lib.ListN.{length, get_or, take, drop}
use lib.Seq.{drop-cons, drop-drop, take-append-le, get_or-take, get_or-drop}
use Rattle.plan.specs.declared.aexpr.AExpr.{AExpr}
use Rattle.plan.specs.Kinds.{aexpr}
use Rattle.plan.specs.Sheet.{expr_of}
use Rattle.storage.specs.Stored.{stored_expr, ExprFormed}
use Rattle.storage.specs.declared.entries.Entries.{Entries}
use Rattle.storage.specs.Entries.{entries_at}
use Rattle.storage.specs.Exprs.{held, IsHeld}

-- each of the first four bytes is on the line
on_line : (bytes : List ℕ) (l j : ℕ) → j < 4 → get_or bytes (l * 16 + j) 0 ≡ get_or (take (4 + get_or bytes (l * 16 + 12) 0) (drop (l * 16) bytes)) j 0
on_line bytes l j h =
    sym (get_or-take (4 + get_or bytes (l * 16 + 12) 0) (drop (l * 16) bytes) j 0 (omega arith) ∙ get_or-drop (l * 16) bytes j 0)

pub stored_kind : (bytes : List ℕ) (l : ℕ) → (stored_expr bytes l).kind ≡ aexpr (get_or bytes (l * 16) 0)
unfolding stored_expr expr_of
stored_kind bytes l = ap aexpr (sym (on_line bytes l 0 (omega arith)) ∙ ap (λ (k : ℕ). get_or bytes k 0) (omega arith))

pub stored_scalar : (bytes : List ℕ) (l : ℕ) → eqb (get_or bytes (l * 16 + 1) 0) 1 ≡ (stored_expr bytes l).scalar
unfolding stored_expr expr_of
stored_scalar bytes l = ap (λ (k : ℕ). eqb k 1) (on_line bytes l 1 (omega arith))

pub stored_length_preserving : (bytes : List ℕ) (l : ℕ) → eqb (get_or bytes (l * 16 + 2) 0) 1 ≡ (stored_expr bytes l).length_preserving
unfolding stored_expr expr_of
stored_length_preserving bytes l = ap (λ (k : ℕ). eqb k 1) (on_line bytes l 2 (omega arith))

module _ (b : List ℕ) (l : ℕ) (room : l * 16 + 16 ≤ length b) (formed : ExprFormed b l) where
  abbrev at : ℕ → ℕ
  at j = get_or b (l * 16 + j) 0

  abbrev eight : List ℕ
  eight = at 4 ∷ at 5 ∷ at 6 ∷ at 7 ∷ at 8 ∷ at 9 ∷ at 10 ∷ at 11 ∷ []

  next : (j : ℕ) → j < 16 → drop (l * 16 + j) b ≡ at j ∷ drop (l * 16 + suc j) b
  next j h =
      let q : l * 16 + suc j ≡ suc (l * 16 + j) = omega arith in
      rw q (drop-cons b (l * 16 + j) 0 (omega arith))

  twelve : drop (l * 16) b ≡ get_or b (l * 16) 0 ∷ at 1 ∷ at 2 ∷ at 3 ∷ (eight ++ drop (l * 16 + 12) b)
  twelve =
      let z : l * 16 + 0 ≡ l * 16 = omega arith in
      (rw z at (next 0 (omega arith)))
      ∙ rw (
        next 1 (omega arith),
        next 2 (omega arith),
        next 3 (omega arith),
        next 4 (omega arith),
        next 5 (omega arith),
        next 6 (omega arith),
        next 7 (omega arith),
        next 8 (omega arith),
        next 9 (omega arith),
        next 10 (omega arith),
        next 11 (omega arith),
      )

  pub stored : stored_expr b l
      ≡ record {
        kind = aexpr (get_or b (l * 16) 0);
        scalar = eqb (at 1) 1;
        length_preserving = eqb (at 2) 1;
        option = at 3;
        children = take (at 12) eight;
      }
  unfolding stored_expr expr_of
  stored =
      let four : 4 + at 12 ≡ suc (suc (suc (suc (at 12)))) = omega arith in
      rw (twelve, four, take-append-le (at 12) eight (drop (l * 16 + 12) b) formed.count)

  four_on : drop (l * 16 + 4) b ≡ eight ++ drop (l * 16 + 12) b
  four_on = sym (drop-drop 4 (l * 16) b) ∙ ap (drop 4) twelve

  pub is_held : (off : Bool) (k : AExpr) (o : ℕ) (cs : Entries) → k ≡ aexpr (get_or b (l * 16) 0) → o ≡ (if off then 0 else at 3)
      → cs ≡ entries_at b (l * 16 + 4) (at 12)
      → IsHeld b l off (record { kind = k; scalar = eqb (at 1) 1; length_preserving = eqb (at 2) 1; option = o; children = cs })
  unfolding held
  is_held true k o cs p q r = record { is = rw (stored, p, q, r, four_on); shaped = record { few = rw r formed.count; room = rw (r, four_on) refl } }
  is_held false k o cs p q r = record { is = rw (stored, p, q, r, four_on); shaped = record { few = rw r formed.count; room = rw (r, four_on) refl } }
