-- The lists of a stored line, out of its numbers.
use mathlib.Core.Path.{◌≡◌, refl, sym, ap, ◌∙◌}
use mathlib.Core.List.{List, ◌++◌}
use Prim.Native.Nat.{ℕ, ◌+◌, ◌-◌, ◌*◌}
use native.Mathlib.Omega.{arith}
use lib.ListN.{length, get_or, take, drop}
use lib.Seq.{drop-drop, get_or-drop, take-add, take-take}
use Rattle.std.proofs.lemmas.List.{take_rest, drop-take}
use Rattle.plan.specs.Sheet.{expr_of, step_of}
use Rattle.storage.specs.Stored.{stored_expr, stored_step}
use Rattle.storage.specs.Lines.{expr_numbers, step_numbers}

module _ (bytes : List ℕ) (i : ℕ) where
  pub children_lent : (l : List ℕ) → l ≡ expr_numbers bytes i → take (length l - 4) (drop 4 l) ≡ (stored_expr bytes i).children
  unfolding stored_expr expr_of
  children_lent l e = take_rest l 4 ∙ ap (drop 4) e

  abbrev n : ℕ → ℕ
  n k = get_or bytes (i * 32 + k) 0

  abbrev line : List ℕ
  line = drop (i * 32) bytes

  at : (k : ℕ) → get_or line k 0 ≡ n k
  at k = get_or-drop (i * 32) bytes k 0

  pub inputs_are : (stored_step bytes i).inputs ≡ take (n 4) (drop 7 line)
  unfolding stored_step step_of
  inputs_are = rw (step_of, at 4) refl

  pub inputs_lent : (l : List ℕ) (k : ℕ) → l ≡ step_numbers bytes i → k ≡ n 4 → take (7 + k - 7) (drop 7 l) ≡ (stored_step bytes i).inputs
  inputs_lent l k e f =
      let whole : 7 + n 4 + n 5 + n 6 ≡ 7 + (n 4 + n 5 + n 6) = omega arith in
      let span : 7 + n 4 - 7 ≡ n 4 = omega arith in
      rw (e, f, span, whole, drop-take 7 (n 4 + n 5 + n 6) line, take-take (n 4) (n 4 + n 5 + n 6) (drop 7 line) (omega arith)) (sym inputs_are)

  both_are : (stored_step bytes i).exprs ++ (stored_step bytes i).aggs ≡ take (n 5 + n 6) (drop (7 + n 4) line)
  unfolding stored_step step_of
  both_are =
      let side : 7 + (n 4 + n 5) ≡ 7 + n 4 + n 5 = omega arith in
      rw (step_of, at 4, at 5, at 6, drop-drop (n 4) 7 line, drop-drop (n 4 + n 5) 7 line, side)
      (sym (take-add (n 5) (n 6) (drop (7 + n 4) line) ∙ ap (λ (x : List ℕ). take (n 5) (drop (7 + n 4) line) ++ take (n 6) x) (drop-drop (n 5) (7 + n 4) line)))

  pub exprs_lent : (l : List ℕ) (k : ℕ) → l ≡ step_numbers bytes i → k ≡ n 4
      → take (length l - (7 + k)) (drop (7 + k) l) ≡ (stored_step bytes i).exprs ++ (stored_step bytes i).aggs
  exprs_lent l k e f =
      let whole : 7 + n 4 + n 5 + n 6 ≡ 7 + n 4 + (n 5 + n 6) = omega arith in
      take_rest l (7 + k) ∙ rw (e, f, whole, drop-take (7 + n 4) (n 5 + n 6) line) (sym both_are)
