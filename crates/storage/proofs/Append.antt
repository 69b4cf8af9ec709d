-- Laws of the stored arena: an Implode is appended.
use mathlib.Core.Path.{◌≡◌, refl, sym, ap, ap₂, ◌∙◌}
use mathlib.Core.Logic.{◌≢◌}
use mathlib.Core.Bool.{Bool, false}
use mathlib.Core.List.{List, [], ◌∷◌, ◌++◌}
use Prim.Native.Nat.{ℕ, ◌+◌, ◌*◌, ◌≤◌, ◌<◌}
use native.Mathlib.Omega.{arith}
use native.Mathlib.Numerals.{add-one}
use native.Mathlib.Nat.{not-suc-le-zero}
use lib.ListN.{length, get_or, take, drop, set, length-set, length-drop}
use lib.Seq.{get_or-take, get_or-drop, get_or-set_same, get_or-set_other, drop-set-add}
use Rattle.plan.specs.Sheet.{Expr, expr_of}
use Rattle.plan.specs.Visit.{implode_over}
use Rattle.storage.proofs.Laws.{table_more, same_table}
use Rattle.storage.proofs.RecordLaws.{sixteen, same_record, bytes_kept}
use Rattle.storage.specs.Exprs.{ExprStored}
use Rattle.storage.specs.Stored.{table, stored_expr, held_expr, arena_of, ExprFormed}

-- The bytes with an Implode over q at i ------------------------------------------------------------------------------------------

module _ (bytes : List ℕ) (i q : ℕ) (room : i * 16 + 16 ≤ length bytes) where
  abbrev front : List ℕ
  front = set (set (set (set (set bytes (i * 16) 23) (i * 16 + 1) 1) (i * 16 + 2) 0) (i * 16 + 3) 1) (i * 16 + 4) q

  abbrev new : List ℕ
  new = set front (i * 16 + 12) 1

  first : i * 16 + 0 ≡ i * 16
  first = omega arith

  count_written : get_or new (i * 16 + 12) 0 ≡ 1
  count_written = get_or-set_same front (i * 16 + 12) 1 0 (simp length-set (omega arith))

  -- l with the six bytes
  abbrev over : List ℕ → List ℕ
  over l = set (set (set (set (set (set l 0 23) 1 1) 2 0) 3 1) 4 q) 12 1

  own : drop (i * 16) new ≡ over (drop (i * 16) bytes)
  own =
      drop-set-add (i * 16) front 12 1
      ∙ ap (λ (l : List ℕ). set l 12 1) (drop-set-add (i * 16) (set (set (set (set bytes (i * 16) 23) (i * 16 + 1) 1) (i * 16 + 2) 0) (i * 16 + 3) 1) 4 q)
      ∙ ap (λ (l : List ℕ). set (set l 4 q) 12 1) (drop-set-add (i * 16) (set (set (set bytes (i * 16) 23) (i * 16 + 1) 1) (i * 16 + 2) 0) 3 1)
      ∙ ap (λ (l : List ℕ). set (set (set l 3 1) 4 q) 12 1) (drop-set-add (i * 16) (set (set bytes (i * 16) 23) (i * 16 + 1) 1) 2 0)
      ∙ ap (λ (l : List ℕ). set (set (set (set l 2 0) 3 1) 4 q) 12 1) (drop-set-add (i * 16) (set bytes (i * 16) 23) 1 1)
      ∙ ap (λ (l : List ℕ). set (set (set (set (set l 1 1) 2 0) 3 1) 4 q) 12 1) (rw first at (drop-set-add (i * 16) bytes 0 23))

  five : (l : List ℕ) → 5 ≤ length l → take 5 (over l) ≡ 23 ∷ 1 ∷ 0 ∷ 1 ∷ q ∷ []
  five [] h = absurd (not-suc-le-zero h)
  five (_ ∷ []) h = absurd (omega arith)
  five (_ ∷ _ ∷ []) h = absurd (omega arith)
  five (_ ∷ _ ∷ _ ∷ []) h = absurd (omega arith)
  five (_ ∷ _ ∷ _ ∷ _ ∷ []) h = absurd (omega arith)
  five (_ ∷ _ ∷ _ ∷ _ ∷ _ ∷ l) h = refl

  five_written : take 5 (drop (i * 16) new) ≡ 23 ∷ 1 ∷ 0 ∷ 1 ∷ q ∷ []
  five_written = ap (take 5) own ∙ five (drop (i * 16) bytes) (omega (arith, length-drop (i * 16) bytes))

  byte : (k : ℕ) → k < 5 → get_or new (i * 16 + k) 0 ≡ get_or (23 ∷ 1 ∷ 0 ∷ 1 ∷ q ∷ []) k 0
  byte k h =
      sym (get_or-take 5 (drop (i * 16) new) k 0 h ∙ get_or-drop (i * 16) new k 0) ∙ ap (λ (l : List ℕ). get_or l k 0) five_written

  others : (j : ℕ) → j ≢ i → sixteen new j ≡ sixteen bytes j
  others j e =
      bytes_kept _ i j 12 1 (omega arith) e ∙ bytes_kept _ i j 4 q (omega arith) e ∙ bytes_kept _ i j 3 1 (omega arith) e
      ∙ bytes_kept _ i j 2 0 (omega arith) e ∙ bytes_kept _ i j 1 1 (omega arith) e ∙ (rw first at (bytes_kept bytes i j 0 23 (omega arith) e))

  is : stored_expr new i ≡ implode_over q
  unfolding stored_expr expr_of
  is = ap (λ (c : ℕ). expr_of (take (4 + c) (drop (i * 16) new))) count_written ∙ ap expr_of five_written

  pub implode_stored : ExprStored bytes i (implode_over q) new
  implode_stored =
      record {
        size = simp length-set;
        is = is;
        formed =
            record {
              kind = omega (arith, ap (λ (j : ℕ). get_or new j 0) first, byte 0 (omega arith));
              scalar = omega (arith, byte 1 (omega arith));
              length_preserving = omega (arith, byte 2 (omega arith));
              count = omega (arith, count_written);
            };
        others = λ j e f. same_record new bytes j j (others j e) f;
      }

-- The arena with the record e appended -------------------------------------------------------------------------------------------

module _ (bytes line : List ℕ) (off : List Bool) (n : ℕ) (e : Expr) (exit : List ℕ) (stored : ExprStored bytes n e exit) (lines : n < length line)
    (switches : n < length off) (formed : (l : ℕ) → l < n → ExprFormed bytes l) (below : (p : ℕ) → p < n → get_or line p 0 ≤ p) where
  abbrev held : ℕ → Expr
  held = held_expr exit (set line n n) (set off n false)

  pub arena_appended : arena_of exit (set line n n) (set off n false) (n + 1) ≡ arena_of bytes line off n ++ (e ∷ [])
  unfolding arena_of held_expr
  arena_appended =
      ap (table held 0) (add-one n) ∙ table_more held 0 n
      ∙ ap₂ (λ (l : List Expr) (x : Expr). l ++ (x ∷ [])) (same_table held (held_expr bytes line off) n old) (ap held (omega arith) ∙ new)
    where
      old : (p : ℕ) → p < n → held p ≡ held_expr bytes line off p
      old p h =
          let l = get_or line p 0 in
          rw (
            get_or-set_other line n p n 0 (λ q. omega (arith, q)),
            get_or-set_other off n p false false (λ q. omega (arith, q)),
            (stored.others l (λ q. omega (arith, q, below p h)) (formed l (omega (arith, below p h)))).0,
          )

      new : held n ≡ e
      new = rw (get_or-set_same line n n 0 lines, get_or-set_same off n false false switches) stored.is
