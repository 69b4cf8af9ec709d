-- Laws of stored lines: the entries of a table, and a stored line as it is printed.
use mathlib.Core.Path.{◌≡◌, refl, ap, ap₂, ◌∙◌}
use mathlib.Core.List.{List, [], ◌∷◌, ◌++◌}
use Prim.Native.Nat.{ℕ, zero, suc, ◌+◌, ◌*◌, ◌≤◌, ◌<◌}
use native.Mathlib.Omega.{arith}
use native.Mathlib.Nat.{not-suc-le-zero}
use native.Mathlib.Numerals.{add-one}
use mathlib.Core.Bool.{Bool}
use lib.ListN.{length, get_or, take, drop, length-take, length-drop}
use lib.Seq.{take-add, get_or-take, get_or-drop}
use Rattle.plan.proofs.KindNumbers.{aexpr_there, ir_there}
use Rattle.plan.specs.Lists.{yes?, digit}
use Rattle.plan.specs.Sheet.{expr_of, step_of}
use Rattle.plan.specs.Text.{line, expr_line, step_line}
use Rattle.storage.specs.Stored.{table, stored_expr, stored_step, stored_exprs, stored_steps, held_expr, arena_of, ExprFormed, StepFormed}

-- Tables -------------------------------------------------------------------------------------------------------------------------

module _ {A : Type 0} (f : ℕ → A) where
  pub length_table : (k n : ℕ) → length (table f k n) ≡ n
  unfolding table
  length_table k zero = refl
  length_table k (suc n) = ap suc (length_table (suc k) n)

  pub table_from_at : (k n i : ℕ) (d : A) → i < n → get_or (table f k n) i d ≡ f (k + i)
  unfolding table
  table_from_at k zero i d h = absurd (not-suc-le-zero h)
  table_from_at k (suc n) zero d h = ap f (omega arith)
  table_from_at k (suc n) (suc i) d h = table_from_at (suc k) n i d (omega arith) ∙ ap f (omega arith)

  pub table_at : (n i : ℕ) (d : A) → i < n → get_or (table f 0 n) i d ≡ f i
  table_at n i d h = table_from_at 0 n i d h ∙ ap f (omega arith)

  -- one entry more
  pub table_more : (k n : ℕ) → table f k (suc n) ≡ table f k n ++ (f (k + n) ∷ [])
  unfolding table
  table_more k zero = ap (λ (i : ℕ). f i ∷ []) (omega arith)
  table_more k (suc n) =
      ap (λ (l : List A). f k ∷ l) (table_more (suc k) n ∙ ap (λ (i : ℕ). table f (suc k) n ++ (f i ∷ [])) (omega arith))

  pub one_entry_more : (n : ℕ) → table f 0 (n + 1) ≡ table f 0 n ++ (f n ∷ [])
  one_entry_more n = let e : 0 + n ≡ n = omega arith in rw (add-one, table_more 0 n, e)

  -- in two parts
  pub table_split : (k m n : ℕ) → table f k (m + n) ≡ table f k m ++ table f (k + m) n
  unfolding table
  table_split k zero n =
      let here : k ≡ k + 0 = omega arith in
      let rest : 0 + n ≡ n = omega arith in
      ap₂ (λ (i j : ℕ). table f i j) here rest
  table_split k (suc m) n =
      let more : suc m + n ≡ suc (m + n) = omega arith in
      rw more (ap (λ (l : List A). f k ∷ l) (table_split (suc k) m n ∙ ap (λ (i : ℕ). table f (suc k) m ++ table f i n) (omega arith)))

-- as many lines as are stored
pub length_exprs : (bytes : List ℕ) (n : ℕ) → length (stored_exprs bytes n) ≡ n
unfolding stored_exprs
length_exprs bytes n = length_table (stored_expr bytes) 0 n

pub length_steps : (bytes : List ℕ) (n : ℕ) → length (stored_steps bytes n) ≡ n
unfolding stored_steps
length_steps bytes n = length_table (stored_step bytes) 0 n

pub length_arena : (recs line : List ℕ) (off : List Bool) (n : ℕ) → length (arena_of recs line off n) ≡ n
unfolding arena_of
length_arena recs line off n = length_table (held_expr recs line off) 0 n

-- Tables that agree
same_from : {A : Type 0} (f g : ℕ → A) (k n : ℕ) → ((j : ℕ) → k ≤ j → j < k + n → f j ≡ g j) → table f k n ≡ table g k n
unfolding table
same_from f g k zero h = refl
same_from {A} f g k (suc n) h =
    ap₂ (λ (x : A) (l : List A). x ∷ l) (h k (omega arith) (omega arith)) (same_from f g (suc k) n (λ j a b. h j (omega arith) (omega arith)))

pub same_table : {A : Type 0} (f g : ℕ → A) (n : ℕ) → ((j : ℕ) → j < n → f j ≡ g j) → table f 0 n ≡ table g 0 n
same_table f g n h = same_from f g 0 n (λ j a b. h j (omega arith))

-- An E line ----------------------------------------------------------------------------------------------------------------------

digit_yes : (n : ℕ) → n ≤ 1 → digit (yes? n) ≡ n
digit_yes zero h = refl
digit_yes (suc zero) h = refl
digit_yes (suc (suc n)) h = absurd (omega arith)

-- what is read is printed as it was
expr_printed : (ns : List ℕ) → 4 ≤ length ns → get_or ns 0 0 < 25 → get_or ns 1 0 ≤ 1 → get_or ns 2 0 ≤ 1 → expr_line (expr_of ns) ≡ line 69 ns
unfolding expr_line expr_of
expr_printed [] h k s l = absurd (omega arith)
expr_printed (a ∷ []) h k s l = absurd (omega arith)
expr_printed (a ∷ b ∷ []) h k s l = absurd (omega arith)
expr_printed (a ∷ b ∷ c ∷ []) h k s l = absurd (omega arith)
expr_printed (a ∷ b ∷ c ∷ d ∷ ns) h k s l = rw (aexpr_there a k, digit_yes b s, digit_yes c l)

module _ (bytes : List ℕ) (i : ℕ) (size : i * 16 + 16 ≤ length bytes) (formed : ExprFormed bytes i) where
  pub stored_expr_printed : expr_line (stored_expr bytes i) ≡ line 69 (take (4 + get_or bytes (i * 16 + 12) 0) (drop (i * 16) bytes))
  unfolding stored_expr
  stored_expr_printed =
      let c = get_or bytes (i * 16 + 12) 0 in
      let at : (j : ℕ) → j < 4 → get_or (take (4 + c) (drop (i * 16) bytes)) j 0 ≡ get_or bytes (i * 16 + j) 0 =
      λ j h. get_or-take (4 + c) (drop (i * 16) bytes) j 0 (omega arith) ∙ get_or-drop (i * 16) bytes j 0 in
      expr_printed (take (4 + c) (drop (i * 16) bytes))
      (simp (length-take, length-drop) (omega (arith, formed.count)))
      (rw (at 0 (omega arith)) (omega (arith, formed.kind, ap (λ (x : ℕ). get_or bytes x 0) (plus_zero (i * 16)))))
      (rw (at 1 (omega arith)) formed.scalar)
      (rw (at 2 (omega arith)) formed.length_preserving)
    where
      plus_zero : (x : ℕ) → x + 0 ≡ x
      plus_zero x = omega arith

-- A P line -----------------------------------------------------------------------------------------------------------------------

module _ (t : List ℕ) (n1 n2 n3 : ℕ) (fits : n1 + n2 + n3 ≤ length t) where
  length_part : (k n : ℕ) → k + n ≤ n1 + n2 + n3 → length (take n (drop k t)) ≡ n
  length_part k n h = simp (length-take, length-drop) (omega arith)

  length_front : length (take n1 t) ≡ n1
  length_front = simp length-take (omega arith)

  three_parts : take n1 t ++ take n2 (drop n1 t) ++ take n3 (drop (n1 + n2) t) ≡ take (n1 + n2 + n3) t
  three_parts = rw (take-add (n1 + n2) n3 t, take-add n1 n2 t)

step_printed : (ns : List ℕ) → 7 + get_or ns 4 0 + get_or ns 5 0 + get_or ns 6 0 ≤ length ns → get_or ns 0 0 < 19
    → step_line (step_of ns) ≡ line 80 (take (7 + get_or ns 4 0 + get_or ns 5 0 + get_or ns 6 0) ns)
unfolding step_line step_of
step_printed [] h k = absurd (omega arith)
step_printed (_ ∷ []) h k = absurd (omega arith)
step_printed (_ ∷ _ ∷ []) h k = absurd (omega arith)
step_printed (_ ∷ _ ∷ _ ∷ []) h k = absurd (omega arith)
step_printed (_ ∷ _ ∷ _ ∷ _ ∷ []) h k = absurd (omega arith)
step_printed (_ ∷ _ ∷ _ ∷ _ ∷ n1 ∷ []) h k = absurd (omega arith)
step_printed (_ ∷ _ ∷ _ ∷ _ ∷ n1 ∷ n2 ∷ []) h k = absurd (omega arith)
step_printed (kind ∷ a ∷ b ∷ c ∷ n1 ∷ n2 ∷ n3 ∷ t) h k =
    let f : n1 + n2 + n3 ≤ length t = omega arith in
    let seven : 7 + n1 + n2 + n3 ≡ suc (suc (suc (suc (suc (suc (suc (n1 + n2 + n3))))))) = omega arith in
    rw (
      seven,
      ir_there kind k,
      length_front t n1 n2 n3 f,
      length_part t n1 n2 n3 f n1 n2 (omega arith),
      length_part t n1 n2 n3 f (n1 + n2) n3 (omega arith),
      three_parts t n1 n2 n3 f,
    )

module _ (bytes : List ℕ) (i : ℕ) (size : i * 32 + 32 ≤ length bytes) (formed : StepFormed bytes i) where
  pub stored_step_printed :
      step_line (stored_step bytes i)
      ≡ line 80 (take (7 + get_or bytes (i * 32 + 4) 0 + get_or bytes (i * 32 + 5) 0 + get_or bytes (i * 32 + 6) 0) (drop (i * 32) bytes))
  unfolding stored_step
  stored_step_printed =
      let ns = drop (i * 32) bytes in
      let at : (j : ℕ) → get_or ns j 0 ≡ get_or bytes (i * 32 + j) 0 = λ j. get_or-drop (i * 32) bytes j 0 in
      rw (← at 4, ← at 5, ← at 6)
      (step_printed ns (rw (at 4, at 5, at 6) (omega (arith, length-drop (i * 32) bytes, formed.n1, formed.n2, formed.n3)))
      (rw (at 0) (omega (arith, formed.kind, ap (λ (x : ℕ). get_or bytes x 0) (plus_zero (i * 32))))))
    where
      plus_zero : (x : ℕ) → x + 0 ≡ x
      plus_zero x = omega arith
