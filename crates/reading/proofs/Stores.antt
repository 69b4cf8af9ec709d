-- A line's numbers written into the bytes, and what is read there afterwards.
use mathlib.Core.Path.{◌≡◌, sym, ap, ◌∙◌}
use mathlib.Core.List.{List, [], ◌∷◌, ◌++◌, append_assoc}
use Prim.Native.Nat.{ℕ, ◌+◌, ◌*◌, ◌<◌, ◌≤◌}
use native.Mathlib.Numerals.{add-one}
use native.Mathlib.Omega.{arith}
use native.Mathlib.Decide.{ℕ_discrete}
use Rattle.plan.specs.Sheet.{expr_of, step_of}
use Rattle.storage.specs.Stored.{stored_expr, stored_step, stored_exprs, stored_steps, table, ExprFormed, StepFormed}
use Rattle.storage.proofs.Laws.{table_more, same_table}
use Rattle.storage.proofs.Changes.{step_take}
use Rattle.reading.specs.Lines.{pasted}
use Rattle.storage.specs.Lines.{children_count}
use Rattle.reading.specs.Held.{count_of}
use borrow.Rule.Slice.PartMut.{put_mid}
use lib.ListN.{length, get_or, take, drop, set, length-set, length-drop, take-append-drop, get_or-append}
use lib.Seq.{drop-drop, take-append-le, drop-append-le, drop_at, take-take, get_or-take, get_or-drop, length-take-le, take-set-le, get_or-set_same, get_or-set_other}

-- a part of d that was overwritten
pub overwritten : (d : List ℕ) (at n m : ℕ) (w v : List ℕ) → m ≡ n → w ≡ take n v → put_mid at m d w ≡ pasted d at v n
unfolding pasted
overwritten d at n m w v e f = rw (e, f) (ap (λ r. take at d ++ (take n v ++ r)) (drop-drop n at d) ∙ sym (append_assoc (take at d) (take n v) (drop (at + n) d)))

-- What is read afterwards ----------------------------------------------------------------------------------------------------

-- a part within the first p entries does not depend on what follows them
front : (p r r' : List ℕ) (a k : ℕ) → a + k ≤ length p → take k (drop a (p ++ r)) ≡ take k (drop a (p ++ r'))
front p r r' a k h = one r ∙ sym (one r')
  where
    one : (q : List ℕ) → take k (drop a (p ++ q)) ≡ take k (drop a p)
    one q = ap (take k) (drop-append-le a p q (omega arith)) ∙ take-append-le k (drop a p) q (omega (arith, length-drop a p))

module _ (d v : List ℕ) (at n : ℕ) (h : at + n ≤ length d) (k : n ≤ length v) where
  in_three : pasted d at v n ≡ take at d ++ (take n v ++ drop (at + n) d)
  unfolding pasted
  in_three = append_assoc (take at d) (take n v) (drop (at + n) d)

  pub before : (a m : ℕ) → a + m ≤ at → take m (drop a (pasted d at v n)) ≡ take m (drop a d)
  before a m l =
      ap (λ (e : List ℕ). take m (drop a e)) in_three
      ∙ front (take at d) (take n v ++ drop (at + n) d) (drop at d) a m (omega (arith, length-take-le at d (omega arith)))
      ∙ ap (λ (e : List ℕ). take m (drop a e)) (take-append-drop at d)

  pub byte_before : (i : ℕ) → i < at → get_or (pasted d at v n) i 0 ≡ get_or d i 0
  byte_before i l =
      ap (λ (e : List ℕ). get_or e i 0) in_three
      ∙ get_or-append (take at d) (take n v ++ drop (at + n) d) 0 i (omega (arith, length-take-le at d (omega arith)))
      ∙ get_or-take at d i 0 l

  here : drop at (pasted d at v n) ≡ take n v ++ drop (at + n) d
  here = ap (drop at) in_three ∙ drop_at (take at d) (take n v ++ drop (at + n) d) at (length-take-le at d (omega arith))

  pub written : (m : ℕ) → m ≤ n → take m (drop at (pasted d at v n)) ≡ take m v
  written m l =
      ap (take m) here
      ∙ take-append-le m (take n v) (drop (at + n) d) (omega (arith, length-take-le n v k))
      ∙ take-take m n v l

  pub byte_written : (i : ℕ) → i < n → get_or (pasted d at v n) (at + i) 0 ≡ get_or v i 0
  byte_written i l =
      sym (get_or-drop at (pasted d at v n) i 0)
      ∙ ap (λ (e : List ℕ). get_or e i 0) here
      ∙ get_or-append (take n v) (drop (at + n) d) 0 i (omega (arith, length-take-le n v k))
      ∙ get_or-take n v i 0 l

-- Records --------------------------------------------------------------------------------------------------------------------

module _ (es v : List ℕ) (n count : ℕ) (h : n < 128) (el : length es ≡ 2048) (vl : length v ≡ 32) (small : count ≤ 8) where
  abbrev es' : List ℕ
  es' = pasted es (n * 16) (set v 12 count) 16

  fits_here : n * 16 + 16 ≤ length es
  fits_here = omega arith

  wide : 16 ≤ length (set v 12 count)
  wide = omega (arith, length-set v 12 count)

  count_written : children_count es' n ≡ count
  count_written = byte_written es (set v 12 count) (n * 16) 16 fits_here wide 12 (omega arith) ∙ get_or-set_same v 12 count 0 (omega arith)

  new_expr : stored_expr es' n ≡ expr_of (take (4 + count) v)
  unfolding stored_expr
  new_expr =
      ap expr_of (ap (λ c. take (4 + c) (drop (n * 16) es')) count_written ∙ written es (set v 12 count) (n * 16) 16 fits_here wide (4 + count) (omega arith) ∙ take-set-le (4 + count) v 12 count (omega arith))

  -- the numbers but the count
  number_kept : (i : ℕ) → i < 12 → get_or es' (n * 16 + i) 0 ≡ get_or v i 0
  number_kept i l = byte_written es (set v 12 count) (n * 16) 16 fits_here wide i (omega arith) ∙ get_or-set_other v 12 i count 0 (omega arith)

  module _ (old : (i : ℕ) → i < n → ExprFormed es i) where
    old_byte : (k : ℕ) → k < n * 16 → get_or es' k 0 ≡ get_or es k 0
    old_byte k l = byte_before es (set v 12 count) (n * 16) 16 fits_here wide k l

    old_count : (i : ℕ) → i < n → children_count es' i ≡ children_count es i
    old_count i l = old_byte (i * 16 + 12) (omega arith)

    old_expr : (i : ℕ) → i < n → stored_expr es' i ≡ stored_expr es i
    unfolding stored_expr
    old_expr i l =
        ap expr_of
        (ap (λ c. take (4 + c) (drop (i * 16) es')) (old_count i l)
        ∙ before es (set v 12 count) (n * 16) 16 fits_here wide (i * 16) (4 + children_count es i) (let s = (old i l).count in omega arith))

    pub more_exprs : stored_exprs es' (n + 1) ≡ stored_exprs es n ++ (expr_of (take (4 + count) v) ∷ [])
    unfolding stored_exprs
    more_exprs =
        ap (λ k. table (stored_expr es') 0 k) (add-one n)
        ∙ table_more (stored_expr es') 0 n
        ∙ rw (same_table (stored_expr es') (stored_expr es) n old_expr)
        (ap (λ e. table (stored_expr es) 0 n ++ (e ∷ [])) (ap (stored_expr es') (omega arith) ∙ new_expr))

    pub exprs_formed : get_or v 0 0 < 25 → get_or v 1 0 ≤ 1 → get_or v 2 0 ≤ 1 → (i : ℕ) → i < n + 1 → ExprFormed es' i
    exprs_formed k s p i l = by (ℕ_discrete i n)
      where
        new : ExprFormed es' n
        new =
            record {
              kind = rw (ap (λ j. get_or es' j 0) (let e : n * 16 ≡ n * 16 + 0 = omega arith in e) ∙ number_kept 0 (omega arith)) k;
              scalar = rw (number_kept 1 (omega arith)) s;
              length_preserving = rw (number_kept 2 (omega arith)) p;
              count = rw count_written small;
            }

        by : Dec (i ≡ n) → ExprFormed es' i
        by (yes e) = rw e new
        by (no e) =
            let f = old i (omega arith) in
            record {
              kind = rw (old_byte (i * 16) (omega arith)) f.kind;
              scalar = rw (old_byte (i * 16 + 1) (omega arith)) f.scalar;
              length_preserving = rw (old_byte (i * 16 + 2) (omega arith)) f.length_preserving;
              count = rw (old_count i (omega arith)) f.count;
            }

module _ (ps v : List ℕ) (n : ℕ) (h : n < 32) (pl : length ps ≡ 1024) (vl : length v ≡ 32)
    (small1 : get_or v 4 0 ≤ 8) (small2 : get_or v 5 0 ≤ 8) (small3 : get_or v 6 0 ≤ 8) where
  abbrev ps' : List ℕ
  ps' = pasted ps (n * 32) v 32

  room : n * 32 + 32 ≤ length ps
  room = omega arith

  all_of : 32 ≤ length v
  all_of = omega arith

  number_written : (i : ℕ) → i < 32 → count_of i ps' n ≡ get_or v i 0
  number_written i l = byte_written ps v (n * 32) 32 room all_of i l

  -- its own numbers are those that step_of reads
  at_stored : (b : List ℕ) (j k : ℕ) → get_or (drop (j * 32) b) k 0 ≡ count_of k b j
  at_stored b j k = get_or-drop (j * 32) b k 0

  new_step : stored_step ps' n ≡ step_of v
  unfolding stored_step
  new_step =
      let a = at_stored ps' n 4 ∙ number_written 4 (omega arith) in
      let b = at_stored ps' n 5 ∙ number_written 5 (omega arith) in
      let c = at_stored ps' n 6 ∙ number_written 6 (omega arith) in
      sym (step_take (drop (n * 32) ps') 31 (omega arith))
      ∙ ap step_of (written ps v (n * 32) 32 room all_of 31 (omega arith))
      ∙ step_take v 31 (omega arith)

  module _ (old : (i : ℕ) → i < n → StepFormed ps i) where
    old_number : (k i : ℕ) → k < 32 → i < n → count_of k ps' i ≡ count_of k ps i
    old_number k i l m = byte_before ps v (n * 32) 32 room all_of (i * 32 + k) (omega arith)

    old_step : (i : ℕ) → i < n → stored_step ps' i ≡ stored_step ps i
    unfolding stored_step
    old_step i l =
        let a = (old i l).n1 in
        let b = (old i l).n2 in
        let c = (old i l).n3 in
        sym (step_take (drop (i * 32) ps') 31 (omega (arith, at_stored ps' i 4 ∙ old_number 4 i (omega arith) l, at_stored ps' i 5 ∙ old_number 5 i (omega arith) l, at_stored ps' i 6 ∙ old_number 6 i (omega arith) l)))
        ∙ ap step_of (before ps v (n * 32) 32 room all_of (i * 32) 31 (omega arith))
        ∙ step_take (drop (i * 32) ps) 31 (omega (arith, at_stored ps i 4, at_stored ps i 5, at_stored ps i 6))

    pub more_steps : stored_steps ps' (n + 1) ≡ stored_steps ps n ++ (step_of v ∷ [])
    unfolding stored_steps
    more_steps =
        ap (λ k. table (stored_step ps') 0 k) (add-one n)
        ∙ table_more (stored_step ps') 0 n
        ∙ rw (same_table (stored_step ps') (stored_step ps) n old_step)
        (ap (λ e. table (stored_step ps) 0 n ++ (e ∷ [])) (ap (stored_step ps') (omega arith) ∙ new_step))

    pub steps_formed : get_or v 0 0 < 19 → (i : ℕ) → i < n + 1 → StepFormed ps' i
    steps_formed k i l = by (ℕ_discrete i n)
      where
        new : StepFormed ps' n
        new =
            record {
              kind = rw (ap (λ j. get_or ps' j 0) (let e : n * 32 ≡ n * 32 + 0 = omega arith in e) ∙ number_written 0 (omega arith)) k;
              n1 = rw (number_written 4 (omega arith)) small1;
              n2 = rw (number_written 5 (omega arith)) small2;
              n3 = rw (number_written 6 (omega arith)) small3;
            }

        by : Dec (i ≡ n) → StepFormed ps' i
        by (yes e) = rw e new
        by (no e) =
            let f = old i (omega arith) in
            record {
              kind = rw (byte_before ps v (n * 32) 32 room all_of (i * 32) (omega arith)) f.kind;
              n1 = rw (old_number 4 i (omega arith) (omega arith)) f.n1;
              n2 = rw (old_number 5 i (omega arith) (omega arith)) f.n2;
              n3 = rw (old_number 6 i (omega arith) (omega arith)) f.n3;
            }
