-- Laws of stored expressions: each is told by its sixteen bytes, and a byte of one of them is none of the others'.
use mathlib.Core.Path.{◌≡◌, sym, ap, ◌∙◌}
use mathlib.Core.Logic.{◌≢◌}
use mathlib.Core.List.{List}
use Prim.Native.Nat.{ℕ, ◌+◌, ◌*◌, ◌-◌, ◌≤◌, ◌<◌}
use native.Mathlib.Omega.{arith}
use native.Mathlib.Decide.{dec_lt}
use lib.ListN.{length, get_or, take, drop, set, length-take, length-drop}
use lib.Seq.{ext_get_or, take-take, get_or-take, get_or-drop, drop-set-lt, drop-set-add, take-set-le}
use Rattle.plan.specs.Sheet.{expr_of}
use Rattle.storage.specs.Stored.{stored_expr, ExprFormed}

abbrev pub sixteen : List ℕ → ℕ → List ℕ
sixteen bytes i = take 16 (drop (i * 16) bytes)

byte_at : (bytes : List ℕ) (i k : ℕ) → k < 16 → get_or (sixteen bytes i) k 0 ≡ get_or bytes (i * 16 + k) 0
byte_at bytes i k h = get_or-take 16 (drop (i * 16) bytes) k 0 h ∙ get_or-drop (i * 16) bytes k 0

pub same_byte : (x y : List ℕ) (i j : ℕ) → sixteen x i ≡ sixteen y j → (k : ℕ) → k < 16 → get_or x (i * 16 + k) 0 ≡ get_or y (j * 16 + k) 0
same_byte x y i j same k h = sym (byte_at x i k h) ∙ ap (λ (l : List ℕ). get_or l k 0) same ∙ byte_at y j k h

pub same_bytes : (x y : List ℕ) (i j : ℕ) → length (sixteen x i) ≡ length (sixteen y j)
    → ((k : ℕ) → k < 16 → get_or x (i * 16 + k) 0 ≡ get_or y (j * 16 + k) 0) → sixteen x i ≡ sixteen y j
same_bytes x y i j size same =
    ext_get_or 0 (sixteen x i) (sixteen y j) size
    (λ k h.
    let few : k < 16 = omega (arith, h, length-take 16 (drop (i * 16) x)) in
    byte_at x i k few ∙ same k few ∙ sym (byte_at y j k few))

pub same_sixteen : (x y : List ℕ) (i j : ℕ) → i * 16 + 16 ≤ length x → j * 16 + 16 ≤ length y
    → ((k : ℕ) → k < 16 → get_or x (i * 16 + k) 0 ≡ get_or y (j * 16 + k) 0) → sixteen x i ≡ sixteen y j
same_sixteen x y i j room there same = same_bytes x y i j (simp (length-take, length-drop) (omega arith)) same

-- A record of the same bytes -----------------------------------------------------------------------------------------------------

module _ (x y : List ℕ) (i j : ℕ) (same : sixteen x i ≡ sixteen y j) (formed : ExprFormed y j) where
  at : (k : ℕ) → k < 16 → get_or x (i * 16 + k) 0 ≡ get_or y (j * 16 + k) 0
  at = same_byte x y i j same

  same_expr : stored_expr x i ≡ stored_expr y j
  unfolding stored_expr
  same_expr =
      let c = get_or y (j * 16 + 12) 0 in
      let few : 4 + c ≤ 16 = omega (arith, formed.count) in
      ap (λ (m : ℕ). expr_of (take (4 + m) (drop (i * 16) x))) (at 12 (omega arith))
      ∙ ap expr_of (sym (take-take (4 + c) 16 (drop (i * 16) x) few) ∙ ap (take (4 + c)) same ∙ take-take (4 + c) 16 (drop (j * 16) y) few)

  same_formed : ExprFormed x i
  same_formed =
      let z : (m : ℕ) → m * 16 + 0 ≡ m * 16 = λ m. omega arith in
      record {
        kind = omega (arith, formed.kind, at 0 (omega arith), ap (λ (m : ℕ). get_or x m 0) (z i), ap (λ (m : ℕ). get_or y m 0) (z j));
        scalar = rw (at 1 (omega arith)) formed.scalar;
        length_preserving = rw (at 2 (omega arith)) formed.length_preserving;
        count = rw (at 12 (omega arith)) formed.count;
      }

  pub same_record : (stored_expr x i ≡ stored_expr y j) × ExprFormed x i
  same_record = (same_expr, same_formed)

-- A byte of another record -------------------------------------------------------------------------------------------------------

pub bytes_kept : (bytes : List ℕ) (i j k v : ℕ) → k < 16 → j ≢ i → sixteen (set bytes (i * 16 + k) v) j ≡ sixteen bytes j
bytes_kept bytes i j k v h e = by (dec_lt i j)
  where
    by : Dec (i < j) → sixteen (set bytes (i * 16 + k) v) j ≡ sixteen bytes j
    by (yes l) = ap (take 16) (drop-set-lt (j * 16) bytes (i * 16 + k) v (omega arith))
    by (no l) =
        let q = i * 16 + k - j * 16 in
        let at : j * 16 + q ≡ i * 16 + k = omega (arith, e) in
        ap (λ (p : ℕ). sixteen (set bytes p v) j) (sym at)
        ∙ ap (take 16) (drop-set-add (j * 16) bytes q v)
        ∙ take-set-le 16 (drop (j * 16) bytes) q v (omega (arith, e))
