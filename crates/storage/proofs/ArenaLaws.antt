-- Laws of the arena written out: a record copied, its option cleared, one line after the other.
use mathlib.Core.Path.{◌≡◌, refl, sym, ap, ◌∙◌, subst}
use Prim.Native.Nat.{ℕ, suc, ◌+◌, ◌-◌, ◌*◌, ◌≤◌, ◌<◌}
use mathlib.Core.Logic.{◌≢◌}
use native.Mathlib.Omega.{arith}
use native.Mathlib.Decide.{ℕ_discrete, dec_lt}
use mathlib.Core.Bool.{Bool, true, false}
use mathlib.Core.List.{List, [], ◌∷◌}
use lib.ListN.{length, get_or, set, take, drop, length-set, length-take, length-drop}
use Rattle.std.specs.List.{CopiedTo, SameBelow, SameFrom}
use lib.Seq.{get_or-set_other, drop-set-add}
use Rattle.plan.specs.Sheet.{Expr, expr_of}
use Rattle.plan.specs.Look.{switched_off}
use Rattle.storage.specs.Stored.{stored_expr, stored_exprs, held_expr, arena_of, ExprFormed, LinesHeld}
use Rattle.storage.specs.Exprs.{LineHeld, ExprStored}
use Rattle.storage.proofs.Laws.{same_table}
use Rattle.storage.proofs.RecordLaws.{sixteen, same_bytes, same_sixteen, same_record, bytes_kept}

-- A record copied ----------------------------------------------------------------------------------------------------------------

module _ (entry exit : List ℕ) (l p : ℕ) (size : length exit ≡ length entry) (room : p * 16 + 16 ≤ length entry) (lower : l < p)
    (own : CopiedTo entry exit (l * 16) (p * 16) (l * 16 + 16 - l * 16)) (below : SameBelow entry exit (p * 16))
    (above : SameFrom entry exit (p * 16 + (l * 16 + 16 - l * 16))) where
  copied : (k : ℕ) → k < 16 → get_or exit (p * 16 + k) 0 ≡ get_or entry (l * 16 + k) 0
  copied k h =
      let there : l * 16 + (p * 16 + k - p * 16) ≡ l * 16 + k = omega arith in
      own (p * 16 + k) 0 (omega arith) (omega arith) ∙ ap (λ (i : ℕ). get_or entry i 0) there

  untouched : (j : ℕ) → j ≢ p → sixteen exit j ≡ sixteen entry j
  untouched j e = same_bytes exit entry j j (simp (length-take, length-drop) (rw size refl)) (λ k h. by k h (dec_lt j p))
    where
      by : (k : ℕ) → k < 16 → Dec (j < p) → get_or exit (j * 16 + k) 0 ≡ get_or entry (j * 16 + k) 0
      by k h (yes b) = below (j * 16 + k) 0 (omega arith)
      by k h (no b) = above (j * 16 + k) 0 (omega (arith, e))

  pub record_copied : ExprFormed entry l → ExprStored entry p (stored_expr entry l) exit
  record_copied formed =
      let same = same_sixteen exit entry p l (omega (arith, size)) (omega arith) copied in
      let (is, its) = same_record exit entry p l same formed in
      record { size = size; is = is; formed = its; others = λ j q f. same_record exit entry j j (untouched j q) f }

-- a record that is where it belongs
pub own_record : (entry : List ℕ) (l p : ℕ) → l ≡ p → ExprFormed entry l → ExprStored entry p (stored_expr entry l) entry
own_record entry l p e formed =
    record { size = refl; is = ap (stored_expr entry) (sym e); formed = subst (ExprFormed entry) e formed; others = λ j q f. (refl, f) }

-- Its option cleared -------------------------------------------------------------------------------------------------------------

option_cleared : (l : List ℕ) (c : ℕ) → 4 ≤ length l → expr_of (take (4 + c) (set l 3 0)) ≡ switched_off (expr_of (take (4 + c) l))
unfolding expr_of
option_cleared [] c h = absurd (omega arith)
option_cleared (_ ∷ []) c h = absurd (omega arith)
option_cleared (_ ∷ _ ∷ []) c h = absurd (omega arith)
option_cleared (_ ∷ _ ∷ _ ∷ []) c h = absurd (omega arith)
option_cleared (_ ∷ _ ∷ _ ∷ _ ∷ l) c h = let four : 4 + c ≡ suc (suc (suc (suc c))) = omega arith in rw four

module _ (entry : List ℕ) (p : ℕ) (e : Expr) (bytes : List ℕ) (stored : ExprStored entry p e bytes) (room : p * 16 + 16 ≤ length entry) where
  abbrev new : List ℕ
  new = set bytes (p * 16 + 3) 0

  cleared : stored_expr new p ≡ switched_off (stored_expr bytes p)
  unfolding stored_expr
  cleared =
      let c = get_or bytes (p * 16 + 12) 0 in
      ap (λ (m : ℕ). expr_of (take (4 + m) (drop (p * 16) new))) (get_or-set_other bytes (p * 16 + 3) (p * 16 + 12) 0 0 (λ e. omega (arith, e)))
      ∙ ap (λ (l : List ℕ). expr_of (take (4 + c) l)) (drop-set-add (p * 16) bytes 3 0)
      ∙ option_cleared (drop (p * 16) bytes) c (omega (arith, length-drop (p * 16) bytes, stored.size))

  other : (j : ℕ) → j ≢ p * 16 + 3 → get_or new j 0 ≡ get_or bytes j 0
  other j = get_or-set_other bytes (p * 16 + 3) j 0 0

  option_off : ExprStored entry p (switched_off e) new
  option_off =
      record {
        size = length-set bytes (p * 16 + 3) 0 ∙ stored.size;
        is = cleared ∙ ap switched_off stored.is;
        formed =
            record {
              kind = rw (other (p * 16) (λ q. omega (arith, q))) stored.formed.kind;
              scalar = rw (other (p * 16 + 1) (λ q. omega (arith, q))) stored.formed.scalar;
              length_preserving = rw (other (p * 16 + 2) (λ q. omega (arith, q))) stored.formed.length_preserving;
              count = rw (other (p * 16 + 12) (λ q. omega (arith, q))) stored.formed.count;
            };
        others =
            λ j q f.
            let (is, its) = stored.others j q f in
            let (same, formed) = same_record new bytes j j (bytes_kept bytes p j 3 0 (omega arith) q) its in
            (same ∙ is, formed);
      }

-- A line -------------------------------------------------------------------------------------------------------------------------

module _ (entry line : List ℕ) (off : List Bool) (p : ℕ) (bytes : List ℕ) (stored : ExprStored entry p (stored_expr entry (get_or line p 0)) bytes) where
  pub line_on : get_or off p false ≡ false → ExprStored entry p (held_expr entry line off p) bytes
  unfolding held_expr
  line_on e = rw e stored

  pub line_off : p * 16 + 16 ≤ length entry → get_or off p false ≡ true → ExprStored entry p (held_expr entry line off p) (set bytes (p * 16 + 3) 0)
  unfolding held_expr
  line_off room e = rw e (option_off entry p (stored_expr entry (get_or line p 0)) bytes stored room)

-- One line after the other, from the last on -------------------------------------------------------------------------------------

-- the lines from p on are stored in the bytes, and the records before them are as they were
pub record StoredFrom (recs line : List ℕ) (off : List Bool) (n p : ℕ) (bytes : List ℕ) : Type 0 where
  pub most : p ≤ n
  pub size : length bytes ≡ 2048
  pub formed : (q : ℕ) → q < n → ExprFormed bytes q
  pub is : (q : ℕ) → p ≤ q → q < n → stored_expr bytes q ≡ held_expr recs line off q
  pub before : (q : ℕ) → q < p → stored_expr bytes q ≡ stored_expr recs q

module _ (recs line : List ℕ) (off : List Bool) (n : ℕ) (held : LinesHeld recs line n) where
  pub no_lines : StoredFrom recs line off n n recs
  no_lines =
      record {
        most = omega arith;
        size = held.records;
        formed = held.formed;
        is = λ q a b. absurd (omega arith);
        before = λ q h. refl;
      }

  -- line p is next
  module _ (above p : ℕ) (next : above ≡ p + 1) (bytes : List ℕ) (k : StoredFrom recs line off n above bytes) where
    abbrev base : ℕ
    base = get_or line p 0

    low : base ≤ p
    low = held.below p (omega (arith, k.most))

    pub line_held : LineHeld bytes line p
    line_held =
        record {
          few = omega (arith, k.most, held.few);
          records = k.size;
          below = low;
          formed = k.formed base (omega (arith, low, k.most));
        }

    -- the record that it holds is as it was
    holds : held_expr bytes line off p ≡ held_expr recs line off p
    unfolding held_expr
    holds = rw (k.before base (omega (arith, low)))

    pub line_more : (exit : List ℕ) → ExprStored bytes p (held_expr bytes line off p) exit → StoredFrom recs line off n p exit
    line_more exit new =
        record {
          most = omega (arith, k.most);
          size = new.size ∙ k.size;
          formed = λ q b. by_form q b (ℕ_discrete q p);
          is = λ q a b. by q a b (ℕ_discrete q p);
          before = λ q h. (new.others q (λ e. omega (arith, e)) (k.formed q (omega (arith, k.most)))).0 ∙ k.before q (omega arith);
        }
      where
        by_form : (q : ℕ) → q < n → Dec (q ≡ p) → ExprFormed exit q
        by_form q b (yes e) = rw e new.formed
        by_form q b (no d) = (new.others q d (k.formed q b)).1

        by : (q : ℕ) → p ≤ q → q < n → Dec (q ≡ p) → stored_expr exit q ≡ held_expr recs line off q
        by q a b (yes e) = rw e (new.is ∙ holds)
        by q a b (no d) = (new.others q d (k.formed q b)).0 ∙ k.is q (omega (arith, d)) b

  pub all_lines : (p : ℕ) → p ≡ 0 → (bytes : List ℕ) → StoredFrom recs line off n p bytes
      → (stored_exprs bytes n ≡ arena_of recs line off n) × ((i : ℕ) → i < n → ExprFormed bytes i)
  unfolding stored_exprs arena_of
  all_lines p z bytes k = (same_table (stored_expr bytes) (held_expr recs line off) n (λ i h. k.is i (omega arith) h), k.formed)
