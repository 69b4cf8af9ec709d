-- Laws of stored steps: one byte of a step is changed, and the others stay as they were.
use mathlib.Core.Path.{◌≡◌, refl, sym, ap, ◌∙◌}
use mathlib.Core.Logic.{◌≢◌}
use mathlib.Core.List.{List, [], ◌∷◌}
use Prim.Native.Nat.{ℕ, suc, ◌+◌, ◌*◌, ◌-◌, ◌≤◌, ◌<◌}
use native.Mathlib.Omega.{arith}
use native.Mathlib.Nat.{not-suc-le-zero}
use native.Mathlib.Decide.{dec_lt, ℕ_discrete}
use lib.ListN.{length, get_or, take, drop, set, length-set, length-drop}
use lib.Seq.{ext_get_or, get_or-set_same, get_or-set_other, take-take, drop-drop, get_or-take, get_or-drop, drop-set-lt, drop-set-add, take-set-le, take-set-lt}
use Rattle.plan.specs.Kinds.{ir}
use Rattle.plan.specs.Sheet.{Step, no_step, step_of, step_at}
use Rattle.plan.specs.Visit.{with_input, with_aggs}
use Rattle.storage.specs.Stored.{table, stored_step, stored_steps, StepFormed}
use Rattle.storage.proofs.Laws.{length_table, table_at}
use Rattle.plan.proofs.ListLaws.{drop_take}

-- A step reads its own numbers alone ----------------------------------------------------------------------------------------------

part_taken : (l : List ℕ) (a k m : ℕ) → a + k ≤ m → take k (drop a (take m l)) ≡ take k (drop a l)
part_taken l a k m h =
    let e : a + (m - a) ≡ m = omega arith in
    ap (take k) (ap (λ j. drop a (take j l)) (sym e) ∙ drop_take a (m - a) l) ∙ take-take k (m - a) (drop a l) (omega arith)

further : (l : List ℕ) (a b k m : ℕ) → b + a + k ≤ m → take k (drop a (drop b (take m l))) ≡ take k (drop a (drop b l))
further l a b k m h = rw (drop-drop a b (take m l), drop-drop a b l) (part_taken l (b + a) k m h)

pub step_take : (l : List ℕ) (m : ℕ) → 7 + (get_or l 4 0 + get_or l 5 0 + get_or l 6 0) ≤ m → step_of (take m l) ≡ step_of l
unfolding step_of
step_take l m h =
    rw (
      step_of,
      get_or-take m l 0 0 (omega arith),
      get_or-take m l 1 0 (omega arith),
      get_or-take m l 2 0 (omega arith),
      get_or-take m l 3 0 (omega arith),
      get_or-take m l 4 0 (omega arith),
      get_or-take m l 5 0 (omega arith),
      get_or-take m l 6 0 (omega arith),
      part_taken l 7 (get_or l 4 0) m (omega arith),
      further l (get_or l 4 0) 7 (get_or l 5 0) m (omega arith),
      further l (get_or l 4 0 + get_or l 5 0) 7 (get_or l 6 0) m (omega arith),
    )

-- A byte of another step ------------------------------------------------------------------------------------------------------------

-- the 32 bytes of step j
bytes_kept : (bytes : List ℕ) (i j k v : ℕ) → k < 32 → j ≢ i → take 32 (drop (j * 32) (set bytes (i * 32 + k) v)) ≡ take 32 (drop (j * 32) bytes)
bytes_kept bytes i j k v h e = by (dec_lt i j)
  where
    by : Dec (i < j) → take 32 (drop (j * 32) (set bytes (i * 32 + k) v)) ≡ take 32 (drop (j * 32) bytes)
    by (yes l) = ap (take 32) (drop-set-lt (j * 32) bytes (i * 32 + k) v (omega arith))
    by (no l) =
        let q = i * 32 + k - j * 32 in
        let at : j * 32 + q ≡ i * 32 + k = omega (arith, e) in
        ap (λ (p : ℕ). take 32 (drop (j * 32) (set bytes p v))) (sym at)
        ∙ ap (take 32) (drop-set-add (j * 32) bytes q v)
        ∙ take-set-le 32 (drop (j * 32) bytes) q v (omega (arith, e))

pub other_step : (bytes : List ℕ) (i j k v : ℕ) → k < 32 → j ≢ i → StepFormed bytes j → stored_step (set bytes (i * 32 + k) v) j ≡ stored_step bytes j
unfolding stored_step
other_step bytes i j k v h e f =
    sym (step_take (drop (j * 32) new) 32 (rw (number new 4, number new 5, number new 6, same 4 (omega arith), same 5 (omega arith), same 6 (omega arith)) (omega (arith, f.n1, f.n2, f.n3))))
    ∙ ap step_of (bytes_kept bytes i j k v h e)
    ∙ step_take (drop (j * 32) bytes) 32 (rw (number bytes 4, number bytes 5, number bytes 6) (omega (arith, f.n1, f.n2, f.n3)))
  where
    new : List ℕ
    new = set bytes (i * 32 + k) v

    number : (l : List ℕ) (m : ℕ) → get_or (drop (j * 32) l) m 0 ≡ get_or l (j * 32 + m) 0
    number l m = get_or-drop (j * 32) l m 0

    same : (m : ℕ) → m < 32 → get_or new (j * 32 + m) 0 ≡ get_or bytes (j * 32 + m) 0
    same m l =
        sym (number new m)
        ∙ sym (get_or-take 32 (drop (j * 32) new) m 0 l)
        ∙ ap (λ (x : List ℕ). get_or x m 0) (bytes_kept bytes i j k v h e)
        ∙ get_or-take 32 (drop (j * 32) bytes) m 0 l
        ∙ number bytes m

-- A byte of its own -----------------------------------------------------------------------------------------------------------------

own_bytes : (bytes : List ℕ) (i k v : ℕ) → drop (i * 32) (set bytes (i * 32 + k) v) ≡ set (drop (i * 32) bytes) k v
own_bytes bytes i k v = drop-set-add (i * 32) bytes k v

-- kind and options
options_set : (ns : List ℕ) (k a b c : ℕ) → 7 ≤ length ns
    → step_of (set (set (set (set ns 0 k) 1 a) 2 b) 3 c)
    ≡ record { kind = ir k; a = a; b = b; c = c; inputs = (step_of ns).inputs; exprs = (step_of ns).exprs; aggs = (step_of ns).aggs }
unfolding step_of
options_set [] k a b c h = absurd (not-suc-le-zero h)
options_set (_ ∷ []) k a b c h = absurd (omega arith)
options_set (_ ∷ _ ∷ []) k a b c h = absurd (omega arith)
options_set (_ ∷ _ ∷ _ ∷ []) k a b c h = absurd (omega arith)
options_set (_ ∷ _ ∷ _ ∷ _ ∷ ns) k a b c h = refl

-- an input
input_set : (ns : List ℕ) (s v : ℕ) → s < get_or ns 4 0 → 7 ≤ length ns → step_of (set ns (7 + s) v) ≡ with_input s v (step_of ns)
unfolding step_of
input_set [] s v l h = absurd (not-suc-le-zero h)
input_set (_ ∷ []) s v l h = absurd (omega arith)
input_set (_ ∷ _ ∷ []) s v l h = absurd (omega arith)
input_set (_ ∷ _ ∷ _ ∷ []) s v l h = absurd (omega arith)
input_set (_ ∷ _ ∷ _ ∷ _ ∷ []) s v l h = absurd (omega arith)
input_set (_ ∷ _ ∷ _ ∷ _ ∷ _ ∷ []) s v l h = absurd (omega arith)
input_set (_ ∷ _ ∷ _ ∷ _ ∷ _ ∷ _ ∷ []) s v l h = absurd (omega arith)
input_set (k ∷ a ∷ b ∷ c ∷ n1 ∷ n2 ∷ n3 ∷ t) s v l h =
    let seven : 7 + s ≡ suc (suc (suc (suc (suc (suc (suc s)))))) = omega arith in
    rw (
      seven,
      take-set-lt n1 t s v l,
      drop-set-lt n1 t s v l,
      drop-set-lt (n1 + n2) t s v (omega arith),
    )

-- an entry of the n3 list
agg_set : (ns : List ℕ) (k v : ℕ) → k < get_or ns 6 0 → 7 ≤ length ns
    → step_of (set ns (7 + (get_or ns 4 0 + get_or ns 5 0 + k)) v) ≡ with_aggs (set (step_of ns).aggs k v) (step_of ns)
unfolding step_of
agg_set [] k v l h = absurd (not-suc-le-zero h)
agg_set (_ ∷ []) k v l h = absurd (omega arith)
agg_set (_ ∷ _ ∷ []) k v l h = absurd (omega arith)
agg_set (_ ∷ _ ∷ _ ∷ []) k v l h = absurd (omega arith)
agg_set (_ ∷ _ ∷ _ ∷ _ ∷ []) k v l h = absurd (omega arith)
agg_set (_ ∷ _ ∷ _ ∷ _ ∷ _ ∷ []) k v l h = absurd (omega arith)
agg_set (_ ∷ _ ∷ _ ∷ _ ∷ _ ∷ _ ∷ []) k v l h = absurd (omega arith)
agg_set (_ ∷ _ ∷ _ ∷ _ ∷ n1 ∷ n2 ∷ n3 ∷ t) k v l h =
    let seven : 7 + (n1 + n2 + k) ≡ suc (suc (suc (suc (suc (suc (suc (n1 + (n2 + k)))))))) = omega arith in
    let apart : n1 + (n2 + k) ≡ n1 + n2 + k = omega arith in
    rw (
      seven,
      take-set-le n1 t (n1 + (n2 + k)) v (omega arith),
      drop-set-add n1 t (n2 + k) v,
      take-set-le n2 (drop n1 t) (n2 + k) v (omega arith),
      apart,
      drop-set-add (n1 + n2) t k v,
      take-set-lt n3 (drop (n1 + n2) t) k v l,
    )

-- One entry of a table ----------------------------------------------------------------------------------------------------------------

pub table_set : {A : Type 0} (d : A) (f g : ℕ → A) (n i : ℕ) (x : A) → i < n → ((j : ℕ) → j < n → j ≢ i → g j ≡ f j) → g i ≡ x
    → table g 0 n ≡ set (table f 0 n) i x
table_set d f g n i x h same e =
    ext_get_or d (table g 0 n) (set (table f 0 n) i x)
    (length_table g 0 n ∙ sym (length-set (table f 0 n) i x ∙ length_table f 0 n))
    (λ j l. by j (omega (arith, length_table g 0 n)) (ℕ_discrete j i))
  where
    by : (j : ℕ) → j < n → Dec (j ≡ i) → get_or (table g 0 n) j d ≡ get_or (set (table f 0 n) i x) j d
    by j l (yes q) =
        table_at g n j d l ∙ ap g q ∙ e ∙ sym (get_or-set_same (table f 0 n) i x d (omega (arith, length_table f 0 n)))
        ∙ ap (λ (m : ℕ). get_or (set (table f 0 n) i x) m d) (sym q)
    by j l (no q) = table_at g n j d l ∙ same j l q ∙ sym (get_or-set_other (table f 0 n) i j x d q ∙ table_at f n j d l)

-- The steps, a byte of step i changed --------------------------------------------------------------------------------------------------

-- a number of the line that is no count stays within its form
pub formed_still : (bytes : List ℕ) (i j k v : ℕ) → k < 32 → (k ≡ 4 → ⊥) → (k ≡ 5 → ⊥) → (k ≡ 6 → ⊥) → (j ≡ i → k ≡ 0 → v < 19) → i * 32 + k < length bytes
    → StepFormed bytes j → StepFormed (set bytes (i * 32 + k) v) j
formed_still bytes i j k v h a b c kind room f =
    record {
      kind = by_kind (ℕ_discrete (j * 32) (i * 32 + k));
      n1 = rw (other 4 (λ e. absurd (a (omega (arith, e))))) f.n1;
      n2 = rw (other 5 (λ e. absurd (b (omega (arith, e))))) f.n2;
      n3 = rw (other 6 (λ e. absurd (c (omega (arith, e))))) f.n3;
    }
  where
    other : (m : ℕ) → j * 32 + m ≢ i * 32 + k → get_or (set bytes (i * 32 + k) v) (j * 32 + m) 0 ≡ get_or bytes (j * 32 + m) 0
    other m e = get_or-set_other bytes (i * 32 + k) (j * 32 + m) v 0 e

    by_kind : Dec (j * 32 ≡ i * 32 + k) → get_or (set bytes (i * 32 + k) v) (j * 32) 0 < 19
    by_kind (yes e) = rw (e, get_or-set_same bytes (i * 32 + k) v 0 room) (kind (omega (arith, e)) (omega (arith, e)))
    by_kind (no e) = rw (get_or-set_other bytes (i * 32 + k) (j * 32) v 0 e) f.kind

module _ (bytes : List ℕ) (n i : ℕ) (room : n * 32 ≤ length bytes) (formed : (j : ℕ) → j < n → StepFormed bytes j) (here : i < n) where
  -- an input of step i
  pub input_stored : (s v : ℕ) → s < get_or bytes (i * 32 + 4) 0
      → stored_steps (set bytes (i * 32 + (7 + s)) v) n ≡ set (stored_steps bytes n) i (with_input s v (step_at (stored_steps bytes n) i))
  unfolding stored_steps stored_step
  input_stored s v l =
      table_set no_step (stored_step bytes) (stored_step (set bytes (i * 32 + (7 + s)) v)) n i _ here
      (λ j q e. other_step bytes i j (7 + s) v (omega (arith, (formed i here).n1)) e (formed j q))
      (ap step_of (own_bytes bytes i (7 + s) v)
      ∙ input_set (drop (i * 32) bytes) s v (rw (get_or-drop (i * 32) bytes 4 0) l) (omega (arith, length-drop (i * 32) bytes))
      ∙ ap (with_input s v) (sym (table_at (stored_step bytes) n i no_step here)))

  -- an entry of its n3 list, at byte p
  pub agg_stored : (k v p : ℕ) → k < get_or bytes (i * 32 + 6) 0 → p ≡ i * 32 + (7 + (get_or bytes (i * 32 + 4) 0 + get_or bytes (i * 32 + 5) 0 + k))
      → stored_steps (set bytes p v) n
      ≡ set (stored_steps bytes n) i (with_aggs (set (step_at (stored_steps bytes n) i).aggs k v) (step_at (stored_steps bytes n) i))
  unfolding stored_steps stored_step
  agg_stored k v p l place =
      let at : (m : ℕ) → get_or (drop (i * 32) bytes) m 0 ≡ get_or bytes (i * 32 + m) 0 = λ m. get_or-drop (i * 32) bytes m 0 in
      let q = 7 + (get_or bytes (i * 32 + 4) 0 + get_or bytes (i * 32 + 5) 0 + k) in
      let own : 7 + (get_or (drop (i * 32) bytes) 4 0 + get_or (drop (i * 32) bytes) 5 0 + k) ≡ q = rw (at 4, at 5) in
      rw place
      (table_set no_step (stored_step bytes) (stored_step (set bytes (i * 32 + q) v)) n i _ here
      (λ j l₁ e. other_step bytes i j q v (omega (arith, (formed i here).n1, (formed i here).n2, (formed i here).n3)) e (formed j l₁))
      (ap step_of (own_bytes bytes i q v)
      ∙ ap (λ (m : ℕ). step_of (set (drop (i * 32) bytes) m v)) (sym own)
      ∙ agg_set (drop (i * 32) bytes) k v (rw (at 6) l) (omega (arith, length-drop (i * 32) bytes))
      ∙ ap (λ (s : Step). with_aggs (set s.aggs k v) s) (sym (table_at (stored_step bytes) n i no_step here))))

  -- its kind and options
  module _ (k a b c : ℕ) (kind : k < 19) where
    one : List ℕ
    one = set bytes (i * 32 + 0) k

    two : List ℕ
    two = set one (i * 32 + 1) a

    three : List ℕ
    three = set two (i * 32 + 2) b

    inside : (l : List ℕ) (m : ℕ) → length l ≡ length bytes → m < 32 → i * 32 + m < length l
    inside l m e h = omega (arith, e)

    length_one : length one ≡ length bytes
    unfolding one
    length_one = length-set bytes (i * 32 + 0) k

    length_two : length two ≡ length bytes
    unfolding two
    length_two = length-set one (i * 32 + 1) a ∙ length_one

    length_three : length three ≡ length bytes
    unfolding three
    length_three = length-set two (i * 32 + 2) b ∙ length_two

    formed_one : (j : ℕ) → j < n → StepFormed one j
    unfolding one
    formed_one j q =
        formed_still bytes i j 0 k (omega arith) (λ e. omega (arith, e)) (λ e. omega (arith, e)) (λ e. omega (arith, e)) (λ _ _. kind) (inside bytes 0 refl (omega arith)) (formed j q)

    formed_two : (j : ℕ) → j < n → StepFormed two j
    unfolding two
    formed_two j q =
        formed_still one i j 1 a (omega arith) (λ e. omega (arith, e)) (λ e. omega (arith, e)) (λ e. omega (arith, e)) (λ _ e. absurd (omega (arith, e))) (inside one 1 length_one (omega arith)) (formed_one j q)

    formed_three : (j : ℕ) → j < n → StepFormed three j
    unfolding three
    formed_three j q =
        formed_still two i j 2 b (omega arith) (λ e. omega (arith, e)) (λ e. omega (arith, e)) (λ e. omega (arith, e)) (λ _ e. absurd (omega (arith, e))) (inside two 2 length_two (omega arith)) (formed_two j q)

    pub formed_options : (j : ℕ) → j < n → StepFormed (set (set (set (set bytes (i * 32 + 0) k) (i * 32 + 1) a) (i * 32 + 2) b) (i * 32 + 3) c) j
    unfolding one two three
    formed_options j q =
        formed_still three i j 3 c (omega arith) (λ e. omega (arith, e)) (λ e. omega (arith, e)) (λ e. omega (arith, e)) (λ _ e. absurd (omega (arith, e))) (inside three 3 length_three (omega arith)) (formed_three j q)

    pub options_stored :
        stored_steps (set (set (set (set bytes (i * 32 + 0) k) (i * 32 + 1) a) (i * 32 + 2) b) (i * 32 + 3) c) n
        ≡ set (stored_steps bytes n) i
        (record {
          kind = ir k;
          a = a;
          b = b;
          c = c;
          inputs = (step_at (stored_steps bytes n) i).inputs;
          exprs = (step_at (stored_steps bytes n) i).exprs;
          aggs = (step_at (stored_steps bytes n) i).aggs;
        })
    unfolding stored_steps stored_step one two three
    options_stored =
        table_set no_step (stored_step bytes) (stored_step (set three (i * 32 + 3) c)) n i _ here
        (λ j q e.
        other_step three i j 3 c (omega arith) e (formed_three j q) ∙ other_step two i j 2 b (omega arith) e (formed_two j q)
        ∙ other_step one i j 1 a (omega arith) e (formed_one j q) ∙ other_step bytes i j 0 k (omega arith) e (formed j q))
        (ap step_of own
        ∙ options_set (drop (i * 32) bytes) k a b c (omega (arith, length-drop (i * 32) bytes))
        ∙ ap (λ (s : Step). record { kind = ir k; a = a; b = b; c = c; inputs = s.inputs; exprs = s.exprs; aggs = s.aggs })
        (sym (table_at (stored_step bytes) n i no_step here)))
      where
        own : drop (i * 32) (set (set (set (set bytes (i * 32 + 0) k) (i * 32 + 1) a) (i * 32 + 2) b) (i * 32 + 3) c)
            ≡ set (set (set (set (drop (i * 32) bytes) 0 k) 1 a) 2 b) 3 c
        own =
            own_bytes three i 3 c
            ∙ ap (λ (l : List ℕ). set l 3 c) (own_bytes two i 2 b)
            ∙ ap (λ (l : List ℕ). set (set l 2 b) 3 c) (own_bytes one i 1 a)
            ∙ ap (λ (l : List ℕ). set (set (set l 1 a) 2 b) 3 c) (own_bytes bytes i 0 k)
