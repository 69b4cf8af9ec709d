-- Namings and their counts.
use Rattle.std.specs.Prelude.{if◌then◌else◌, Option, None, Some, MatchOption, ⊤}
use mathlib.Core.Path.{◌≡◌, refl, sym, ap, ◌∙◌}
use mathlib.Core.Bool.{Bool, true, false, ◌||◌, not}
use mathlib.Core.List.{List, [], ◌∷◌, ◌++◌, map, append_assoc, append-nil}
use Prim.Native.Nat.{ℕ, zero, suc, ◌+◌, ◌*◌, ◌<◌, ◌≤◌}
use native.Mathlib.Numerals.{add-one}
use native.Mathlib.Omega.{arith}
use native.Mathlib.Decide.{ℕ_discrete}
use lib.Dec.{eqb, ltb, leb}
use lib.ListN.{length, get_or, take, set, length-set, get_or-replicate, length-replicate}
use lib.Seq.{get_or-set_same, get_or-set_other, take-suc}
use borrow.Author.Tests.{ltb-true, ltb-false, le-leb, lt-leb, eq-eqb, ne_eqb}
use Rattle.plan.specs.declared.ir.IR.{IR}
use Rattle.plan.specs.declared.refusal.Refusal.{Refusal}
use Rattle.plan.specs.Refusals.{refusal_number}
use Rattle.plan.specs.Kinds.{same_ir}
use Rattle.plan.specs.Lists.{all?, select, sum, concat_map, numbered, times}
use Rattle.plan.specs.Sheet.{Expr, Step}
use Rattle.plan.specs.Faults.{use_right, exprs_named, named, cache_ids, named_right, use_number, id_right, use_fault, first_fault}
use Rattle.plan.proofs.FaultLaws.{over_both}
use Rattle.storage.specs.Stored.{stored_expr, stored_step, stored_exprs, stored_steps, table}
use Rattle.storage.proofs.Laws.{table_more, length_exprs, length_steps}
use Rattle.plan.proofs.ListLaws.{sum_append}
use Rattle.reading.specs.Held.{both, sheet}
use Rattle.storage.proofs.StepLaws.{stored_a}
use Rattle.reading.proofs.Scans.{lines_are, past, fault_found, faults_none}
use Rattle.reading.proofs.Refers.{steps_all}
use Rattle.reading.specs.Uses.{none_named, named_once, named_each, all_children, all_both, id_of, uses_fault, exprs_fault, steps_fault, ids_once, expr_fault_in, step_fault_in, id_once_in, expr_fault_by, step_fault_by, first_number, id_once_by}

-- Counts up to 2 -------------------------------------------------------------------------------------------------------------

unfoldable pub capped : ℕ → ℕ
capped zero = 0
capped (suc zero) = 1
capped (suc (suc n)) = 2

-- counts hold how often each number stands among the names, up to 2
pub record Counted (counts names : List ℕ) : Type 0 where
  pub size : length counts ≡ 256
  pub each : (i : ℕ) → i < 256 → get_or counts i 0 ≡ capped (times i names)

pub capped_more : (n : ℕ) → capped n < 2 → capped n + 1 ≡ capped (n + 1)
unfolding capped
capped_more zero h = refl
capped_more (suc zero) h = refl
capped_more (suc (suc n)) h = absurd (omega arith)

pub capped_full : (n : ℕ) → 2 ≤ capped n → capped n ≡ capped (n + 1)
unfolding capped
capped_full zero h = absurd (omega arith)
capped_full (suc zero) h = absurd (omega arith)
capped_full (suc (suc n)) h = let e : suc (suc n) + 1 ≡ suc (suc (suc n)) = omega arith in rw e

pub once : (n : ℕ) → eqb (capped n) 1 ≡ eqb n 1
unfolding capped
once zero = refl
once (suc zero) = refl
once (suc (suc n)) = sym (ne_eqb (suc (suc n)) 1 (λ e. omega arith))

pub at_least : (n : ℕ) → leb 1 (capped n) ≡ leb 1 n
unfolding capped
at_least zero = refl
at_least (suc zero) = refl
at_least (suc (suc n)) = sym (le-leb 1 (suc (suc n)) (omega arith))

at_most : (n : ℕ) → leb (capped n) 1 ≡ leb n 1
unfolding capped
at_most zero = refl
at_most (suc zero) = refl
at_most (suc (suc n)) = sym (lt-leb (suc (suc n)) 1 (omega arith))

capped_number : (n : ℕ) → use_number (capped n) ≡ use_number n
unfolding capped
capped_number zero = refl
capped_number (suc zero) = refl
capped_number (suc (suc n)) = refl

times_one : (i q : ℕ) (names : List ℕ) → times i (names ++ (q ∷ [])) ≡ times i names + (if eqb i q then 1 else 0)
unfolding sum
times_one i q names = sum_append (λ m. if eqb i m then 1 else 0) names (q ∷ []) ∙ omega arith

module _ (c : List ℕ) (q : ℕ) (names : List ℕ) (k : Counted c names) where
  same_at : (i : ℕ) → (i ≡ q → ⊥) → times i (names ++ (q ∷ [])) ≡ times i names
  same_at i e = times_one i q names ∙ rw (ne_eqb i q e) (omega arith)

  one_at : times q (names ++ (q ∷ [])) ≡ times q names + 1
  one_at = times_one q q names ∙ rw (eq-eqb q q refl)

  counted_up : get_or c q 0 < 2 → Counted (set c q (get_or c q 0 + 1)) (names ++ (q ∷ []))
  counted_up l = record { size = length-set c q (get_or c q 0 + 1) ∙ k.size; each = λ i m. by i m (ℕ_discrete i q) }
    where
      by : (i : ℕ) → i < 256 → Dec (i ≡ q) → get_or (set c q (get_or c q 0 + 1)) i 0 ≡ capped (times i (names ++ (q ∷ [])))
      by i m (yes e) =
          let h : q < 256 = omega arith in
          rw e (get_or-set_same c q (get_or c q 0 + 1) 0 (let z = k.size in omega arith)
          ∙ rw (k.each q h) (capped_more (times q names) (rw (k.each q h) at l)) ∙ ap capped (sym one_at))
      by i m (no e) = get_or-set_other c q i (get_or c q 0 + 1) 0 e ∙ k.each i m ∙ ap capped (sym (same_at i e))

  counted_full : 2 ≤ get_or c q 0 → Counted c (names ++ (q ∷ []))
  counted_full l = record { size = k.size; each = λ i m. by i m (ℕ_discrete i q) }
    where
      by : (i : ℕ) → i < 256 → Dec (i ≡ q) → get_or c i 0 ≡ capped (times i (names ++ (q ∷ [])))
      by i m (yes e) = let h : q < 256 = omega arith in rw e (k.each q h ∙ capped_full (times q names) (rw (k.each q h) at l) ∙ ap capped (sym one_at))
      by i m (no e) = k.each i m ∙ ap capped (sym (same_at i e))

  once_counted : Counted (named_once c q) (names ++ (q ∷ []))
  unfolding named_once
  once_counted = by (ltb (get_or c q 0) 2) refl
    where
      by : (b : Bool) → ltb (get_or c q 0) 2 ≡ b → Counted (named_once c q) (names ++ (q ∷ []))
      by true e = rw (named_once, e) (counted_up (ltb-true (get_or c q 0) 2 e))
      by false e = rw (named_once, e) (counted_full (ltb-false (get_or c q 0) 2 e))

pub each_counted : (c names new : List ℕ) → Counted c names → Counted (named_each c new) (names ++ new)
unfolding named_each
each_counted c names [] k = rw (append-nil names) k
each_counted c names (q ∷ new) k = rw (← append_assoc names (q ∷ []) new) (each_counted (named_once c q) (names ++ (q ∷ [])) new (once_counted c q names k))

pub none_counted : Counted none_named []
unfolding capped sum
none_counted = record { size = length-replicate {A = ℕ} 256 0; each = λ i h. get_or-replicate {A = ℕ} 256 i 0 0 h }

-- what names make of no namings
pub counted_of : (names : List ℕ) → Counted (named_each none_named names) names
counted_of names = each_counted none_named [] names none_counted

-- Names so far ---------------------------------------------------------------------------------------------------------------

pub each_append : (c new more : List ℕ) → named_each c (new ++ more) ≡ named_each (named_each c new) more
unfolding named_each
each_append c [] more = refl
each_append c (q ∷ new) more = each_append (named_once c q) new more

pub start : (c new : List ℕ) → new ≡ [] → c ≡ named_each c new
unfolding named_each
start c new e = rw e

pub and_more : (c d e new more all : List ℕ) → d ≡ named_each c new → e ≡ named_each d more → new ++ more ≡ all → e ≡ named_each c all
and_more c d e new more all f g h = g ∙ ap (λ x. named_each x more) f ∙ sym (each_append c new more) ∙ ap (named_each c) h

pub no_more : (c d new all : List ℕ) → d ≡ named_each c new → new ≡ all → d ≡ named_each c all
no_more c d new all f e = f ∙ ap (named_each c) e

pub one_more : (c d e new all : List ℕ) (q : ℕ) → d ≡ named_each c new → e ≡ named_once d q → new ++ (q ∷ []) ≡ all → e ≡ named_each c all
unfolding named_each
one_more c d e new all q f g h = and_more c d e new (q ∷ []) all f g h

pub next_taken : (b : List ℕ) (j : ℕ) → j < length b → take j b ++ (get_or b j 0 ∷ []) ≡ take (j + 1) b
next_taken b j h = rw (add-one j) (sym (take-suc b j 0 h))

concat_append : {A : Type 0} (f : A → List ℕ) (l : List A) (x : A) → concat_map f (l ++ (x ∷ [])) ≡ concat_map f l ++ f x
unfolding concat_map
concat_append f [] x = append-nil (f x)
concat_append f (y ∷ l) x = ap (λ m. f y ++ m) (concat_append f l x) ∙ sym (append_assoc (f y) (concat_map f l) (f x))

one_line : {A : Type 0} (f : A → List ℕ) (g : ℕ → A) (i : ℕ) → concat_map f (table g 0 i) ++ f (g i) ≡ concat_map f (table g 0 (i + 1))
one_line f g i = sym (ap (λ k. concat_map f (table g 0 k)) (add-one i) ∙ ap (concat_map f) (table_more g 0 i ∙ ap (λ k. table g 0 i ++ (g k ∷ [])) (omega arith)) ∙ concat_append f (table g 0 i) (g i))

pub more_children : (es : List ℕ) (i : ℕ) (l : List ℕ) → l ≡ (stored_expr es i).children → all_children (stored_exprs es i) ++ l ≡ all_children (stored_exprs es (i + 1))
unfolding all_children stored_exprs
more_children es i l e = rw e (one_line (λ (e : Expr). e.children) (stored_expr es) i)

pub more_both : (ps : List ℕ) (i : ℕ) (l : List ℕ) → l ≡ both (stored_step ps i) → all_both (stored_steps ps i) ++ l ≡ all_both (stored_steps ps (i + 1))
unfolding all_both stored_steps
more_both ps i l e = rw e (one_line both (stored_step ps) i)

pub more_inputs : (ps : List ℕ) (i : ℕ) (l : List ℕ) → l ≡ (stored_step ps i).inputs → named (stored_steps ps i) ++ l ≡ named (stored_steps ps (i + 1))
unfolding named stored_steps
more_inputs ps i l e = rw e (one_line (λ (s : Step). s.inputs) (stored_step ps) i)

-- the ids of Cache lines
cache? : Step → Bool
cache? s = same_ir s.kind IR.Cache

ids_append : (l : List Step) (s : Step) → cache_ids (l ++ (s ∷ [])) ≡ cache_ids l ++ (if cache? s then s.a ∷ [] else [])
unfolding cache_ids select cache?
ids_append [] s = by (cache? s) refl
  where
    by : (b : Bool) → cache? s ≡ b → cache_ids (s ∷ []) ≡ (if cache? s then s.a ∷ [] else [])
    by true e = rw (cache_ids, select, e)
    by false e = rw (cache_ids, select, e)
ids_append (x ∷ l) s = by (cache? x) refl (ids_append l s)
  where
    by : (b : Bool) → cache? x ≡ b → cache_ids (l ++ (s ∷ [])) ≡ cache_ids l ++ (if cache? s then s.a ∷ [] else [])
        → cache_ids (x ∷ (l ++ (s ∷ []))) ≡ cache_ids (x ∷ l) ++ (if cache? s then s.a ∷ [] else [])
    by true e h = rw (cache_ids, select, e) (ap (λ m. x.a ∷ m) h)
    by false e h = rw (cache_ids, select, e) h

pub more_ids : (ps : List ℕ) (i : ℕ) → cache_ids (stored_steps ps i) ++ id_of (stored_step ps i) ≡ cache_ids (stored_steps ps (i + 1))
unfolding stored_steps cache?
more_ids ps i =
    sym (ap (λ k. cache_ids (table (stored_step ps) 0 k)) (add-one i)
    ∙ ap cache_ids (table_more (stored_step ps) 0 i ∙ ap (λ k. table (stored_step ps) 0 i ++ (stored_step ps k ∷ [])) (omega arith))
    ∙ ids_append (table (stored_step ps) 0 i) (stored_step ps i))

-- The tests ------------------------------------------------------------------------------------------------------------------

module _ (c names : List ℕ) (k : Counted c names) where
  once_is : (i : ℕ) → i < 256 → eqb (get_or c i 0) 1 ≡ eqb (times i names) 1
  once_is i h = ap (λ n. eqb n 1) (k.each i h) ∙ once (times i names)

  expr_fault_is : (e : Expr) (i : ℕ) → i < 256 → expr_fault_by c (i, e) ≡ expr_fault_in names (i, e)
  expr_fault_is e i h = rw (k.each i h, once (times i names), capped_number (times i names))

  step_fault_is : (s : Step) (i : ℕ) → i < 256 → step_fault_by c (i, s) ≡ step_fault_in names (i, s)
  step_fault_is s i h = rw (k.each i h, at_least (times i names), at_most (times i names), capped_number (times i names))

numbers_same : {A : Type 0} (f g : ℕ × A → ℕ) (k : ℕ) (l : List A) → ((i : ℕ) → i < k + length l → (x : A) → f (i, x) ≡ g (i, x)) → map f (numbered k l) ≡ map g (numbered k l)
unfolding numbered
numbers_same f g k [] h = refl
numbers_same f g k (x ∷ l) h = rw (h k (omega arith) x, numbers_same f g (suc k) l (λ i m. h i (omega arith)))

module _ (es ps : List ℕ) (n m : ℕ) where
  module _ {z c d : List ℕ} (h : n ≤ 128) (s : z ≡ none_named) (e : c ≡ named_each z (all_children (stored_exprs es n))) (f : d ≡ named_each c (all_both (stored_steps ps m))) where
    both_counted : Counted d (all_children (stored_exprs es n) ++ all_both (stored_steps ps m))
    both_counted =
        rw (f, e, s) (each_counted (named_each none_named (all_children (stored_exprs es n))) (all_children (stored_exprs es n)) (all_both (stored_steps ps m)) (counted_of (all_children (stored_exprs es n))))

    pub exprs_counted : {r : ℕ} → r ≡ first_fault (map (expr_fault_by d) (numbered 0 (stored_exprs es n))) → r ≡ exprs_fault (sheet es n ps m)
    unfolding exprs_fault exprs_named all_children all_both
    exprs_counted g = g ∙ ap first_fault (numbers_same _ _ 0 (stored_exprs es n) (λ i l x. expr_fault_is d _ both_counted x i (let z = length_exprs es n in omega arith)))

  pub steps_counted : {r : ℕ} {z c : List ℕ} → m ≤ 32 → z ≡ none_named → c ≡ named_each z (named (stored_steps ps m)) → r ≡ first_fault (map (step_fault_by c) (numbered 0 (stored_steps ps m))) → r ≡ steps_fault (stored_steps ps m)
  unfolding steps_fault
  steps_counted {c = c} h s e g =
      let k : Counted c (named (stored_steps ps m)) = rw (e, s) (counted_of (named (stored_steps ps m))) in
      g ∙ ap first_fault (numbers_same _ _ 0 (stored_steps ps m) (λ i l x. step_fault_is c _ k x i (let z = length_steps ps m in omega arith)))

  pub ids_counted : {r : Bool} {z c : List ℕ} → ((i : ℕ) → get_or ps i 0 < 256) → z ≡ none_named → c ≡ named_each z (cache_ids (stored_steps ps m)) → r ≡ all? (id_once_by c) (numbered 0 (stored_steps ps m)) → r ≡ ids_once (stored_steps ps m)
  unfolding ids_once id_right stored_steps
  ids_counted {c = c} h s e g =
      let k : Counted c (cache_ids (stored_steps ps m)) = rw (e, s) (counted_of (cache_ids (stored_steps ps m))) in
      g ∙ sym (steps_all (id_once_by c) ps m)
      ∙ lines_are (λ i. id_once_by c (i, stored_step ps i)) (id_once_in (cache_ids (stored_steps ps m))) (stored_step ps) 0 m
      (λ i l. ap (λ b. not (same_ir (stored_step ps i).kind IR.Cache) || b) (once_is c _ k (stored_step ps i).a (rw (← stored_a ps i) (h (i * 32 + 1)))))

  uses_are : uses_fault (sheet es n ps m)
      ≡ (if eqb (exprs_fault (sheet es n ps m)) 0 then steps_fault (stored_steps ps m) else exprs_fault (sheet es n ps m))
  unfolding uses_fault exprs_fault steps_fault named_right
  uses_are = over_both (use_fault (sheet es n ps m)) (sheet es n ps m)

  module _ {a : ℕ} (e : a ≡ exprs_fault (sheet es n ps m)) where
    pub exprs_decide : (a ≡ 0 → ⊥) → a ≡ uses_fault (sheet es n ps m)
    exprs_decide h = sym (uses_are ∙ rw (← e, ne_eqb a 0 h))

    pub steps_decide : {b : ℕ} → a ≡ 0 → b ≡ steps_fault (stored_steps ps m) → b ≡ uses_fault (sheet es n ps m)
    steps_decide h f = sym (uses_are ∙ rw (← e, eq-eqb a 0 h, f))

-- The first line that is not named rightly ------------------------------------------------------------------------------------

some_use : (n : ℕ) → use_number n ≡ 0 → ⊥
some_use zero z = omega arith
some_use (suc n) z = omega arith

module _ {A : Type 0} (f : ℕ × A → ℕ) (g : ℕ → A) (n : ℕ) (m : List ℕ) where
  -- line i is right, or has the number of its count
  abbrev pub Right : ℕ → Type 0
  Right i = f (i, g i) ≡ 0

  abbrev pub Wrong : ℕ → Type 0
  Wrong i = f (i, g i) ≡ use_number (get_or m i 0)

  abbrev pub Found : Option ℕ → Type 0
  Found r = MatchOption r ((k : ℕ) → 0 ≤ k → k < n → Right k) (λ i. (0 ≤ i) × (i < n) × Wrong i × ((k : ℕ) → 0 ≤ k → k < i → Right k))

  pub first_wrong : (r : Option ℕ) → Found r → first_number m r ≡ first_fault (map f (numbered 0 (table g 0 n)))
  first_wrong None e = faults_none f g n n (omega arith) (past f g n n (omega arith) (λ j l. e j (omega arith) l))
  first_wrong (Some i) (a, l, h, e) = fault_found f g n i l (sym h) (some_use (get_or m i 0)) (past f g n i (omega arith) (λ j k. e j (omega arith) k))

-- a line that was found is one of those gone through
pub wrong_there : (n : ℕ) → n ≤ 256 → (r : Option ℕ) → MatchOption r ((k : ℕ) → 0 ≤ k → k < n → ⊤) (λ i. (0 ≤ i) × (i < n) × ⊤ × ((k : ℕ) → 0 ≤ k → k < i → ⊤)) → MatchOption r ⊤ (λ i. i < 256)
wrong_there n h None e = tt
wrong_there n h (Some i) (a, l, t, e) = omega arith

module _ (m : List ℕ) (i : ℕ) where
  pub expr_right : (e : Expr) → get_or m i 0 ≡ 1 → expr_fault_by m (i, e) ≡ 0
  expr_right e h = rw (eq-eqb (get_or m i 0) 1 h)

  pub expr_wrong : (e : Expr) → (get_or m i 0 ≡ 1 → ⊥) → expr_fault_by m (i, e) ≡ use_number (get_or m i 0)
  expr_wrong e h = rw (ne_eqb (get_or m i 0) 1 h)

  pub step_right : (s : Step) → use_right s.kind (get_or m i 0) ≡ true → step_fault_by m (i, s) ≡ 0
  step_right s h = rw h

  pub step_wrong : (s : Step) → use_right s.kind (get_or m i 0) ≡ false → step_fault_by m (i, s) ≡ use_number (get_or m i 0)
  step_wrong s h = rw h

-- The code's needs -----------------------------------------------------------------------------------------------------------

pub no_children : (es : List ℕ) → all_children (stored_exprs es 0) ≡ []
unfolding all_children stored_exprs table concat_map
no_children es = refl

pub no_both : (ps : List ℕ) → all_both (stored_steps ps 0) ≡ []
unfolding all_both stored_steps table concat_map
no_both ps = refl

pub no_inputs : (ps : List ℕ) → named (stored_steps ps 0) ≡ []
unfolding named stored_steps table concat_map
no_inputs ps = refl

pub no_ids : (ps : List ℕ) → cache_ids (stored_steps ps 0) ≡ []
unfolding cache_ids stored_steps table select
no_ids ps = refl

-- a refusal's number is not 0
pub some_number : (e : Refusal) → refusal_number e ≡ 0 → ⊥
some_number Refusal.ShortOutput z = omega arith
some_number Refusal.LongSheet z = omega arith
some_number Refusal.Form z = omega arith
some_number Refusal.Table z = omega arith
some_number Refusal.Limits z = omega arith
some_number Refusal.NoPlan z = omega arith
some_number Refusal.Reference z = omega arith
some_number Refusal.Unused z = omega arith
some_number Refusal.StructField z = omega arith
some_number Refusal.JoinKeys z = omega arith
some_number Refusal.SinkKeys z = omega arith
some_number Refusal.UsedTwice z = omega arith
some_number Refusal.CacheId z = omega arith
