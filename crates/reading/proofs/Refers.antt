-- References, as the loops find them.
use mathlib.Core.Path.{◌≡◌, refl, sym, ap, ◌∙◌}
use mathlib.Core.Bool.{Bool, true, false, ◌&&◌, not, and_assoc}
use mathlib.Core.List.{List, [], ◌∷◌, map}
use Prim.Native.Nat.{ℕ, ◌<◌}
use native.Mathlib.Omega.{arith}
use lib.Dec.{ltb}
use lib.ListN.{length}
use borrow.Author.Tests.{ltb-true}
use Rattle.plan.specs.declared.ir.IR.{IR}
use Rattle.plan.specs.Kinds.{same_ir}
use Rattle.std.specs.List.{list_all, range_with_len}
use Rattle.plan.specs.Lists.{all?, numbered}
use Rattle.plan.specs.Sheet.{Expr, Step, Sheet, step_at, no_step}
use Rattle.plan.specs.Faults.{lines, children_earlier, inputs_earlier, exprs_there, references_right, first_fault}
use Rattle.plan.proofs.FaultLaws.{over_lines, all_and}
use Rattle.storage.specs.Stored.{stored_expr, stored_step, stored_exprs, stored_steps, table}
use Rattle.storage.proofs.Laws.{length_table, table_at}
use Rattle.reading.specs.Held.{both, before_no_sink, sheet}
use Rattle.reading.proofs.Checks.{first_holds}
use Rattle.reading.proofs.Scans.{lines_are}

pub all_same : {A : Type 0} (f g : A → Bool) → ((x : A) → f x ≡ g x) → (l : List A) → all? f l ≡ all? g l
unfolding all?
all_same f g h [] = refl
all_same f g h (x ∷ l) = rw (h x, all_same f g h l)

pub exprs_all : (f : ℕ × Expr → Bool) (es : List ℕ) (n : ℕ) → list_all (λ i. f (i, stored_expr es i)) (range_with_len 0 n) ≡ all? f (numbered 0 (stored_exprs es n))
unfolding stored_exprs
exprs_all f es n = lines_are (λ i. f (i, stored_expr es i)) f (stored_expr es) 0 n (λ i h. refl)

pub steps_all : (f : ℕ × Step → Bool) (ps : List ℕ) (n : ℕ) → list_all (λ i. f (i, stored_step ps i)) (range_with_len 0 n) ≡ all? f (numbered 0 (stored_steps ps n))
unfolding stored_steps
steps_all f ps n = lines_are (λ i. f (i, stored_step ps i)) f (stored_step ps) 0 n (λ i h. refl)

pub of_exprs : (f : ℕ × Expr → ℕ) (es : List ℕ) (n : ℕ) {k : ℕ} → k ≡ first_fault (map f (numbered 0 (table (stored_expr es) 0 n))) → k ≡ first_fault (map f (numbered 0 (stored_exprs es n)))
unfolding stored_exprs
of_exprs f es n e = e

pub of_steps : (f : ℕ × Step → ℕ) (ps : List ℕ) (n : ℕ) {k : ℕ} → k ≡ first_fault (map f (numbered 0 (table (stored_step ps) 0 n))) → k ≡ first_fault (map f (numbered 0 (stored_steps ps n)))
unfolding stored_steps
of_steps f ps n e = e

-- an input's kind, by its line
sink_at : (ps : List ℕ) (n m : ℕ) → m < n → same_ir (step_at (stored_steps ps n) m).kind IR.Sink ≡ same_ir (stored_step ps m).kind IR.Sink
unfolding stored_steps
sink_at ps n m h = ap (λ (s : Step). same_ir s.kind IR.Sink) (table_at (stored_step ps) n m no_step h)

-- a line's inputs, and all
module _ (es : List Expr) (ps : List ℕ) (n : ℕ) where
  abbrev with_steps : Sheet
  with_steps = record { exprs = es; steps = stored_steps ps n }

  fits : ℕ → ℕ → Bool
  fits i m = ltb m i && not (same_ir (step_at (stored_steps ps n) m).kind IR.Sink)

  same_fit : (i m : ℕ) → i < n → before_no_sink ps i m ≡ fits i m
  unfolding fits
  same_fit i m h = by (ltb m i) refl
    where
      by : (b : Bool) → ltb m i ≡ b → before_no_sink ps i m ≡ fits i m
      by true e = ap (λ b. ltb m i && not b) (sym (sink_at ps n m (let l = ltb-true m i e in omega arith)))
      by false e = rw e

  inputs_found : (i : ℕ) → i < n → all? (before_no_sink ps i) (stored_step ps i).inputs ≡ inputs_earlier with_steps (i, stored_step ps i)
  unfolding inputs_earlier fits
  inputs_found i h = all_same (before_no_sink ps i) (fits i) (λ m. same_fit i m h) (stored_step ps i).inputs

  pub inputs_all : list_all (λ i. all? (before_no_sink ps i) (stored_step ps i).inputs) (range_with_len 0 n) ≡ all? (inputs_earlier with_steps) (numbered 0 (stored_steps ps n))
  unfolding stored_steps
  inputs_all = lines_are _ (inputs_earlier with_steps) (stored_step ps) 0 n (λ i h. inputs_found i (omega arith))

-- all three
module _ (es ps : List ℕ) (n m : ℕ) where
  length_exprs : length (stored_exprs es n) ≡ n
  unfolding stored_exprs
  length_exprs = length_table (stored_expr es) 0 n

  there : (x : ℕ × Step) → all? (λ q. ltb q n) (both x.1) ≡ exprs_there (sheet es n ps m) x
  unfolding exprs_there
  there x = ap (λ (k : ℕ). all? (λ q. ltb q k) (both x.1)) (sym length_exprs)

  abbrev sh : Sheet
  sh = sheet es n ps m

  -- the three loops together
  references_are : all? (references_right sh) (lines sh)
      ≡ (all? children_earlier (numbered 0 (stored_exprs es n)) && all? (inputs_earlier sh) (numbered 0 (stored_steps ps m))
      && all? (λ (i, s). all? (λ q. ltb q n) (both s)) (numbered 0 (stored_steps ps m)))
  unfolding references_right
  references_are =
      over_lines (references_right sh) sh
      ∙ ap (λ b. all? children_earlier (numbered 0 (stored_exprs es n)) && b) (all_and (inputs_earlier sh) (exprs_there sh) (numbered 0 (stored_steps ps m)))
      ∙ sym (and_assoc (all? children_earlier (numbered 0 (stored_exprs es n))) _ _)
      ∙ ap (λ b. all? children_earlier (numbered 0 (stored_exprs es n)) && all? (inputs_earlier sh) (numbered 0 (stored_steps ps m)) && b)
      (sym (all_same _ _ there (numbered 0 (stored_steps ps m))))

  module _ {a : Bool} (e : a ≡ all? children_earlier (numbered 0 (stored_exprs es n))) where
    pub not_children : a ≡ false → false ≡ all? (references_right sh) (lines sh)
    not_children f = sym (references_are ∙ rw (← e, f))

    module _ {b : Bool} (g : b ≡ all? (inputs_earlier sh) (numbered 0 (stored_steps ps m))) where
      pub not_inputs : a ≡ true → b ≡ false → false ≡ all? (references_right sh) (lines sh)
      not_inputs f h = sym (references_are ∙ rw (← e, ← g, f, h))

      pub all_three : {c : Bool} → c ≡ all? (λ (i, s). all? (λ q. ltb q n) (both s)) (numbered 0 (stored_steps ps m)) → a ≡ true → b ≡ true
          → c ≡ all? (references_right sh) (lines sh)
      all_three i f h = sym (references_are ∙ rw (← e, ← g, ← i, f, h))

  pub children_first : {a : Bool} → a ≡ all? (references_right sh) (lines sh) → a ≡ true → all? children_earlier (numbered 0 (stored_exprs es n)) ≡ true
  children_first e f = first_holds (all? children_earlier (numbered 0 (stored_exprs es n))) _ _ (sym (e ∙ references_are) ∙ f)
