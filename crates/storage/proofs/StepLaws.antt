-- What the bytes of a step are as the definition has it: its options and its lists.
use mathlib.Core.Path.{◌≡◌, sym, ap, ◌∙◌}
use Prim.Native.Nat.{ℕ, ◌+◌, ◌*◌, ◌≤◌, ◌<◌}
use native.Mathlib.Omega.{arith}
use mathlib.Core.List.{List}
use lib.ListN.{length, get_or, take, drop, length-drop}
use lib.Seq.{drop-drop, take-take, length-take-le, get_or-take, get_or-drop}
use Rattle.plan.specs.Kinds.{ir}
use Rattle.plan.specs.Sheet.{Step, no_step, step_at, step_of}
use Rattle.storage.specs.Stored.{stored_step, stored_steps, StepsHeld}
use Rattle.storage.proofs.Laws.{table_at}
use Rattle.storage.specs.declared.entries.Entries.{Entries}
use Rattle.storage.specs.Entries.{entries_at}
use Rattle.storage.specs.Steps.{IsList}

-- A list out of eight bytes --------------------------------------------------------------------------------------------------------

pub list_read : (bytes : List ℕ) (b count : ℕ) → b + 8 ≤ length bytes → count ≤ 8 → IsList (take count (drop b bytes)) (entries_at bytes b count)
list_read bytes b count room few =
    record {
      is = take-take count 8 (drop b bytes) few;
      few = few;
      room = length-take-le 8 (drop b bytes) (omega (arith, room, length-drop b bytes));
    }

-- how many it has, and each of them
module _ (xs : List ℕ) (e : Entries) (l : IsList xs e) where
  pub list_length : length xs ≡ e.count
  list_length = ap length (sym l.is) ∙ length-take-le e.count e.nodes (omega (arith, l.few, l.room))

  pub list_at : (k : ℕ) → k < e.count → get_or e.nodes k 0 ≡ get_or xs k 0
  list_at k h = sym (get_or-take e.count e.nodes k 0 h) ∙ ap (λ (x : List ℕ). get_or x k 0) l.is

-- A step's kind and option ---------------------------------------------------------------------------------------------------------

pub stored_kind : (bytes : List ℕ) (i : ℕ) → ir (get_or bytes (i * 32) 0) ≡ (stored_step bytes i).kind
unfolding stored_step step_of
stored_kind bytes i = ap ir (ap (λ (j : ℕ). get_or bytes j 0) (omega arith) ∙ sym (get_or-drop (i * 32) bytes 0 0))

pub stored_a : (bytes : List ℕ) (i : ℕ) → get_or bytes (i * 32 + 1) 0 ≡ (stored_step bytes i).a
unfolding stored_step step_of
stored_a bytes i = sym (get_or-drop (i * 32) bytes 1 0)

-- A step's numbers -----------------------------------------------------------------------------------------------------------------

module _ (bytes : List ℕ) (n i : ℕ) (held : StepsHeld bytes n) (here : i < n) where
  abbrev s : Step
  s = step_at (stored_steps bytes n) i

  abbrev at : ℕ → ℕ
  at j = get_or bytes (i * 32 + j) 0

  pub step_is : s ≡ step_of (drop (i * 32) bytes)
  unfolding stored_steps stored_step
  step_is = table_at (stored_step bytes) n i no_step here

  number : (j : ℕ) → get_or (drop (i * 32) bytes) j 0 ≡ at j
  number j = get_or-drop (i * 32) bytes j 0

  pub its_kind : s.kind ≡ ir (get_or bytes (i * 32) 0)
  unfolding step_of
  its_kind =
      let z : i * 32 + 0 ≡ i * 32 = omega arith in
      ap (λ (x : Step). x.kind) step_is ∙ ap ir (rw z at (number 0))

  pub its_a : s.a ≡ at 1
  unfolding step_of
  its_a = ap (λ (x : Step). x.a) step_is ∙ number 1

  pub its_b : s.b ≡ at 2
  unfolding step_of
  its_b = ap (λ (x : Step). x.b) step_is ∙ number 2

  pub its_c : s.c ≡ at 3
  unfolding step_of
  its_c = ap (λ (x : Step). x.c) step_is ∙ number 3

  pub first_input : 1 ≤ at 4 → at 7 ≡ get_or s.inputs 0 0
  unfolding step_of
  first_input few =
      let bs = drop (i * 32) bytes in
      sym
      (ap (λ (x : Step). get_or x.inputs 0 0) step_is ∙ get_or-take (get_or bs 4 0) (drop 7 bs) 0 0 (rw (number 4) few) ∙ get_or-drop 7 bs 0 0
      ∙ number 7)

  -- the part of k bytes that stands after the first 7 + j
  part : (j k : ℕ) → take k (drop j (drop 7 (drop (i * 32) bytes))) ≡ take k (drop (i * 32 + (7 + j)) bytes)
  part j k =
      let q : i * 32 + 7 + j ≡ i * 32 + (7 + j) = omega arith in
      ap (take k) (ap (drop j) (drop-drop 7 (i * 32) bytes) ∙ drop-drop j (i * 32 + 7) bytes ∙ ap (λ (m : ℕ). drop m bytes) q)

  length_part : (j k : ℕ) → j + k ≤ 24 → length (take k (drop (i * 32 + (7 + j)) bytes)) ≡ k
  length_part j k h =
      length-take-le k (drop (i * 32 + (7 + j)) bytes) (omega (arith, length-drop (i * 32 + (7 + j)) bytes, held.few, held.size))

  pub its_exprs : s.exprs ≡ take (at 5) (drop (i * 32 + (7 + at 4)) bytes)
  unfolding step_of
  its_exprs = ap (λ (x : Step). x.exprs) step_is ∙ rw (number 4, number 5) (part (at 4) (at 5))

  pub its_aggs : s.aggs ≡ take (at 6) (drop (i * 32 + (7 + (at 4 + at 5))) bytes)
  unfolding step_of
  its_aggs = ap (λ (x : Step). x.aggs) step_is ∙ rw (number 4, number 5, number 6) (part (at 4 + at 5) (at 6))

  pub its_n1 : length s.inputs ≡ at 4
  unfolding step_of
  its_n1 =
      ap (λ (x : Step). length x.inputs) step_is
      ∙ rw (number 4) (ap length (part 0 (at 4)) ∙ length_part 0 (at 4) (omega (arith, (held.formed i here).n1)))

  pub its_n2 : length s.exprs ≡ at 5
  its_n2 = ap length its_exprs ∙ length_part (at 4) (at 5) (omega (arith, (held.formed i here).n1, (held.formed i here).n2))

  pub its_n3 : length s.aggs ≡ at 6
  its_n3 =
      ap length its_aggs
      ∙ length_part (at 4 + at 5) (at 6) (omega (arith, (held.formed i here).n1, (held.formed i here).n2, (held.formed i here).n3))
