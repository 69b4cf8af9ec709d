-- Texts by number, one after the other: the loop of put_each, and how a list's printed entries are such texts.
use mathlib.Core.Path.{◌≡◌, refl, ap}
use mathlib.Core.List.{List, ◌++◌}
use Prim.Native.Nat.{ℕ, zero, suc, ◌+◌, ◌-◌, ◌*◌, ◌<◌, ◌≤◌}
use native.Mathlib.Omega.{arith}
use native.Mathlib.Numerals.{add-one}
use native.Mathlib.Nat.{mul-le-mul_left, mul-suc}
use lib.ListN.{length, take, drop}
use Rattle.plan.specs.Lists.{concat_map}
use Rattle.storage.specs.Stored.{table}
use Rattle.writing.specs.Each.{texts}
use Rattle.writing.specs.Wrote.{Wrote}
use Rattle.writing.proofs.Over.{none_yet, next_entry}

-- room for one text more, where there is room for n
pub room_left : (most n i len whole : ℕ) → i < n → len ≤ most * i → most * n ≤ whole → len + most ≤ whole
room_left most n i len whole h l r =
    let more : most * suc i ≤ most * n = mul-le-mul_left most (omega arith) in
    omega (arith, mul-suc most i)

pub one_longer : (most i len k : ℕ) → len ≤ most * i → k ≤ most → len + k ≤ most * (i + 1)
one_longer most i len k l h = rw add-one (omega (arith, mul-suc most i))

pub no_text : (text : ℕ → List ℕ) (o : List ℕ) → Wrote (texts text 0) o o 0
unfolding concat_map table
no_text text o = none_yet o

pub next_text : (text : ℕ → List ℕ) (i : ℕ) (o x y : List ℕ) (r q : ℕ) → Wrote (texts text i) o x r
    → Wrote (text i) (take (length x - r) (drop r x)) y q
    → Wrote (texts text (i + 1)) o (take r x ++ (y ++ drop (length x - r) (drop r x))) (r + q)
next_text text = next_entry (λ (t : List ℕ). t) text

-- the entries of a table, each printed by f
pub printed_each : {A : Type 0} (f : A → List ℕ) (g : ℕ → A) (k n : ℕ) → concat_map (λ (t : List ℕ). t) (table (λ i. f (g i)) k n) ≡ concat_map f (table g k n)
unfolding concat_map table
printed_each f g k zero = refl
printed_each f g k (suc n) = ap (λ (t : List ℕ). f (g k) ++ t) (printed_each f g (suc k) n)

pub as_texts : {A : Type 0} (f : A → List ℕ) (g : ℕ → A) (n : ℕ) (o x : List ℕ) (r : ℕ) → Wrote (texts (λ i. f (g i)) n) o x r
    → Wrote (concat_map f (table g 0 n)) o x r
as_texts f g n o x r w = rw (printed_each f g 0 n) at w
