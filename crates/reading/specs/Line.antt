-- A line as the code meets it: at the front of the bytes that are left.
use Rattle.std.specs.Prelude.{◌≡◌, ℕ, suc, ◌<◌, Bool, true, false, List, [], ◌∷◌, eqb, ltb, get_or, length, set, if◌then◌else◌, Result, Ok, Err}
use Rattle.std.proofs.Math.Option.{Option, none, some}
use Rattle.plan.specs.Sheet.{parts, numbers, Line, line_of}
use Rattle.plan.specs.declared.refusal.Refusal.{Refusal}
use Rattle.reading.specs.declared.line.Numbers.{Numbers}

-- the bytes up to the next byte 10, or all of them
unfoldable pub line : List ℕ → List ℕ
line [] = []
line (x ∷ xs) = elim (eqb x 10) [ true ↦ [] | false ↦ x ∷ line xs ]

-- is there a byte 10?
unfoldable pub ended : List ℕ → Bool
ended [] = false
ended (x ∷ xs) = elim (eqb x 10) [ true ↦ true | false ↦ ended xs ]

-- the line at the front of the bytes
unfoldable pub line_here : List ℕ → Option Line
line_here s = if ended s then line_of (line s) else none

-- What follows a line's letter -------------------------------------------------------------------------------------------

-- nothing, or a comma and numbers
unfoldable pub numbers_after : List ℕ → Option (List ℕ)
numbers_after [] = some []
numbers_after (x ∷ xs) = if eqb x 44 then numbers (parts 44 xs) else none

unfoldable pub numbers_of : List ℕ → Option (List ℕ)
numbers_of s = if ended s then numbers_after (line s) else none

-- bytes with a number at a place, if it is among the first 31
abbrev pub placed : List ℕ → ℕ → ℕ → List ℕ
placed v at x = if ltb at 31 then set v at x else v

-- the first of a list of numbers, as far as 31 go, stand in bytes
pub record Kept (ns v : List ℕ) : Type 0 where
  pub size : length v ≡ 32
  pub first : (i : ℕ) → i < 31 → i < length ns → get_or v i 0 ≡ get_or ns i 0

-- all the numbers were read, len bytes with byte 10
pub record AllRead (s : List ℕ) (len : ℕ) (n : Numbers) : Type 0 where
  pub list : List ℕ
  pub are : numbers_of s ≡ some list
  pub count : n.count ≡ length list
  pub kept : Kept list n.kept
  pub len_is : len ≡ suc (length (line s))

-- the line is broken. Which numbers are kept, is left free
pub record NoneRead (s : List ℕ) (e : Refusal) : Type 0 where
  pub are : numbers_of s ≡ none
  pub answer : e ≡ Refusal.Form

-- the answer for the bytes s, with the numbers in n
abbrev pub NumbersRead : List ℕ → Result ℕ Refusal → Numbers → Type 0
NumbersRead s (Ok len) n = AllRead s len n
NumbersRead s (Err e) n = NoneRead s e
