-- What is claimed of the converter, of every sequence of bytes and every output lent: it takes just the language, each formula has one
-- reading, and each number is given on its condition alone.
use Rattle.std.specs.Prelude.{◌≡◌, ◌⊎◌, ℕ, ◌+◌, ◌*◌, ◌≤◌, ◌<◌, List, [], ◌∷◌, ◌++◌, length, drop}
use mathlib.Core.List.{Memᴰ}
use Rattle.plan.specs.Sheet.{refused, done}
use Rattle.formula.specs.Formula.{Whole, tree, yield, operands, e_lines}
use Rattle.formula.specs.Converted.{call, convert, text}

-- the numbers that the converter gives
abbrev pub refusal_numbers : List ℕ
refusal_numbers = 1 ∷ 2 ∷ 14 ∷ 15 ∷ []

module _ (w output : List ℕ) where
  -- the output and the formula have the length they should
  pub record Enters : Type 0 where
    pub room : 16384 ≤ length output
    pub short : length w ≤ 16384

  -- the lengths are right, and this derivation yields w
  pub record Derived (d : Whole) : Type 0 where
    pub enters : Enters
    pub yields : yield d ≡ w

  -- Each number's condition
  pub data TurnedBack : ℕ → Type 0 where
    short_output : length output < 16384 → TurnedBack 1
    long_formula : 16384 ≤ length output → 16384 < length w → TurnedBack 2
    no_formula : Enters → ((d : Whole) → ¬ (yield d ≡ w)) → TurnedBack 14
    many_lines : (d : Whole) → Derived d → 128 < length (e_lines d) → TurnedBack 15

  -- its lines stand at the front of the output, and what stood behind them stays
  pub record Converts : Type 0 where
    pub derivation : Whole
    pub derived : Derived derivation
    pub few : length (e_lines derivation) ≤ 128
    pub answer : (convert w output).answer ≡ done (length (text (e_lines derivation)))
    pub bytes : (convert w output).output ≡ text (e_lines derivation) ++ drop (length (text (e_lines derivation))) output

  -- one of the numbers, under its condition; no byte of the output is altered
  pub record Refuses : Type 0 where
    pub number : ℕ
    pub listed : Memᴰ number refusal_numbers
    pub condition : TurnedBack number
    pub answer : (convert w output).answer ≡ refused number
    pub bytes : (convert w output).output ≡ output

  pub record Language : Type 0 where
    -- one reading: two derivations of w are equal, in spaces, signs, values, brackets and grouping
    pub one_reading : (d d' : Whole) → yield d ≡ w → yield d' ≡ w → d ≡ d'
    -- what is converted is derived, and what is not is turned back under a condition
    pub either : Converts ⊎ Refuses
    -- whatever is derived and has few enough lines is converted to them
    pub every : (d : Whole) → Derived d → length (e_lines d) ≤ 128
        → convert w output ≡ call (done (length (text (e_lines d)))) (text (e_lines d) ++ drop (length (text (e_lines d))) output)
    -- n operands have 2n - 1 lines: so 15 is for 65 operands and more
    pub count : (d : Whole) → length (e_lines d) + 1 ≡ 2 * operands (tree d)
    -- a number is given on its condition alone
    pub alone : (n : ℕ) → TurnedBack n → convert w output ≡ call (refused n) output
    -- so no two conditions hold together, and none holds of a formula that is converted
    pub exclude : (m n : ℕ) → TurnedBack m → TurnedBack n → m ≡ n
    pub converted_none : Converts → (n : ℕ) → ¬ TurnedBack n
    pub size : length (convert w output).output ≡ length output
