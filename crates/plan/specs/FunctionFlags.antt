-- FunctionFlags of options.rs, over the option of a Function line.
use Rattle.std.specs.Prelude.{ℕ, ◌/◌, ◌%◌, Bool, ◌&&◌, ◌||◌, not, eqb}

abbrev pub contains : ℕ → ℕ → Bool
contains flags flag = eqb (flags / flag % 2) 1

-- the sheet's bits
abbrev pub ROW_SEPARABLE : ℕ
ROW_SEPARABLE = 1

abbrev pub LENGTH_PRESERVING : ℕ
LENGTH_PRESERVING = 2

abbrev pub NON_ORDER_OBSERVING : ℕ
NON_ORDER_OBSERVING = 4

abbrev pub TERMINATES_INPUT_ORDER : ℕ
TERMINATES_INPUT_ORDER = 8

abbrev pub RETURNS_SCALAR : ℕ
RETURNS_SCALAR = 16

abbrev pub NON_ORDER_PRODUCING : ℕ
NON_ORDER_PRODUCING = 32

abbrev pub is_elementwise : ℕ → Bool
is_elementwise flags = contains flags ROW_SEPARABLE && contains flags LENGTH_PRESERVING

abbrev pub observes_input_order : ℕ → Bool
observes_input_order flags = not (contains flags NON_ORDER_OBSERVING || contains flags ROW_SEPARABLE)

abbrev pub terminates_input_order : ℕ → Bool
terminates_input_order flags = contains flags TERMINATES_INPUT_ORDER || contains flags RETURNS_SCALAR

abbrev pub non_order_producing : ℕ → Bool
non_order_producing flags = (contains flags NON_ORDER_PRODUCING || contains flags RETURNS_SCALAR) || is_elementwise flags
