-- A Function's output by arithmetic on yes-or-no numbers is the Rust's branch.
use mathlib.Core.Path.{◌≡◌, refl}
use Prim.Native.Nat.{ℕ, ◌+◌, ◌-◌, ◌*◌, ◌≤◌}
use native.Mathlib.Omega.{arith}
use mathlib.Core.Bool.{Bool, true, false}
use lib.Dec.{eqb}
use Rattle.plan.specs.declared.orders.ObservableOrders.{ObservableOrders}
use Rattle.plan.specs.Lists.{digit}
use Rattle.plan.specs.Look.{function_output}

-- as the code has it: t for terminates_input_order, n for non_order_producing
abbrev by_arithmetic : Bool → Bool → ObservableOrders → ObservableOrders
by_arithmetic t n input =
    record {
      column = eqb ((1 - digit t) * digit input.column) 1;
      independent = eqb ((1 - digit n) + (1 - digit t) * digit n * digit input.independent) 1;
    }

-- for all four pairs and every answer of the children
pub arithmetic_is_branch : (t n : Bool) (input : ObservableOrders) → by_arithmetic t n input ≡ function_output t n input
arithmetic_is_branch t n input = at t n input.column input.independent
  where
    at : (t n c i : Bool) → let input : ObservableOrders = record { column = c; independent = i } in by_arithmetic t n input ≡ function_output t n input
    at false false false false = refl
    at false false false true = refl
    at false false true false = refl
    at false false true true = refl
    at false true false false = refl
    at false true false true = refl
    at false true true false = refl
    at false true true true = refl
    at true false false false = refl
    at true false false true = refl
    at true false true false = refl
    at true false true true = refl
    at true true false false = refl
    at true true false true = refl
    at true true true false = refl
    at true true true true = refl

-- The numbers fit in a byte ------------------------------------------------------------------------------------------------------

pub at_most_one : (b : Bool) → digit b ≤ 1
at_most_one true = omega arith
at_most_one false = omega arith

times_digit : (a : ℕ) (b : Bool) → a ≤ 1 → a * digit b ≤ 1
times_digit a true h = omega (arith, h)
times_digit a false h = omega arith

pub product_of_two : (t b : Bool) → (1 - digit t) * digit b ≤ 1
product_of_two t b = times_digit (1 - digit t) b (omega arith)

pub product_of_three : (t n i : Bool) → (1 - digit t) * digit n * digit i ≤ 1
product_of_three t n i = times_digit ((1 - digit t) * digit n) i (product_of_two t n)
