-- FunctionIR of functions/mod.rs.
use Rattle.std.specs.Prelude.{ℕ, Bool, true, false}
use Rattle.plan.specs.declared.function_ir.FunctionIR.{FunctionIR}
use Rattle.plan.specs.Kinds.{function_ir}

abbrev pub is_order_producing : FunctionIR → Bool → Bool
is_order_producing FunctionIR.RowIndex is_input_ordered = true
is_order_producing FunctionIR.FastCount is_input_ordered = false
is_order_producing FunctionIR.Unnest is_input_ordered = is_input_ordered
is_order_producing FunctionIR.Rechunk is_input_ordered = is_input_ordered
is_order_producing FunctionIR.Explode is_input_ordered = true
is_order_producing FunctionIR.Unpivot is_input_ordered = true
is_order_producing FunctionIR.Opaque is_input_ordered = true
is_order_producing FunctionIR.Hint is_input_ordered = is_input_ordered

-- true of every function
abbrev pub observes_input_order : FunctionIR → Bool
observes_input_order f = true

-- is the input's ordering always that of the output
abbrev pub has_equal_order : FunctionIR → Bool
has_equal_order FunctionIR.RowIndex = false
has_equal_order FunctionIR.FastCount = false
has_equal_order FunctionIR.Unnest = true
has_equal_order FunctionIR.Rechunk = true
has_equal_order FunctionIR.Explode = false
has_equal_order FunctionIR.Unpivot = false
has_equal_order FunctionIR.Opaque = false
has_equal_order FunctionIR.Hint = true

-- The three answers of a function, as a MapFunction's rule reads them
pub record FunctionOrder : Type 0 where
  pub produces : Bool → Bool  -- does it produce order, its input being ordered or not?
  pub equal : Bool
  pub observes : Bool

-- by the code that stands on the sheet
abbrev pub Functions : Type 0
Functions = ℕ → FunctionOrder

-- the eight codes of the Rust
abbrev pub rust_functions : Functions
rust_functions k =
    let f = function_ir k in
    record { produces = is_order_producing f; equal = has_equal_order f; observes = observes_input_order f }
