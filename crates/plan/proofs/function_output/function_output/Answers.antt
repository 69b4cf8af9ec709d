use native.Mathlib.Omega.{arith}
use Rattle.plan.proofs.FunctionOutput.{arithmetic_is_branch, at_most_one, product_of_two, product_of_three}
use Rattle.plan.proofs.function_output.function_output.Goals as goal

-- before what fits in a byte, so that of another sum or product this is the first that fails
pub returns : goal.returns
returns c = arithmetic_is_branch c.args.terminates_input_order c.args.non_order_producing c.args.input_order

pub overflow_sub-column : goal.overflow_sub-column
overflow_sub-column c = at_most_one c.args.terminates_input_order

pub overflow_mul-column : goal.overflow_mul-column
overflow_mul-column c = omega (arith, product_of_two c.args.terminates_input_order c.args.input_order.column)

pub overflow_sub-independent : goal.overflow_sub-independent
overflow_sub-independent c = at_most_one c.args.non_order_producing

pub overflow_sub-independent-2 : goal.overflow_sub-independent-2
overflow_sub-independent-2 c = at_most_one c.args.terminates_input_order

pub overflow_mul-independent : goal.overflow_mul-independent
overflow_mul-independent c = omega (arith, product_of_two c.args.terminates_input_order c.args.non_order_producing)

pub overflow_mul-independent-2 : goal.overflow_mul-independent-2
overflow_mul-independent-2 c = omega (arith, product_of_three c.args.terminates_input_order c.args.non_order_producing c.args.input_order.independent)

pub overflow_add-independent : goal.overflow_add-independent
overflow_add-independent c = omega (arith, product_of_three c.args.terminates_input_order c.args.non_order_producing c.args.input_order.independent)
