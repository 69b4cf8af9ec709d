use Rattle.plan.proofs.function_flags.FunctionFlags.non_order_producing.Goals as goal

pub returns : goal.returns
returns c = rw (c.is_elementwise.ensures, c.contains-2.ensures, c.contains.ensures)
