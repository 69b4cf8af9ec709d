use Rattle.plan.proofs.function_flags.FunctionFlags.is_elementwise.Goals as goal

pub returns : goal.returns
returns c = rw (c.contains-2.ensures, c.contains.ensures)
