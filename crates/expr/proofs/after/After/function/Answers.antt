use Rattle.expr.proofs.after.After.function.Goals as goal

pub returns : goal.returns
returns c =
    rw (
      c.twice.ensures,
      c.function_output.ensures,
      c.union.ensures,
      c.pick.ensures,
      c.pick-observed.ensures,
      c.non_order_producing-non_producing.ensures,
      c.terminates_input_order-terminates.ensures,
      c.observes_input_order-observes.ensures,
    )
