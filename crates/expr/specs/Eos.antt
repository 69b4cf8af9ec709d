-- What the looks of a visit own of ExprOrderSimplifier, out of the number that holds it.
use Rattle.std.specs.Prelude.{ℕ, ◌+◌, ◌/◌, ◌%◌}
use Rattle.plan.specs.declared.orders.ObservableOrders.{ObservableOrders}
use Rattle.plan.specs.Orders.{∅, orders_of}
use Rattle.expr.specs.declared.eos.Eos.{Eos}

pub record Own : Type 0 where
  pub looks : ℕ  -- of this visit
  pub field : ObservableOrders  -- struct_field_ordering
  pub observed : ObservableOrders  -- internally_observed
  pub answer : ObservableOrders  -- of the last look

unfoldable pub own_of : Eos → Own
own_of s =
    record {
      looks = s.bits / 64;
      field = orders_of (s.bits / 16 % 4);
      observed = orders_of (s.bits / 4 % 4);
      answer = orders_of (s.bits % 4);
    }

-- Its changes --------------------------------------------------------------------------------------------------------------------

abbrev pub no_looks : Own
no_looks = record { looks = 0; field = ∅; observed = ∅; answer = ∅ }

abbrev pub one_look : Own → Own
one_look s = record { looks = s.looks + 1; field = s.field; observed = s.observed; answer = s.answer }

abbrev pub with_field : ObservableOrders → Own → Own
with_field o s = record { looks = s.looks; field = o; observed = s.observed; answer = s.answer }

abbrev pub with_observed : ObservableOrders → Own → Own
with_observed o s = record { looks = s.looks; field = s.field; observed = o; answer = s.answer }

abbrev pub with_answer : ObservableOrders → Own → Own
with_answer o s = record { looks = s.looks; field = s.field; observed = s.observed; answer = o }
