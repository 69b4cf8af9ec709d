-- ObservableOrders and ExprOrderAcc of expr.rs: the code's own types (plan/src/orders.rt).
use Rattle.std.specs.Prelude.{ℕ, ◌+◌, ◌%◌, Bool, true, false, ◌&&◌, ◌||◌, not, eqb, leb, if◌then◌else◌}
use Rattle.plan.specs.declared.orders.ObservableOrders.{ObservableOrders}
use Rattle.plan.specs.declared.orders.ExprOrderAcc.{ExprOrderAcc}

-- a set of COLUMN and INDEPENDENT
abbrev pub ∅ : ObservableOrders
∅ = record { column = false; independent = false }

abbrev pub COLUMN : ObservableOrders
COLUMN = record { column = true; independent = false }

abbrev pub INDEPENDENT : ObservableOrders
INDEPENDENT = record { column = false; independent = true }

infixl 40 ◌∪◌
abbrev pub ◌∪◌ : ObservableOrders → ObservableOrders → ObservableOrders
x ∪ y = record { column = x.column || y.column; independent = x.independent || y.independent }

abbrev pub is_empty : ObservableOrders → Bool
is_empty x = not (x.column || x.independent)

-- a set as a number, 1 for COLUMN and 2 for INDEPENDENT, and back
abbrev pub orders_number : ObservableOrders → ℕ
orders_number o = if o.column then (if o.independent then 3 else 1) else (if o.independent then 2 else 0)

abbrev pub orders_of : ℕ → ObservableOrders
orders_of k = record { column = eqb (k % 2) 1; independent = leb 2 k }

abbrev pub no_orders : ExprOrderAcc
no_orders = record { acc = ∅; saw_mixed_inputs = false; num_ordered_inputs = 0; last_ordered_node = 0 }

unfoldable pub add : ExprOrderAcc → ObservableOrders → ℕ → ExprOrderAcc
add x right node =
    record {
      acc = x.acc ∪ right;
      saw_mixed_inputs =
          x.saw_mixed_inputs || (x.acc.independent && not (is_empty right)) || (right.independent && not (is_empty x.acc));
      num_ordered_inputs = if is_empty right then x.num_ordered_inputs else x.num_ordered_inputs + 1;
      last_ordered_node = if is_empty right then x.last_ordered_node else node;
    }

-- is there a single_ordered_node? It is the last_ordered_node
abbrev pub single : ExprOrderAcc → Bool
single x = eqb x.num_ordered_inputs 1
