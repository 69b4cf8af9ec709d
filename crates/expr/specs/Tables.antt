-- The rows of the table after the looks along the children.
use Rattle.std.specs.Prelude.{◌≡◌, ℕ, ◌<◌, Bool, true, ◌&&◌, ◌||◌, not, List, [], ◌∷◌, eqb, if◌then◌else◌}
use Rattle.plan.specs.declared.orders.ExprOrderAcc.{ExprOrderAcc}
use Rattle.plan.specs.declared.orders.ObservableOrders.{ObservableOrders}
use Rattle.plan.specs.FunctionFlags.{observes_input_order, terminates_input_order, non_order_producing}
use Rattle.plan.specs.declared.aexpr.AExpr.{AExpr}
use Rattle.plan.specs.Kinds.{aexpr_number}
use Rattle.plan.specs.Sheet.{Expr}
use Rattle.plan.specs.Orders.{∅, ◌∪◌, is_empty, no_orders, single}
use Rattle.plan.specs.Look as look
use Rattle.expr.specs.declared.after.After.{After}
use Rattle.expr.specs.declared.after.Output.{Output}
use Rattle.expr.specs.declared.seen.Seen.{Seen}

-- from the answer where no child is looked at again, and that of the second look
abbrev pub output_of : ObservableOrders → Output → ObservableOrders → ObservableOrders
output_of same Output.Same i = same
output_of same Output.Empty i = ∅
output_of same Output.Input i = i
output_of same (Output.Function t n) i = look.function_output t n i

abbrev pub after_of : After → look.After
after_of v = look.twice v.observes v.again v.answer (output_of v.answer v.answer_again) v.caches

-- the answers that a record reads
abbrev pub answers : Seen → List ObservableOrders
answers x = x.first ∷ x.second ∷ x.third ∷ []

-- r is the answer of a record without children, of one of the first five kinds
pub record Leaf (kind : AExpr) (scalar : Bool) (field r : ObservableOrders) : Type 0 where
  pub first_five : aexpr_number kind < 5
  pub is : (e : Expr) (allow : Bool) → e.scalar ≡ scalar → look.after e allow field [] no_orders kind ≡ look.plain r

-- The rows with a second look, over what they read -------------------------------------------------------------------------------

abbrev pub ternary_output : Bool → ObservableOrders → ObservableOrders
ternary_output of_predicate i = if of_predicate then ∅ else i

module _ (x : ExprOrderAcc) where
  abbrev pub single_where : Bool → Bool
  single_where b = not x.saw_mixed_inputs && single x && b

  abbrev pub mixed_or : Bool → Bool
  mixed_or b = x.saw_mixed_inputs || b

  abbrev pub projected_row : Bool → look.After
  projected_row allow =
      look.twice (if x.saw_mixed_inputs then x.acc else ∅) (single_where allow) x.acc (λ i. i) (mixed_or (single_where allow))

  abbrev pub filter_row : ObservableOrders → ObservableOrders → ObservableOrders → look.After
  filter_row mixed o₀ o₁ = look.twice mixed (single_where (is_empty o₀ && not (is_empty o₁))) o₀ (λ _. o₀) true

  abbrev pub ternary_row : Bool → ℕ → ObservableOrders → look.After
  ternary_row allow predicate branches =
      look.twice (if x.saw_mixed_inputs then branches else ∅) (single_where allow) branches
      (ternary_output (eqb x.last_ordered_node predicate))
      (mixed_or (single_where allow))

  abbrev pub function_where : Bool → ℕ → Bool
  function_where allow option = single x && not (observes_input_order option) && (allow || terminates_input_order option)

  abbrev pub function_row : Bool → ℕ → look.After
  function_row allow option =
      let output = look.function_output (terminates_input_order option) (non_order_producing option) in
      look.twice
      ((if observes_input_order option then x.acc else ∅) ∪ (if x.saw_mixed_inputs then x.acc else ∅))
      (function_where allow option)
      (output x.acc)
      output
      (mixed_or (function_where allow option))
