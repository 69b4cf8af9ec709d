-- What a look, a second look and a look along the children ask and give.
use Rattle.std.specs.Prelude.{Option, ◌≡◌, ℕ, zero, suc, ◌≤◌, ◌<◌, ◌^◌, Bool, true, List, length, get_or, take, drop, if◌then◌else◌}
use Rattle.plan.specs.declared.looks.Before.{Before}
use Rattle.plan.specs.declared.orders.ExprOrderAcc.{ExprOrderAcc}
use Rattle.plan.specs.declared.orders.ObservableOrders.{ObservableOrders}
use Rattle.plan.specs.declared.tally.Tally.{Tally}
use Rattle.plan.specs.Sheet.{Expr}
use Rattle.plan.specs.Orders.{∅}
use Rattle.plan.specs.Look.{NO_DEORDER, Look, look, look_along, look_again, look_along_children, look_ended, in_order, enter_struct, with_field}
use Rattle.plan.specs.Look as plan
use Rattle.expr.specs.declared.after.After.{After}
use Rattle.expr.specs.declared.seen.Seen.{Seen}
use Rattle.storage.specs.declared.exprs.ExprRecord.{ExprRecord}
use Rattle.expr.specs.Seen.{Sees}
use Rattle.storage.specs.Entries.{Shaped}
use Rattle.storage.specs.Exprs.{record_of}
use Rattle.expr.specs.State.{State, eos_of, above, Kept}
use Rattle.expr.specs.Tables.{after_of}

-- the answer and the state, where the run's tally was that before the visit
abbrev pub looked_of : Tally → List ℕ → ℕ → State → ObservableOrders × plan.Eos
looked_of tally recs n r = (r.own.answer, eos_of tally recs n r)

-- a look at p: from some tally and at some sufficient fuel, the definition's looks fit beside the order sets
pub record LookAsks (recs : List ℕ) (n : ℕ) (s : State) (p : ℕ) (allow : Bool) : Type 0 where
  pub cached : length s.cache ≡ 128
  pub within : p < n
  pub tally : Tally
  pub fuel : ℕ
  pub enough : get_or s.line p 0 < fuel
  pub fits : (look fuel allow p (eos_of tally recs n s)).1.tally.looks < 2 ^ 58

-- it is the definition's, from every tally and at every sufficient fuel
pub record LookGives (recs : List ℕ) (n : ℕ) (s : State) (p : ℕ) (allow : Bool) (r : State) : Type 0 where
  pub is : (tally : Tally) (f : ℕ) → get_or s.line p 0 < f → looked_of tally recs n r ≡ look f allow p (eos_of tally recs n s)
  pub kept : Kept s r

-- The second look, and the end of a look -----------------------------------------------------------------------------------------

-- from what the second look came to, the answer of the record that v is of
abbrev pub answer_by : plan.After → ObservableOrders × plan.Eos → ObservableOrders × plan.Eos
answer_by v r = ((if v.again then v.answer_again r.0 else v.answer), r.1)

-- at the node, where v has one
pub record AgainAsks (recs : List ℕ) (n : ℕ) (s : State) (v : After) (node : ℕ) : Type 0 where
  pub look : v.again ≡ true → LookAsks recs n s node true

pub record AgainGives (recs : List ℕ) (n : ℕ) (s : State) (v : After) (node : ℕ) (r : State) : Type 0 where
  pub is : (tally : Tally) (f : ℕ) → (v.again ≡ true → get_or s.line node 0 < f) → (x : ExprOrderAcc) → x.last_ordered_node ≡ node
      → looked_of tally recs n r ≡ answer_by (after_of v) (look_again (look f) v.again x (eos_of tally recs n s))
  pub kept : Kept s r

-- the definition's end of a look at p, whose record was e: r has the answer and the state before it
abbrev pub ended_by : ℕ → Expr → plan.After → ObservableOrders → List ObservableOrders → ObservableOrders × plan.Eos → ObservableOrders × plan.Eos
ended_by p e v field os r = (r.0, look_ended p e v r.0 field os r.1)

-- the end of a look at p
pub record EndAsks (cache : List (Option ObservableOrders)) (p : ℕ) : Type 0 where
  pub within : p < 128
  pub cached : length cache ≡ 128

-- for every base and every list of answers that begins with the first one
pub record Ended (s : State) (p : ℕ) (e : Expr) (v : plan.After) (field first : ObservableOrders) (r : State) : Type 0 where
  pub is : (tally : Tally) (recs : List ℕ) (n : ℕ) (os : List ObservableOrders) → p < n → get_or os 0 ∅ ≡ first
      → looked_of tally recs n r ≡ ended_by p e v field os (looked_of tally recs n s)
  pub kept : Kept s r

-- The look along the children ----------------------------------------------------------------------------------------------------

abbrev pub Answers : Type 0
Answers = List ObservableOrders × ExprOrderAcc × plan.Eos

-- from the i-th child on: the answers os and the accumulator x are those of the children before it
abbrev pub along_from : Look → Expr → Before → ℕ → List ObservableOrders → ExprOrderAcc → plan.Eos → Answers
along_from rec e b zero os x s =
    let d = look_along rec b.first (take 1 (in_order b e.children)) os x s in
    look_along rec NO_DEORDER (drop 1 (in_order b e.children)) d.0 d.1 (enter_struct e d.0 d.2)
along_from rec e b (suc i) os x s = look_along rec NO_DEORDER (drop (suc i) (in_order b e.children)) os x s

-- what was seen of the first i children or entries: the last ordered one is below l
pub record Begun (l i : ℕ) (os : List ObservableOrders) (x : Seen) : Type 0 where
  pub length_is : length os ≡ i
  pub sees : Sees os x
  pub most : x.acc.num_ordered_inputs ≤ i
  pub near : 0 < x.acc.num_ordered_inputs → x.acc.last_ordered_node < l

-- every child of e is below this number
abbrev pub reach : ExprRecord → ℕ
reach e = above (record_of e).children

-- the invariant: from s on, the looks at the children before the i-th left the state t, and the others go on from it
pub record Reached (recs : List ℕ) (n : ℕ) (s : State) (e : ExprRecord) (b : Before) (t : State) (x : Seen) (i : ℕ) : Type 0 where
  pub most : i ≤ e.children.count
  pub os : List ObservableOrders
  pub begun : Begun (reach e) i os x
  pub kept : Kept s t
  pub is : (tally : Tally) (f : ℕ) → reach e ≤ f
      → look_along_children (look f) (record_of e) b (eos_of tally recs n s)
      ≡ along_from (look f) (record_of e) b i os x.acc (eos_of tally recs n t)

pub record AlongAsks (recs : List ℕ) (n : ℕ) (s : State) (e : ExprRecord) (b : Before) : Type 0 where
  pub cached : length s.cache ≡ 128
  pub shaped : Shaped e.children
  pub within : reach e ≤ n
  pub tally : Tally
  pub fuel : ℕ
  pub enough : reach e ≤ fuel
  pub fits : (look_along_children (look fuel) (record_of e) b (eos_of tally recs n s)).2.tally.looks < 2 ^ 58

-- the state after a look along the children, and what was seen of them
pub record Walked : Type 0 where
  pub state : State
  pub seen : Seen

abbrev pub walked : State → Seen → Walked
walked s x = record { state = s; seen = x }

-- the code's walk is the definition's, as far as a record reads it: the definition enters a StructEval without children too
pub record IsWalk (tally : Tally) (recs : List ℕ) (n : ℕ) (count : ℕ) (r : Walked) (d : Answers) : Type 0 where
  pub sees : Sees d.0 r.seen
  pub acc : d.1 ≡ r.seen.acc
  pub field : ObservableOrders
  pub state : d.2 ≡ with_field field (eos_of tally recs n r.state)
  pub same : 0 < count → field ≡ r.state.own.field

pub record AlongGives (recs : List ℕ) (n : ℕ) (s : State) (e : ExprRecord) (b : Before) (r : Walked) : Type 0 where
  pub is : (tally : Tally) (f : ℕ) → reach e ≤ f
      → IsWalk tally recs n e.children.count r (look_along_children (look f) (record_of e) b (eos_of tally recs n s))
  pub kept : Kept s r.state
  pub most : r.seen.acc.num_ordered_inputs ≤ e.children.count
  pub near : 0 < r.seen.acc.num_ordered_inputs → r.seen.acc.last_ordered_node < reach e
