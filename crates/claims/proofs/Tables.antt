-- What the tables say of a record: how many children and entries it has, and how large its options are.
use mathlib.Core.Path.{◌≡◌, subst, sym}
use Prim.Native.Nat.{ℕ, zero, suc, ◌≤◌}
use native.Mathlib.Omega.{arith}
use native.Mathlib.Nat.{le_trans}
use mathlib.Core.Bool.{Bool, true, false, ◌&&◌, ◌||◌, not}
use mathlib.Core.List.{List, [], ◌∷◌}
use lib.Dec.{T, eqb, eqb→eq, leb, leb→le, lit≤}
use lib.ListN.{length, get_or}
use Rattle.plan.specs.declared.aexpr.AExpr.{AExpr}
use Rattle.plan.specs.declared.ir.IR.{IR}
use Rattle.plan.specs.Kinds.{aexpr_number, same_aexpr, ir_number, same_ir}
use Rattle.plan.specs.Lists.{all?, yes?}
use Rattle.plan.specs.Sheet.{Expr, Step, expr_table, step_table, in_expr_table, in_step_table}
use Rattle.plan.proofs.ListLaws.{and_left, and_right}
use Rattle.claims.proofs.Changes.{sort?}

-- a test of every row, and of what stands past the last
rows_pass : {A : Type 0} (f : A → Bool) (l : List A) (d : A) → T (all? f l) → T (f d) → (i : ℕ) → T (f (get_or l i d))
unfolding all?
rows_pass f [] d t k i = k
rows_pass f (x ∷ l) d t k zero = and_left (f x) (all? f l) t
rows_pass f (x ∷ l) d t k (suc i) = rows_pass f l d (and_right (f x) (all? f l) t) k i

-- Expressions ----------------------------------------------------------------------------------------------------------------

abbrev expr_row : ℕ → ℕ × ℕ × ℕ
expr_row k = get_or expr_table k (0, 0, 0)

abbrev small_row : ℕ × ℕ × ℕ → Bool
small_row (least, most, option) = leb most 8 && leb option 63

rows_small : (k : ℕ) → T (small_row (expr_row k))
unfolding expr_table all?
rows_small k = rows_pass small_row expr_table (0, 0, 0) tt tt k

-- the tests of a row, and what they say
abbrev row_tests : Expr → ℕ → Bool
row_tests e k = leb e.option (expr_row k).2 && leb (expr_row k).0 (length e.children) && leb (length e.children) (expr_row k).1

record InRow (e : Expr) (k : ℕ) : Type 0 where
  option : e.option ≤ (expr_row k).2
  least : (expr_row k).0 ≤ length e.children
  most : length e.children ≤ (expr_row k).1
  small_most : (expr_row k).1 ≤ 8
  small_option : (expr_row k).2 ≤ 63

in_row : (e : Expr) (k : ℕ) → T (row_tests e k) → InRow e k
in_row e k t =
    let a = leb e.option (expr_row k).2 in
    let b = leb (expr_row k).0 (length e.children) in
    let c = leb (length e.children) (expr_row k).1 in
    record {
      option = leb→le e.option (expr_row k).2 (and_left a b (and_left (a && b) c t));
      least = leb→le (expr_row k).0 (length e.children) (and_right a b (and_left (a && b) c t));
      most = leb→le (length e.children) (expr_row k).1 (and_right (a && b) c t);
      small_most = leb→le (expr_row k).1 8 (and_left (leb (expr_row k).1 8) (leb (expr_row k).2 63) (rows_small k));
      small_option = leb→le (expr_row k).2 63 (and_right (leb (expr_row k).1 8) (leb (expr_row k).2 63) (rows_small k));
    }

module _ (e : Expr) (t : T (in_expr_table e)) where
  k : ℕ
  k = aexpr_number e.kind

  own_row : InRow e k
  unfolding in_expr_table k
  own_row = in_row e k (and_left (row_tests e k) (not (same_aexpr e.kind AExpr.Over && yes? e.option) || leb 2 (length e.children)) t)

  pub few_children : length e.children ≤ 8
  few_children = omega (arith, own_row.most, own_row.small_most)

  pub small_option : e.option ≤ 63
  small_option = omega (arith, own_row.option, own_row.small_option)

  pub sort_has_input : T (sort? e) → 1 ≤ length e.children
  unfolding expr_table k
  sort_has_input s = by (eqb k 9) (eqb k 10) (eqb→eq k 9) (eqb→eq k 10) s
    where
      at : (n : ℕ) → k ≡ n → 1 ≤ (expr_row n).0 → 1 ≤ length e.children
      at n i h = omega (arith, own_row.least, subst (λ m. 1 ≤ (expr_row m).0) (sym i) h)

      by : (a b : Bool) → (T a → k ≡ 9) → (T b → k ≡ 10) → T (a || b) → 1 ≤ length e.children
      by true b f g u = at 9 (f tt) (lit≤ tt)
      by false true f g u = at 10 (g tt) (lit≤ tt)
      by false false f g u = absurd u

-- Steps ------------------------------------------------------------------------------------------------------------------------

abbrev StepRow : Type 0
StepRow = ℕ × ℕ × ℕ × ℕ × ℕ × ℕ × ℕ × ℕ

abbrev step_row_of : ℕ → StepRow
step_row_of k = get_or step_table k (0, 0, 0, 0, 0, 0, 0, 0)

abbrev small_step_row : StepRow → Bool
small_step_row (a, b, c, _, n1, _, n2, n3) = leb a 255 && leb b 255 && leb c 255 && leb n1 8 && leb n2 8 && leb n3 8

step_rows_small : (k : ℕ) → T (small_step_row (step_row_of k))
unfolding step_table all?
step_rows_small k = rows_pass small_step_row step_table (0, 0, 0, 0, 0, 0, 0, 0) tt tt k

six : (a b c d e f : Bool) → T (a && b && c && d && e && f) → T a × T b × T c × T d × T e × T f
six true true true true true true t = (tt, tt, tt, tt, tt, tt)
six false b c d e f t = absurd t
six true false c d e f t = absurd t
six true true false d e f t = absurd t
six true true true false e f t = absurd t
six true true true true false f t = absurd t
six true true true true true false t = absurd t

nine : (a b c d e f g h i : Bool) → T (a && b && c && d && e && f && g && h && i) → T a × T b × T c × T d × T e × T f × T g × T h × T i
nine true true true true true true true true true t = (tt, tt, tt, tt, tt, tt, tt, tt, tt)
nine false b c d e f g h i t = absurd t
nine true false c d e f g h i t = absurd t
nine true true false d e f g h i t = absurd t
nine true true true false e f g h i t = absurd t
nine true true true true false f g h i t = absurd t
nine true true true true true false g h i t = absurd t
nine true true true true true true false h i t = absurd t
nine true true true true true true true false i t = absurd t
nine true true true true true true true true false t = absurd t

-- what a step's row says of it
record InStepRow (s : Step) (r : StepRow) : Type 0 where
  a : s.a ≤ r.0
  b : s.b ≤ r.1
  c : s.c ≤ r.2
  inputs : length s.inputs ≤ r.4
  exprs : length s.exprs ≤ r.6
  aggs : length s.aggs ≤ r.7

in_step_row : (s : Step) (r : StepRow) (sink : Bool)
    → T
    (leb s.a r.0 && leb s.b r.1 && leb s.c r.2 && leb r.3 (length s.inputs) && leb (length s.inputs) r.4
    && leb r.5 (length s.exprs) && leb (length s.exprs) r.6 && leb (length s.aggs) r.7 && sink)
    → InStepRow s r
in_step_row s r sink t =
    let y =
    nine (leb s.a r.0) (leb s.b r.1) (leb s.c r.2) (leb r.3 (length s.inputs)) (leb (length s.inputs) r.4)
    (leb r.5 (length s.exprs)) (leb (length s.exprs) r.6) (leb (length s.aggs) r.7) sink t in
    record {
      a = leb→le s.a r.0 y.0;
      b = leb→le s.b r.1 y.1;
      c = leb→le s.c r.2 y.2;
      inputs = leb→le (length s.inputs) r.4 y.4;
      exprs = leb→le (length s.exprs) r.6 y.6;
      aggs = leb→le (length s.aggs) r.7 y.7;
    }

own_step_row : (s : Step) → T (in_step_table s) → InStepRow s (step_row_of (ir_number s.kind))
unfolding in_step_table
own_step_row s t =
    in_step_row s (step_row_of (ir_number s.kind)) (not (same_ir s.kind IR.Sink && eqb s.b 0) || eqb (length s.exprs) 0) t

-- what every row says
pub record InStepTable (s : Step) : Type 0 where
  pub a : s.a ≤ 255
  pub b : s.b ≤ 255
  pub c : s.c ≤ 255
  pub few_inputs : length s.inputs ≤ 8
  pub few_exprs : length s.exprs ≤ 8
  pub few_aggs : length s.aggs ≤ 8

pub of_step_table : (s : Step) → T (in_step_table s) → InStepTable s
of_step_table s t =
    let k = own_step_row s t in
    let r = step_row_of (ir_number s.kind) in
    let x = six (leb r.0 255) (leb r.1 255) (leb r.2 255) (leb r.4 8) (leb r.6 8) (leb r.7 8) (step_rows_small (ir_number s.kind)) in
    record {
      a = le_trans k.a (leb→le r.0 255 x.0);
      b = le_trans k.b (leb→le r.1 255 x.1);
      c = le_trans k.c (leb→le r.2 255 x.2);
      few_inputs = le_trans k.inputs (leb→le r.4 8 x.3);
      few_exprs = le_trans k.exprs (leb→le r.6 8 x.4);
      few_aggs = le_trans k.aggs (leb→le r.7 8 x.5);
    }
