-- How long the lines of the finished sheet are: numbers below 1000 take at most three digits.
use mathlib.Core.Path.{◌≡◌, refl}
use Prim.Native.Nat.{ℕ, suc, ◌+◌, ◌*◌, ◌≤◌, ◌<◌, ◌^◌}
use native.Mathlib.Omega.{arith}
use mathlib.Core.Bool.{Bool, true, false, not}
use mathlib.Core.List.{List, [], ◌∷◌, ◌++◌, Memᴰ}
use lib.ListN.{length, length-append}
use Rattle.plan.specs.declared.aexpr.AExpr.{AExpr}
use Rattle.plan.specs.Kinds.{aexpr_number, ir_number}
use Rattle.plan.specs.Lists.{sum, concat_map, digit}
use Rattle.plan.specs.Sheet.{Expr, Step}
use Rattle.plan.specs.Graph.{Edge}
use Rattle.plan.specs.Visit.{Run}
use Rattle.plan.proofs.Decimals.{decimal_short}
use Rattle.plan.specs.Text.{decimal, line, expr_line, step_line, edge_line, tally_line}
use Rattle.plan.proofs.ListLaws.{sum_append}
use Rattle.plan.proofs.KindNumbers.{ir_small}

-- a number behind its comma
abbrev width : ℕ → ℕ
width n = suc (length (decimal n))

short_width : (n : ℕ) → n < 1000 → width n ≤ 4
short_width n h = omega (arith, decimal_short 2 n h)

long_width : (n : ℕ) → n < 2 ^ 64 → width n ≤ 21
long_width n h = omega (arith, decimal_short 19 n (omega arith))

length_concat : {A B : Type 0} (f : A → List B) (l : List A) → length (concat_map f l) ≡ sum (λ a. length (f a)) l
unfolding sum concat_map
length_concat f [] = refl
length_concat f (x ∷ l) = omega (arith, length-append (f x) (concat_map f l), length_concat f l)

line_length : (letter : ℕ) (ns : List ℕ) → length (line letter ns) ≡ 2 + sum width ns
unfolding line
line_length letter ns =
    omega (
      arith,
      length-append (concat_map (λ n. 44 ∷ decimal n) ns) (10 ∷ []),
      length_concat (λ n. 44 ∷ decimal n) ns,
    )

-- lists of short things
sum_short : {A : Type 0} (w : A → ℕ) (k : ℕ) (l : List A) → ((a : A) → Memᴰ a l → w a ≤ k) → sum w l ≤ k * length l
unfolding sum
sum_short w k [] h = omega arith
sum_short w k (x ∷ l) h = omega (arith, h x (Memᴰ.head refl), sum_short w k l (λ a m. h a (Memᴰ.tail m)))

pub block_short : {A : Type 0} (f : A → List ℕ) (k : ℕ) (l : List A) → ((a : A) → Memᴰ a l → length (f a) ≤ k) → length (concat_map f l) ≤ k * length l
block_short f k l h = rw (length_concat f l) (sum_short (λ a. length (f a)) k l h)

numbers_short : (ns : List ℕ) → ((n : ℕ) → Memᴰ n ns → n < 1000) → sum width ns ≤ 4 * length ns
numbers_short ns h = sum_short width 4 ns (λ n m. short_width n (h n m))

-- Lines ------------------------------------------------------------------------------------------------------------------------

aexpr_small : (k : AExpr) → aexpr_number k < 1000
aexpr_small AExpr.Column = omega arith
aexpr_small AExpr.Literal = omega arith
aexpr_small AExpr.Element = omega arith
aexpr_small AExpr.StructField = omega arith
aexpr_small AExpr.Len = omega arith
aexpr_small AExpr.BinaryExpr = omega arith
aexpr_small AExpr.Ternary = omega arith
aexpr_small AExpr.Cast = omega arith
aexpr_small AExpr.Explode = omega arith
aexpr_small AExpr.Sort = omega arith
aexpr_small AExpr.SortBy = omega arith
aexpr_small AExpr.Filter = omega arith
aexpr_small AExpr.Gather = omega arith
aexpr_small AExpr.Slice = omega arith
aexpr_small AExpr.Eval = omega arith
aexpr_small AExpr.StructEval = omega arith
aexpr_small AExpr.Over = omega arith
aexpr_small AExpr.Rolling = omega arith
aexpr_small AExpr.MinBy = omega arith
aexpr_small AExpr.Function = omega arith
aexpr_small AExpr.AnonymousAgg = omega arith
aexpr_small AExpr.First = omega arith
aexpr_small AExpr.Min = omega arith
aexpr_small AExpr.Implode = omega arith
aexpr_small AExpr.AggGroups = omega arith

digit_small : (b : Bool) → digit b < 1000
digit_small true = omega arith
digit_small false = omega arith

abbrev pub AllSmall : List ℕ → Type 0
AllSmall ns = (n : ℕ) → Memᴰ n ns → n < 1000

-- an E line with at most 8 children
pub expr_line_short : (e : Expr) → e.option < 1000 → length e.children ≤ 8 → AllSmall e.children → length (expr_line e) ≤ 50
unfolding expr_line sum
expr_line_short e h₁ h₂ h₃ =
    omega (
      arith,
      line_length 69 (aexpr_number e.kind ∷ digit e.scalar ∷ digit e.length_preserving ∷ e.option ∷ e.children),
      short_width (aexpr_number e.kind) (aexpr_small e.kind),
      short_width (digit e.scalar) (digit_small e.scalar),
      short_width (digit e.length_preserving) (digit_small e.length_preserving),
      short_width e.option h₁,
      numbers_short e.children h₃,
    )

-- of the lists of a P line, at most 8 entries each
pub record ShortList (ns : List ℕ) : Type 0 where
  pub few : length ns ≤ 8
  pub small : AllSmall ns

list_width : (ns : List ℕ) → ShortList ns → sum width ns ≤ 32
list_width ns k = omega (arith, k.few, numbers_short ns k.small)

pub step_line_short : (s : Step) → s.a < 1000 → s.b < 1000 → s.c < 1000 → ShortList s.inputs → ShortList s.exprs → ShortList s.aggs → length (step_line s) ≤ 126
unfolding step_line sum
step_line_short s a b c k₁ k₂ k₃ =
    let n1 = length s.inputs in
    let n2 = length s.exprs in
    let n3 = length s.aggs in
    omega (
      arith,
      line_length 80 (ir_number s.kind ∷ s.a ∷ s.b ∷ s.c ∷ n1 ∷ n2 ∷ n3 ∷ (s.inputs ++ s.exprs ++ s.aggs)),
      short_width (ir_number s.kind) (omega (arith, ir_small s.kind)),
      short_width s.a a,
      short_width s.b b,
      short_width s.c c,
      short_width n1 (omega (arith, k₁.few)),
      short_width n2 (omega (arith, k₂.few)),
      short_width n3 (omega (arith, k₃.few)),
      sum_append width (s.inputs ++ s.exprs) s.aggs,
      sum_append width s.inputs s.exprs,
      list_width s.inputs k₁,
      list_width s.exprs k₂,
      list_width s.aggs k₃,
    )

pub edge_line_short : (d : Edge) → d.consumer < 1000 → d.slot < 1000 → length (edge_line d) ≤ 14
unfolding edge_line sum
edge_line_short d h k =
    omega (
      arith,
      line_length 71 (d.consumer ∷ d.slot ∷ digit (not d.unordered) ∷ []),
      short_width d.consumer h,
      short_width d.slot k,
      short_width (digit (not d.unordered)) (digit_small (not d.unordered)),
    )

pub tally_line_short : (r : Run) → length r.removed < 1000 → r.tally.visits < 2 ^ 64 → r.tally.looks < 2 ^ 64 → length (tally_line r) ≤ 64
unfolding tally_line sum
tally_line_short r h k l =
    omega (
      arith,
      line_length 84 (length r.removed ∷ r.tally.visits ∷ r.tally.looks ∷ []),
      short_width (length r.removed) h,
      long_width r.tally.visits k,
      long_width r.tally.looks l,
    )
