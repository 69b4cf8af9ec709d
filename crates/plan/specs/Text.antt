-- The finished sheet as text: all E lines, all P lines, a G line for each edge by number, and the T line.
use Rattle.std.specs.Prelude.{ℕ, zero, suc, ◌+◌, ◌/◌, ◌%◌, true, false, not, List, [], ◌∷◌, ◌++◌, ltb, length, take}
use Rattle.plan.specs.Kinds.{aexpr_number, ir_number}
use Rattle.plan.specs.Lists.{concat_map, digit}
use Rattle.plan.specs.Sheet.{Expr, Step}
use Rattle.plan.specs.Graph.{Edge}
use Rattle.plan.specs.Visit.{Run}

-- base ten; the fuel is above the number of digits
unfoldable pub digits : ℕ → ℕ → List ℕ
digits zero n = []
digits (suc f) n = elim (ltb n 10) [ true ↦ (48 + n) ∷ [] | false ↦ digits f (n / 10) ++ ((48 + n % 10) ∷ []) ]

abbrev pub decimal : ℕ → List ℕ
decimal n = digits (suc n) n

-- a letter, then each number behind a comma, then byte 10
unfoldable pub line : ℕ → List ℕ → List ℕ
line letter ns = letter ∷ concat_map (λ n. 44 ∷ decimal n) ns ++ (10 ∷ [])

unfoldable pub expr_line : Expr → List ℕ
expr_line e = line 69 (aexpr_number e.kind ∷ digit e.scalar ∷ digit e.length_preserving ∷ e.option ∷ e.children)

unfoldable pub step_line : Step → List ℕ
step_line s =
    line 80
    (ir_number s.kind ∷ s.a ∷ s.b ∷ s.c ∷ length s.inputs ∷ length s.exprs ∷ length s.aggs
    ∷ (s.inputs ++ s.exprs ++ s.aggs))

unfoldable pub edge_line : Edge → List ℕ
edge_line d = line 71 (d.consumer ∷ d.slot ∷ digit (not d.unordered) ∷ [])

unfoldable pub tally_line : Run → List ℕ
tally_line r = line 84 (length r.removed ∷ r.tally.visits ∷ r.tally.looks ∷ [])

-- The blocks ---------------------------------------------------------------------------------------------------------------

unfoldable pub exprs_block : Run → List ℕ
exprs_block r = concat_map expr_line r.arena

unfoldable pub steps_block : Run → List ℕ
steps_block r = concat_map step_line r.steps

unfoldable pub edges_block : Run → List ℕ
edges_block r = concat_map edge_line r.edges

-- in their order
unfoldable pub blocks : Run → List (List ℕ)
blocks r = exprs_block r ∷ steps_block r ∷ edges_block r ∷ tally_line r ∷ []

-- a text with blocks behind it
unfoldable pub joined : List ℕ → List (List ℕ) → List ℕ
joined text [] = text
joined text (b ∷ bs) = joined (text ++ b) bs

unfoldable pub printed : Run → List ℕ
printed r = joined [] (blocks r)

-- where the first k blocks end
unfoldable pub end_of : ℕ → Run → ℕ
end_of k r = length (joined [] (take k (blocks r)))
