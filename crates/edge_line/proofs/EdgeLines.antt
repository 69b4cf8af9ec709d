-- The bytes of a G line, by its consumer's digits, and what is read of them.
use mathlib.Core.Path.{◌≡◌, refl, sym, ap, ◌∙◌}
use Prim.Native.Nat.{ℕ, ◌+◌, ◌-◌, ◌*◌, ◌/◌, ◌%◌, ◌≤◌, ◌<◌}
use native.Mathlib.Omega.{arith}
use native.Mathlib.Decide.{dec_lt, ℕ_discrete}
use mathlib.Core.Bool.{Bool, true, false, not}
use mathlib.Core.List.{List, [], ◌∷◌, ◌++◌}
use lib.Dec.{eqb}
use lib.ListN.{length, get_or}
use Rattle.plan.specs.Lists.{concat_map, digit}
use Rattle.plan.specs.Graph.{Edge}
use Rattle.plan.specs.Text.{line, edge_line}
use Rattle.plan.proofs.Decimals.{decimal_one, decimal_two}
use Rattle.plan.proofs.FunctionOutput.{at_most_one}
use Rattle.edge_line.specs.declared.EdgeLine.{EdgeLine}
use Rattle.edge_line.specs.EdgeLine.{Begins, said_of}

same_edge_line : (c s l : ℕ) (o : Bool) (d : Edge) → c ≡ d.consumer → s ≡ d.slot → o ≡ not d.unordered → l ≡ length (edge_line d)
    → ◌≡◌ {A = EdgeLine} (record { consumer = c; slot = s; ordered = o; length = l }) (said_of d)
same_edge_line c s l o d i j k m = λ x. record { consumer = i x; slot = j x; ordered = k x; length = m x }

order_back : (b : Bool) → eqb (48 + digit b) 49 ≡ b
order_back true = refl
order_back false = refl

module _ (d : Edge) (text : List ℕ) (b : Begins d text) where
  abbrev order : ℕ
  order = digit (not d.unordered)

  abbrev rest : List ℕ
  rest = 44 ∷ (48 + d.slot) ∷ 44 ∷ (48 + order) ∷ 10 ∷ []

  order_digit : order < 10
  order_digit = omega (arith, at_most_one (not d.unordered))

  slot_digit : d.slot < 10
  slot_digit = omega (arith, b.short.slot)

  one_line : d.consumer < 10 → edge_line d ≡ 71 ∷ 44 ∷ (48 + d.consumer) ∷ rest
  unfolding edge_line line concat_map
  one_line h = rw (decimal_one d.consumer h, decimal_one d.slot slot_digit, decimal_one order order_digit) refl

  two_line : 10 ≤ d.consumer → edge_line d ≡ 71 ∷ 44 ∷ (48 + d.consumer / 10) ∷ (48 + d.consumer % 10) ∷ rest
  unfolding edge_line line concat_map
  two_line h =
      rw (decimal_two d.consumer h (omega (arith, b.short.consumer)), decimal_one d.slot slot_digit, decimal_one order order_digit) refl

  one_text : d.consumer < 10 → text ≡ 71 ∷ 44 ∷ (48 + d.consumer) ∷ rest ++ b.behind
  one_text h = b.is ∙ ap (λ (l : List ℕ). l ++ b.behind) (one_line h)

  two_text : 10 ≤ d.consumer → text ≡ 71 ∷ 44 ∷ (48 + d.consumer / 10) ∷ (48 + d.consumer % 10) ∷ rest ++ b.behind
  two_text h = b.is ∙ ap (λ (l : List ℕ). l ++ b.behind) (two_line h)

  -- behind one digit stands a comma
  one_digit : get_or text 3 0 ≡ 44 → d.consumer < 10
  one_digit e = by (dec_lt d.consumer 10)
    where
      by : Dec (d.consumer < 10) → d.consumer < 10
      by (yes h) = h
      by (no h) = let t = two_text (omega arith) in absurd (omega (arith, e, ap (λ (l : List ℕ). get_or l 3 0) t))

  two_digits : ¬ (get_or text 3 0 ≡ 44) → 10 ≤ d.consumer
  two_digits n = by (dec_lt d.consumer 10)
    where
      by : Dec (d.consumer < 10) → 10 ≤ d.consumer
      by (yes h) = absurd (n (ap (λ (l : List ℕ). get_or l 3 0) (one_text h)))
      by (no h) = omega arith

  pub long_enough : 8 ≤ length text
  long_enough = by (dec_lt d.consumer 10)
    where
      by : Dec (d.consumer < 10) → 8 ≤ length text
      by (yes h) = omega (arith, ap length (one_text h))
      by (no h) = omega (arith, ap length (two_text (omega arith)))

  pub one_said : get_or text 3 0 ≡ 44
      → ◌≡◌ {A = EdgeLine} (record { consumer = get_or text 2 0 - 48; slot = get_or text 4 0 - 48; ordered = eqb (get_or text 6 0) 49; length = 8 }) (said_of d)
  one_said e =
      let h = one_digit e in
      let t = one_text h in
      same_edge_line _ _ _ _ d (rw t (omega arith)) (rw t (omega arith)) (rw t (order_back (not d.unordered))) (omega (arith, ap length (one_line h)))

  pub two_said : ¬ (get_or text 3 0 ≡ 44)
      → ◌≡◌ {A = EdgeLine} (record { consumer = (get_or text 2 0 - 48) * 10 + (get_or text 3 0 - 48); slot = get_or text 5 0 - 48; ordered = eqb (get_or text 7 0) 49; length = 9 }) (said_of d)
  two_said n =
      let h = two_digits n in
      let t = two_text h in
      same_edge_line _ _ _ _ d (rw t (omega arith)) (rw t (omega arith)) (rw t (order_back (not d.unordered))) (omega (arith, ap length (two_line h)))

-- no two edges can be read from one text
pub read_once : (d d' : Edge) (text : List ℕ) → Begins d text → Begins d' text → said_of d ≡ said_of d'
read_once d d' text b b' = by (ℕ_discrete (get_or text 3 0) 44)
  where
    by : Dec (get_or text 3 0 ≡ 44) → said_of d ≡ said_of d'
    by (yes e) = sym (one_said d text b e) ∙ one_said d' text b' e
    by (no n) = sym (two_said d text b n) ∙ two_said d' text b' n
