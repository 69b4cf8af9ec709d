-- The G lines but for those into removed sorts, line by line: what `equals_examined` keeps from turn to turn.
use mathlib.Core.Path.{◌≡◌, refl, sym, ap, ◌∙◌, subst}
use Prim.Native.Nat.{ℕ, ◌≤◌, ◌<◌}
use native.Mathlib.Omega.{arith}
use mathlib.Core.Bool.{true, false}
use mathlib.Core.List.{List, [], ◌∷◌, ◌++◌}
use lib.Dec.{eqb}
use lib.ListN.{length, length-append, get_or, take, drop}
use lib.Seq.{take_at}
use lib.Pointwise.{pointwise}
use borrow.Author.Tests.{ne_eqb}
use Rattle.std.specs.Prelude.{Some, None}
use Rattle.plan.specs.Lists.{concat_map, same, select}
use Rattle.plan.specs.Graph.{Edge}
use Rattle.plan.specs.Text.{line, edge_line}
use Rattle.edge_line.specs.declared.EdgeLine.{EdgeLine}
use Rattle.edge_line.specs.EdgeLine.{Begins, said_of, LinesOf}
use Rattle.edge_line.proofs.LinesOf.{no_lines, first_line, lines_behind}
use Rattle.storage.specs.declared.removed.Removed.{Removed}
use Rattle.marking.specs.Unmarked.{unmarked_lines}
use Rattle.marking.proofs.Comparison.{front_same, front_differs}

module _ (m : Removed) (d : Edge) (ds : List Edge) where
  passed_over : get_or m.marks d.consumer false ≡ true → unmarked_lines m (d ∷ ds) ≡ unmarked_lines m ds
  unfolding select concat_map
  passed_over e = rw e refl

  left_in : get_or m.marks d.consumer false ≡ false → unmarked_lines m (d ∷ ds) ≡ edge_line d ++ unmarked_lines m ds
  unfolding select concat_map
  left_in e = rw e refl

-- of the bytes `rest` is left to be compared, and of the G lines of ds the text `left`
pub record Comparing (m : Removed) (bytes rest left : List ℕ) (ds : List Edge) : Type 0 where
  pub to_go : List Edge
  pub lines : LinesOf to_go left
  pub comes_to : same bytes (unmarked_lines m ds) ≡ same rest (unmarked_lines m to_go)

same_nothing : (x : List ℕ) → same x [] ≡ eqb (length x) 0
unfolding same
same_nothing [] = refl
same_nothing (b ∷ x) = sym (ne_eqb (length (b ∷ x)) 0 (λ e. omega (arith, e)))

same_some : {A : Type 0} (x y : A) → Some x ≡ Some y → x ≡ y
same_some x y e = cc

some_or_none : {A : Type 0} (x : A) → Some x ≡ None → ⊥
some_or_none x e = cc

-- the line that a turn reads is that of the first edge to go
record Turn (left : List ℕ) (to_go : List Edge) (line : EdgeLine) : Type 0 where
  edge : Edge
  later : List Edge
  first : to_go ≡ edge ∷ later
  said : line ≡ said_of edge

turn_of : (left : List ℕ) (to_go : List Edge) (line : EdgeLine) → LinesOf to_go left → ((d : Edge) → Begins d left → Some line ≡ Some (said_of d))
    → (left ≡ [] → Some line ≡ None) → Turn left to_go line
turn_of left [] line l f g = absurd (some_or_none line (g (no_lines left l)))
turn_of left (d ∷ ds) line l f g = record { edge = d; later = ds; first = refl; said = same_some line (said_of d) (f d (first_line d ds left l)) }

module _ {m : Removed} {bytes rest left : List ℕ} {ds : List Edge} (k : Comparing m bytes rest left ds) where
  -- A turn -----------------------------------------------------------------------------------------------------------------------

  module _ {line : EdgeLine} (reads : (d : Edge) → Begins d left → Some line ≡ Some (said_of d)) (there : left ≡ [] → Some line ≡ None) where
    turn : Turn left k.to_go line
    turn = turn_of left k.to_go line k.lines reads there

    abbrev edge : Edge
    edge = turn.edge

    abbrev later : List Edge
    later = turn.later

    lines : LinesOf (edge ∷ later) left
    lines = subst (λ (l : List Edge). LinesOf l left) turn.first k.lines

    begins : Begins edge left
    begins = first_line edge later left lines

    consumer_is : line.consumer ≡ edge.consumer
    consumer_is = ap (λ (l : EdgeLine). l.consumer) turn.said

    length_is : line.length ≡ length (edge_line edge)
    length_is = ap (λ (l : EdgeLine). l.length) turn.said

    pub consumer_small : line.consumer < 32
    consumer_small = omega (arith, consumer_is, begins.short.consumer)

    pub line_within : line.length ≤ length left
    line_within = omega (arith, length_is, ap length begins.is, length-append (edge_line edge) begins.behind)

    pub line_there : 1 ≤ line.length
    unfolding edge_line line
    line_there = omega (arith, length_is)

    goes_on : same bytes (unmarked_lines m ds) ≡ same rest (unmarked_lines m (edge ∷ later))
    goes_on = k.comes_to ∙ ap (λ (l : List Edge). same rest (unmarked_lines m l)) turn.first

    behind_lines : LinesOf later (drop line.length left)
    behind_lines = subst (λ (n : ℕ). LinesOf later (drop n left)) (sym length_is) (lines_behind edge later left lines)

    pub passed : get_or m.marks line.consumer false ≡ true → Comparing m bytes rest (drop line.length left) ds
    passed e =
        let marked : get_or m.marks edge.consumer false ≡ true = ap (λ (n : ℕ). get_or m.marks n false) (sym consumer_is) ∙ e in
        record { to_go = later; lines = behind_lines; comes_to = goes_on ∙ ap (same rest) (passed_over m edge later marked) }

    module _ (e : get_or m.marks line.consumer false ≡ false) where
      stays : same bytes (unmarked_lines m ds) ≡ same rest (edge_line edge ++ unmarked_lines m later)
      stays =
          let unmarked : get_or m.marks edge.consumer false ≡ false = ap (λ (n : ℕ). get_or m.marks n false) (sym consumer_is) ∙ e in
          goes_on ∙ ap (same rest) (left_in m edge later unmarked)

      front_is : take line.length left ≡ edge_line edge
      front_is = ap (λ (l : List ℕ). take line.length l) begins.is ∙ take_at (edge_line edge) begins.behind line.length (sym length_is)

      module _ {front : List ℕ} (taken : front ≡ take line.length left) where
        pub differs : pointwise eqb (take (length front) rest) front ≡ false → same bytes (unmarked_lines m ds) ≡ false
        differs f =
            stays ∙ front_differs rest (edge_line edge) (subst (λ (l : List ℕ). pointwise eqb (take (length l) rest) l ≡ false) (taken ∙ front_is) f) (unmarked_lines m later)

        pub compared : pointwise eqb (take (length front) rest) front ≡ true → Comparing m bytes (drop (length front) rest) (drop line.length left) ds
        compared f =
            let is = taken ∙ front_is in
            record {
              to_go = later;
              lines = behind_lines;
              comes_to =
                  stays ∙ front_same rest (edge_line edge) (subst (λ (l : List ℕ). pointwise eqb (take (length l) rest) l ≡ true) is f) (unmarked_lines m later)
                  ∙ ap (λ (l : List ℕ). same (drop (length l) rest) (unmarked_lines m later)) (sym is);
            }

  -- The end ------------------------------------------------------------------------------------------------------------------------

  pub ended : ((d : Edge) → Begins d left → None ≡ Some (said_of d)) → same bytes (unmarked_lines m ds) ≡ eqb (length rest) 0
  unfolding concat_map select
  ended none = k.comes_to ∙ by k.to_go k.lines ∙ same_nothing rest
    where
      by : (l : List Edge) → LinesOf l left → same rest (unmarked_lines m l) ≡ same rest []
      by [] h = refl
      by (d ∷ l) h = absurd (some_or_none (said_of d) (sym (none d (first_line d l left h))))
