-- The G lines that stand in a right paper: those of the edges that are examined, and no other.
use mathlib.Core.Path.{◌≡◌, refl, sym, ap, ◌∙◌, subst}
use Prim.Native.Nat.{ℕ}
use mathlib.Core.Bool.{not}
use mathlib.Core.List.Memᴰ
use mathlib.Core.List.{List, [], ◌∷◌, ◌++◌, append_assoc, Memᴰ}
use mathlib.Core.Logic.{inl, inr}
use lib.Dec.{T, T_not, eqb}
use Rattle.plan.specs.Graph.{Edge}
use Rattle.plan.specs.Lists.{all?, concat_map, digit, select}
use Rattle.plan.specs.Text.{decimal, line, edge_line, steps_block}
use Rattle.plan.specs.Visit.{Run}
use Rattle.plan.proofs.ListLaws.{and_left, and_right}
use Rattle.claims.specs.Limits.{ShortEdge}
use Rattle.edge_line.specs.declared.EdgeLine.{EdgeLine}
use Rattle.edge_line.proofs.EdgeLines.{read_once}
use Rattle.marking.specs.Marking.{examined, examined_block, right_paper}
use Rattle.marking.proofs.ExaminedEdges.{is_examined, was_examined}
use Rattle.marking.proofs.PaperBlocks.{GFree, free_fields, free_steps}

-- A text that has a G ------------------------------------------------------------------------------------------------------------

record Behind (y : List ℕ) (z : List ℕ) : Type 0 where
  before : List ℕ
  is : y ≡ before ++ (71 ∷ z)

-- it stands behind bytes that have none
behind_free : (x y before z : List ℕ) → GFree x → x ++ y ≡ before ++ (71 ∷ z) → Behind y z
unfolding all?
behind_free [] y before z p e = record { before = before; is = e }
behind_free (b ∷ x) y [] z p e =
    let is : b ≡ 71 = cc in
    absurd (T_not (eqb b 71) (and_left (not (eqb b 71)) _ p) (subst (λ (n : ℕ). T (eqb n 71)) (sym is) tt))
behind_free (b ∷ x) y (c ∷ before) z p e =
    let rest : x ++ y ≡ before ++ (71 ∷ z) = cc in
    behind_free x y before z (and_right (not (eqb b 71)) _ p) rest

-- and a line begins with it
record Stands (ds : List Edge) (z : List ℕ) : Type 0 where
  edge : Edge
  among : Memᴰ edge ds
  behind : List ℕ
  is : 71 ∷ z ≡ edge_line edge ++ behind

in_lines : (ds : List Edge) (before z : List ℕ) → concat_map edge_line ds ≡ before ++ (71 ∷ z) → Stands ds z
unfolding concat_map edge_line line
in_lines [] [] z e = absurd (cc)
in_lines [] (c ∷ before) z e = absurd (cc)
in_lines (d ∷ ds) [] z e = record { edge = d; among = Memᴰ.head refl; behind = concat_map edge_line ds; is = sym e }
in_lines (d ∷ ds) (c ∷ before) z e =
    let fields : List ℕ = concat_map (λ n. 44 ∷ decimal n) (d.consumer ∷ d.slot ∷ digit (not d.unordered) ∷ []) ++ (10 ∷ []) in
    let rest : fields ++ concat_map edge_line ds ≡ before ++ (71 ∷ z) = cc in
    let b = behind_free fields (concat_map edge_line ds) before z (free_fields (d.consumer ∷ d.slot ∷ digit (not d.unordered) ∷ [])) rest in
    let s = in_lines ds b.before z b.is in
    record { edge = s.edge; among = Memᴰ.tail s.among; behind = s.behind; is = s.is }

-- each of the edges has its line
lines_at : (ds : List Edge) (d : Edge) → Memᴰ d ds → (before : List ℕ) × (behind : List ℕ) × (concat_map edge_line ds ≡ before ++ edge_line d ++ behind)
unfolding concat_map
lines_at [] d m = absurd (Memᴰ.not-nil m)
lines_at (x ∷ ds) d m =
    elim (Memᴰ.cases_cons m) [
      | inl i ↦ ([], concat_map edge_line ds, ap (λ (y : Edge). edge_line y ++ concat_map edge_line ds) (sym i))
      | inr j ↦
          let (before, behind, e) = lines_at ds d j in (
            edge_line x ++ before,
            behind,
            ap (λ (l : List ℕ). edge_line x ++ l) e ∙ sym (append_assoc (edge_line x) (before ++ edge_line d) behind)
                ∙ ap (λ (l : List ℕ). l ++ behind) (sym (append_assoc (edge_line x) before (edge_line d))),
          )
    ]

module _ (r : Run) where
  -- a line in the right paper is one of an edge whose consumer was not removed
  pub consumer_kept : ((d : Edge) → Memᴰ d r.edges → ShortEdge d) → (d : Edge) → ShortEdge d → (before behind : List ℕ)
      → right_paper r ≡ before ++ edge_line d ++ behind → ¬ Memᴰ d.consumer r.removed
  unfolding right_paper examined_block edge_line line
  consumer_kept all_short d short before behind e m =
      let in_right = behind_free (steps_block r) (examined_block r) before _ (free_steps r) (e ∙ append_assoc before (edge_line d) behind) in
      let s = in_lines (select (examined r) r.edges) in_right.before _ in_right.is in
      let (there, kept) = was_examined r s.edge s.among in
      let same =
      read_once d s.edge (edge_line d ++ behind) (record { short = short; behind = behind; is = refl }) (record { short = all_short s.edge there; behind = s.behind; is = s.is }) in
      kept (subst (λ (n : ℕ). Memᴰ n r.removed) (ap (λ (l : EdgeLine). l.consumer) same) m)

  -- and the line of every such edge is there
  pub has_its_line : (d : Edge) → Memᴰ d r.edges → ¬ Memᴰ d.consumer r.removed
      → (before : List ℕ) × (behind : List ℕ) × (right_paper r ≡ before ++ edge_line d ++ behind)
  unfolding right_paper examined_block
  has_its_line d m n =
      let (before, behind, e) = lines_at (select (examined r) r.edges) d (is_examined r d m n) in (
        steps_block r ++ before,
        behind,
        ap (λ (l : List ℕ). steps_block r ++ l) e ∙ sym (append_assoc (steps_block r) (before ++ edge_line d) behind)
            ∙ ap (λ (l : List ℕ). l ++ behind) (sym (append_assoc (steps_block r) before (edge_line d))),
      )
