-- What holds of marking, whatever the sheet, the paper and the output are.
use mathlib.Core.Path.{◌≡◌, refl, sym, ap, ap₂, ◌∙◌, subst}
use mathlib.Core.Logic.{◌⊎◌, inl, inr}
use Prim.Native.Nat.{ℕ, ◌≤◌}
use native.Mathlib.Omega.{arith}
use mathlib.Core.Bool.{Bool, true, false, not}
use mathlib.Core.List.Memᴰ
use mathlib.Core.List.{List, [], ◌∷◌, ◌++◌, Memᴰ}
use lib.Dec.{T}
use lib.ListN.{length}
use Rattle.plan.specs.Conditions.{refusal_numbers}
use Rattle.plan.specs.Finished.{run, finish, called, too_short}
use Rattle.plan.specs.Graph.{Edge, graph}
use Rattle.plan.specs.Lists.{same, concat_map, digit, select}
use Rattle.plan.specs.Sheet.{Sheet, Outcome, refused, done}
use Rattle.plan.specs.Text.{line, step_line, edge_line, steps_block, edges_block}
use Rattle.plan.specs.Visit.{Run}
use Rattle.plan.proofs.ListLaws.{same→eq}
use Rattle.plan.proofs.Outcomes.{passed}
use Rattle.claims.specs.Demand1.{FinishedCall, RefusedCall}
use Rattle.claims.specs.Limits.{ShortEdge}
use Rattle.claims.specs.WellFormed.{Accepted}
use Rattle.claims.proofs.Demand1.{demand_1, number_range}
use Rattle.claims.proofs.EdgePlaces.{some_consumer_stays, edge_stays}
use Rattle.claims.proofs.Ends.{accepted_by}
use Rattle.marking.specs.declared.answer.Mark.{Mark}
use Rattle.marking.specs.Marking.{examined, examined_block, right_paper, HasLine, verdict, mark_of, marked, marked_run, mark_answer, Tellable, before_G, from_G, OfFinished, MarkingKept}
use Rattle.marking.proofs.Comparison.{same_if_equal, not_same}
use Rattle.marking.proofs.ExaminedEdges.{short_edges, is_examined, all_examined}
use Rattle.marking.proofs.LinesInPaper.{consumer_kept, has_its_line}
use Rattle.marking.proofs.HasStep.{has_step}
use Rattle.marking.proofs.MarkWays.{never_both}
use Rattle.marking.proofs.PaperBlocks.{both_blocks, before_lines, from_steps, some_byte, right_before, right_from}

-- what is right passed the test
if_right : (b : Bool) → done (verdict b) ≡ done Mark.Right → T b
unfolding verdict
if_right true e = tt
if_right false e = let z : ◌≡◌ {A = ℕ} 0 1 = cc in absurd (omega arith)

-- A finished sheet ---------------------------------------------------------------------------------------------------------------

module _ (s output : List ℕ) (w : Run) (e : marked_run s output ≡ done w) where
  finishes : run s ≡ done w
  finishes = (passed (too_short output) 1 (run s) e).1

  has_p_line : ¬ ([] ≡ steps_block w)
  unfolding steps_block step_line
  has_p_line = some_byte _ 80 w.steps (has_step s w finishes)

  all_short : (d : Edge) → Memᴰ d w.edges → ShortEdge d
  all_short = short_edges s w finishes

  -- the edge into a Sink is examined
  has_g_line : ¬ ([] ≡ examined_block w)
  unfolding examined_block edge_line
  has_g_line p =
      let (sh, accepted) = accepted_by s w finishes in
      let (d, m, n) = some_consumer_stays s w finishes sh accepted in
      some_byte _ 71 (select (examined w) w.edges) (there (select (examined w) w.edges) d (is_examined w d m n)) p
    where
      there : (l : List Edge) (d : Edge) → Memᴰ d l → 1 ≤ length l
      there [] d m = absurd (Memᴰ.not-nil m)
      there (x ∷ l) d m = omega arith

  module _ (paper : List ℕ) where
    answer_is : (marked s paper output).answer ≡ done (verdict (same paper (right_paper w)))
    unfolding marked mark_of
    answer_is = ap (mark_of paper) e

    is_right : paper ≡ right_paper w → (marked s paper output).answer ≡ done Mark.Right
    unfolding verdict
    is_right p = answer_is ∙ ap (λ (b : Bool). done (verdict b)) (same_if_equal paper (right_paper w) p)

    is_wrong : ¬ (paper ≡ right_paper w) → (marked s paper output).answer ≡ done Mark.Wrong
    unfolding verdict
    is_wrong p = answer_is ∙ ap (λ (b : Bool). done (verdict b)) (not_same paper (right_paper w) p)

    paper_right : (marked s paper output).answer ≡ done Mark.Right → paper ≡ right_paper w
    paper_right p = same→eq paper (right_paper w) (if_right (same paper (right_paper w)) (sym answer_is ∙ p))

    both : before_G paper ≡ steps_block w → from_G paper ≡ examined_block w → paper ≡ right_paper w
    unfolding right_paper
    both p g = sym (both_blocks paper) ∙ ap₂ (λ (x y : List ℕ). x ++ y) p g

    other_steps : ¬ (before_G paper ≡ steps_block w) → (marked s paper output).answer ≡ done Mark.Wrong
    other_steps h = is_wrong (λ p. h (ap before_G p ∙ right_before w))

    other_edges : ¬ (from_G paper ≡ examined_block w) → (marked s paper output).answer ≡ done Mark.Wrong
    other_edges h = is_wrong (λ p. h (ap from_G p ∙ right_from w))

    removed_edge : (d : Edge) → ShortEdge d → Memᴰ d.consumer w.removed → (before behind : List ℕ) → paper ≡ before ++ edge_line d ++ behind
        → (marked s paper output).answer ≡ done Mark.Wrong
    removed_edge d short m before behind e = is_wrong (λ p. consumer_kept w all_short d short before behind (sym p ∙ e) m)

    other_edge : (sh : Sheet) → Accepted s sh → (d : Edge) → Memᴰ d (graph sh.steps).1 → ¬ Memᴰ d.consumer w.removed
        → (marked s paper output).answer ≡ done Mark.Right → HasLine d paper
    unfolding edge_line
    other_edge sh accepted d m n right =
        let (d', i, same) = edge_stays s w finishes sh accepted d m in
        let (before, behind, e) = has_its_line w d' i (λ k. n (subst (λ (x : ℕ). Memᴰ x w.removed) same.consumer k)) in
        record {
          before = before;
          behind = behind;
          ordered = not d'.unordered;
          is =
              paper_right right ∙ e
              ∙ ap₂ (λ (c k : ℕ). before ++ line 71 (c ∷ k ∷ digit (not d'.unordered) ∷ []) ++ behind) same.consumer same.slot;
        }

    none_removed : w.removed ≡ [] → (marked s paper output).answer ≡ done (verdict (same paper (steps_block w ++ edges_block w)))
    unfolding right_paper edges_block
    none_removed e = answer_is ∙ ap (λ (l : List ℕ). done (verdict (same paper (steps_block w ++ l)))) (all_examined w e)

    edges_alone : (rows : List (List ℕ)) → paper ≡ concat_map (line 71) rows → (marked s paper output).answer ≡ done Mark.Wrong
    edges_alone rows p = other_steps (λ q. has_p_line (sym (ap before_G p ∙ before_lines (λ x. x) rows) ∙ q))

    steps_alone : (rows : List (List ℕ)) → paper ≡ concat_map (line 80) rows → (marked s paper output).answer ≡ done Mark.Wrong
    steps_alone rows p = other_edges (λ q. has_g_line (sym (ap from_G p ∙ from_steps (λ x. x) rows) ∙ q))

    empty : paper ≡ [] → (marked s paper output).answer ≡ done Mark.Wrong
    unfolding concat_map
    empty p = edges_alone [] p

    of_finished : OfFinished s paper output w
    of_finished =
        record {
          right = is_right;
          wrong = is_wrong;
          both_right = λ p g. is_right (both p g);
          other_steps = other_steps;
          other_edges = other_edges;
          removed_edge = removed_edge;
          other_edge = other_edge;
          none_removed = none_removed;
          edges_alone = edges_alone;
          steps_alone = steps_alone;
          empty_wrong = empty;
        }

-- What an answer says of the run -------------------------------------------------------------------------------------------------

one_right : (paper other : List ℕ) (o : Outcome Run) → mark_of paper o ≡ done Mark.Right → mark_of other o ≡ done Mark.Right → paper ≡ other
unfolding mark_of
one_right paper other (refused n) p q = let z : ◌≡◌ {A = ℕ} 0 1 = cc in absurd (omega arith)
one_right paper other (done w) p q =
    let key = right_paper w in
    same→eq paper key (if_right (same paper key) p) ∙ sym (same→eq other key (if_right (same other key) q))

run_refused : (paper : List ℕ) (o : Outcome Run) (n : ℕ) → mark_of paper o ≡ refused n → o ≡ refused n
unfolding mark_of
run_refused paper (refused m) n e = let i : m ≡ n = cc in ap refused i
run_refused paper (done w) n e = let z : ◌≡◌ {A = ℕ} 0 1 = cc in absurd (omega arith)

-- The numbers --------------------------------------------------------------------------------------------------------------------

-- one mark to a number
told_apart : (a b : Outcome Mark) → Tellable a → Tellable b → mark_answer a ≡ mark_answer b → a ≡ b
unfolding mark_answer
told_apart (done Mark.Right) (done Mark.Right) x y e = refl
told_apart (done Mark.Right) (done Mark.Wrong) x y e = absurd (omega arith)
told_apart (done Mark.Right) (refused n) x y e = absurd (omega arith)
told_apart (done Mark.Wrong) (done Mark.Right) x y e = absurd (omega arith)
told_apart (done Mark.Wrong) (done Mark.Wrong) x y e = refl
told_apart (done Mark.Wrong) (refused n) x y e = absurd (omega arith)
told_apart (refused m) (done Mark.Right) x y e = absurd (omega arith)
told_apart (refused m) (done Mark.Wrong) x y e = absurd (omega arith)
told_apart (refused m) (refused n) x y e = ap refused e

few_tellable : (a : Outcome Mark) → ((n : ℕ) → a ≡ refused n → Memᴰ n refusal_numbers) → Tellable a
few_tellable (done Mark.Right) h = tt
few_tellable (done Mark.Wrong) h = tt
few_tellable (refused n) h = let k = number_range n (h n refl) in (k.0, omega (arith, k.1))

module _ (s output : List ℕ) where
  run_listed : (n : ℕ) → marked_run s output ≡ refused n → Memᴰ n refusal_numbers
  unfolding finish called
  run_listed n e = by (demand_1 s output).either
    where
      answered : (finish s output).answer ≡ refused n
      answered = ap (λ (o : Outcome Run). (called output o).answer) e

      by : FinishedCall s output ⊎ RefusedCall s output → Memᴰ n refusal_numbers
      by (inl k) = absurd (never_both (sym k.answer ∙ answered))
      by (inr k) =
          let p = sym k.answer ∙ answered in
          let i : k.number ≡ n = cc in
          subst (λ j. Memᴰ j refusal_numbers) i k.listed

  pub marking : (paper : List ℕ) → MarkingKept s paper output
  unfolding marked
  marking paper =
      let listed : (n : ℕ) → (marked s paper output).answer ≡ refused n → Memᴰ n refusal_numbers =
      λ n e. run_listed n (run_refused paper (marked_run s output) n e) in
      let tellable = few_tellable (marked s paper output).answer listed in
      record {
        of_finished = λ w e. of_finished s output w e paper;
        one_right = λ other p q. one_right paper other (marked_run s output) p q;
        numbers = listed;
        tellable = tellable;
        told = λ m t e. told_apart (marked s paper output).answer m tellable t e;
      }
