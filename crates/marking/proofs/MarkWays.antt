-- Each way through `mark`: where the P lines and the G lines stand in the output, and what is answered.
use mathlib.Core.Path.{◌≡◌, refl, sym, ap, ap₂, ◌∙◌}
use Prim.Native.Nat.{ℕ, ◌-◌, ◌≤◌}
use native.Mathlib.Omega.{arith}
use mathlib.Core.List.{List, ◌++◌}
use lib.ListN.{length, take, drop, length-append, length-drop}
use lib.Seq.{take-append-le, drop-append-le, take_all, drop_at}
use Rattle.plan.specs.declared.answer.Finished.{Finished}
use Rattle.plan.specs.Finished.{Called, called, run, finish, finished_answer, too_short}
use Rattle.plan.specs.Lists.{same}
use Rattle.plan.specs.Sheet.{Outcome, refused, done}
use Rattle.plan.specs.Text.{exprs_block, steps_block, edges_block, tally_line, printed, blocks, joined, end_of}
use Rattle.plan.specs.Visit.{Run}
use Rattle.plan.proofs.Outcomes.{same_value, passed}
use Rattle.storage.specs.declared.removed.Removed.{Removed}
use Rattle.edge_line.specs.EdgeLine.{LinesOf}
use Rattle.engine.specs.Call.{call, RemovedIn}
use Rattle.marking.specs.declared.answer.Mark.{Mark}
use Rattle.marking.specs.Unmarked.{unmarked_lines}
use Rattle.marking.specs.Marking.{mark_call, examined_block, verdict, right_paper, mark_of, marked, marked_run}
use Rattle.marking.proofs.ExaminedEdges.{short_edges, examined_are}

-- the bytes of a text from the place m up to the place n, as the code lends them
abbrev between : ℕ → ℕ → List ℕ → List ℕ
between m n text = take (n - m) (drop m text)

in_front : (m n : ℕ) (x y : List ℕ) → m ≤ n → n ≤ length x → between m n (x ++ y) ≡ between m n x
in_front m n x y h k =
    ap (take (n - m)) (drop-append-le m x y (omega (arith, h, k)))
    ∙ take-append-le (n - m) (drop m x) y (omega (arith, h, k, length-drop m x))

at_end : (m n : ℕ) (x y : List ℕ) → m ≡ length x → n ≡ length (x ++ y) → between m n (x ++ y) ≡ y
at_end m n x y p q = ap (take (n - m)) (drop_at x y m (sym p)) ∙ take_all (n - m) y (omega (arith, p, q, length-append x y))

-- What a call answered -----------------------------------------------------------------------------------------------------------

pub never_both : {f : Finished} {n : ℕ} → done f ≡ refused n → ⊥
never_both e = let z : ◌≡◌ {A = ℕ} 0 1 = cc in omega arith

-- the places of a finished answer are in their order, and within the output
pub record Ordered (f : Finished) (exit : List ℕ) : Type 0 where
  pub steps : f.exprs ≤ f.steps
  pub edges : f.steps ≤ f.edges
  pub within : f.edges ≤ length exit

module _ (f : Finished) (r : Run) (entry exit : List ℕ) (e : call (done f) exit ≡ called entry (done r)) where
  abbrev es : List ℕ
  es = exprs_block r

  abbrev ps : List ℕ
  ps = steps_block r

  abbrev gs : List ℕ
  gs = edges_block r

  abbrev behind : List ℕ
  behind = drop (length (printed r)) entry

  exit_is : exit ≡ es ++ ps ++ gs ++ tally_line r ++ behind
  unfolding called printed joined blocks
  exit_is = ap (λ (x : Called). x.output) e

  answer_is : f ≡ finished_answer r
  unfolding called
  answer_is = let p : done f ≡ done (finished_answer r) = ap (λ (x : Called). x.answer) e in cc

  exprs_end : f.exprs ≡ length es
  unfolding finished_answer end_of blocks joined
  exprs_end = ap (λ (x : Finished). x.exprs) answer_is

  steps_end : f.steps ≡ length (es ++ ps)
  unfolding finished_answer end_of blocks joined
  steps_end = ap (λ (x : Finished). x.steps) answer_is

  edges_end : f.edges ≡ length (es ++ ps ++ gs)
  unfolding finished_answer end_of blocks joined
  edges_end = ap (λ (x : Finished). x.edges) answer_is

  ordered : Ordered f exit
  ordered =
      let p = length-append es ps in
      let g = length-append (es ++ ps) gs in
      let t = length-append (es ++ ps ++ gs) (tally_line r) in
      let b = length-append (es ++ ps ++ gs ++ tally_line r) behind in
      record {
        steps = omega (arith, exprs_end, steps_end, p);
        edges = omega (arith, steps_end, edges_end, g);
        within = omega (arith, edges_end, ap length exit_is, t, b);
      }

  -- what the T line and the bytes behind it are does not matter
  lines_alone : (m n : ℕ) → m ≤ n → n ≤ f.edges → between m n exit ≡ between m n (es ++ ps ++ gs)
  lines_alone m n h k =
      let most : n ≤ length (es ++ ps ++ gs) = omega (arith, k, edges_end) in
      let t = length-append (es ++ ps ++ gs) (tally_line r) in
      ap (between m n) exit_is ∙ in_front m n (es ++ ps ++ gs ++ tally_line r) behind h (omega (arith, most, t))
      ∙ in_front m n (es ++ ps ++ gs) (tally_line r) h most

  steps_stand : between f.exprs f.steps exit ≡ ps
  steps_stand =
      lines_alone f.exprs f.steps ordered.steps ordered.edges
      ∙ in_front f.exprs f.steps (es ++ ps) gs ordered.steps (omega (arith, steps_end))
      ∙ at_end f.exprs f.steps es ps exprs_end steps_end

  edges_stand : between f.steps f.edges exit ≡ gs
  edges_stand =
      lines_alone f.steps f.edges ordered.edges (omega arith)
      ∙ at_end f.steps f.edges (es ++ ps) gs steps_end edges_end

  -- a mark given by these two blocks is given by the right paper, if m says which sorts were removed
  right_stands : (m : Removed) (paper : List ℕ) → unmarked_lines m r.edges ≡ examined_block r
      → verdict (same paper (between f.exprs f.steps exit ++ unmarked_lines m r.edges)) ≡ verdict (same paper (right_paper r))
  unfolding right_paper
  right_stands m paper i = ap₂ (λ (x y : List ℕ). verdict (same paper (x ++ y))) steps_stand i

-- By what the definition says ----------------------------------------------------------------------------------------------------

module _ (entry exit : List ℕ) where
  refused_by : (paper : List ℕ) (k : ℕ) (o : Outcome Run) → call (refused k) exit ≡ called entry o
      → mark_call (refused k) exit ≡ mark_call (mark_of paper o) (called entry o).output
  unfolding called mark_of
  refused_by paper k (refused n) e =
      let p : refused k ≡ refused n = ap (λ (x : Called). x.answer) e in
      let i : k ≡ n = cc in
      ap₂ (λ (x : ℕ) (y : List ℕ). mark_call (refused x) y) i (ap (λ (x : Called). x.output) e)
  refused_by paper k (done r) e = absurd (never_both (sym (ap (λ (x : Called). x.answer) e)))

  -- a finished call has a run
  finished_by : {P : Type 0} (f : Finished) (o : Outcome Run) → call (done f) exit ≡ called entry o
      → ((r : Run) → o ≡ done r → call (done f) exit ≡ called entry (done r) → P) → P
  unfolding called
  finished_by f (refused n) e h = absurd (never_both (ap (λ (x : Called). x.answer) e))
  finished_by f (done r) e h = h r refl e

module _ (s entry exit : List ℕ) where
  pub refused_mark : (paper : List ℕ) (k : ℕ) → call (refused k) exit ≡ finish s entry → mark_call (refused k) exit ≡ marked s paper entry
  unfolding finish marked
  refused_mark paper k e = refused_by entry exit paper k (marked_run s entry) e

  module _ (f : Finished) (e : call (done f) exit ≡ finish s entry) where
    pub places_ordered : Ordered f exit
    unfolding finish
    places_ordered = finished_by entry exit f (marked_run s entry) e (λ r o c. ordered f r entry exit c)

    module _ (m : Removed) (k : RemovedIn (run s) m) where
      abbrev whole : Run
      whole = k.whole

      -- the run that was made is the one that finishes s
      made : marked_run s entry ≡ done whole
      unfolding finish
      made = finished_by entry exit f (marked_run s entry) e (λ r o c. o ∙ ap done (same_value (sym (passed (too_short entry) 1 (run s) o).1 ∙ k.runs)))

      called_is : call (done f) exit ≡ called entry (done whole)
      unfolding finish
      called_is = e ∙ ap (called entry) made

      -- its G lines are lent
      pub lines_lent : LinesOf whole.edges (between f.steps f.edges exit)
      unfolding edges_block
      lines_lent = record { short = short_edges s whole k.runs; is = edges_stand f whole entry exit called_is }

      pub finished_mark : (paper : List ℕ) (a : Mark)
          → a ≡ verdict (same paper (between f.exprs f.steps exit ++ unmarked_lines m whole.edges)) → mark_call (done a) exit ≡ marked s paper entry
      unfolding finish marked mark_of called
      finished_mark paper a v =
          ap₂ mark_call
          (ap done (v ∙ right_stands f whole entry exit called_is m paper (examined_are m whole k.are (short_edges s whole k.runs))) ∙ ap (mark_of paper) (sym made))
          (ap (λ (x : Called). x.output) e)
