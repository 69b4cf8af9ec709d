-- Marking: a candidate's paper against the P lines of the finished sheet and those of its G lines that are examined, and every byte of
-- the output that is lent.
use Rattle.std.specs.Prelude.{◌≡◌, ℕ, ◌≤◌, Bool, true, false, not, eqb, if◌then◌else◌, Result, Ok, Err}
use mathlib.Core.List.{List, [], ◌∷◌, ◌++◌, Memᴰ}
use Rattle.plan.specs.Lists.{same, among, concat_map, digit, select}
use Rattle.plan.specs.Sheet.{Sheet, Outcome, refused, done, refuse◌when◌else◌}
use Rattle.plan.specs.Graph.{Edge, graph}
use Rattle.plan.specs.Finished.{run, finish, too_short}
use Rattle.plan.specs.Text.{line, edge_line, steps_block, edges_block}
use Rattle.plan.specs.Visit.{Run}
use Rattle.plan.specs.Conditions.{refusal_numbers}
use Rattle.claims.specs.Limits.{ShortEdge}
use Rattle.claims.specs.WellFormed.{Accepted}
use Rattle.writing.specs.Refusal.{refusal_line}
use Rattle.marking.specs.declared.answer.Mark.{Mark}

-- what marking answers, and the bytes of the output at its exit
pub record MarkCalled : Type 0 where
  pub answer : Outcome Mark
  pub output : List ℕ

abbrev pub mark_call : Outcome Mark → List ℕ → MarkCalled
mark_call r output = record { answer = r; output = output }

-- an edge is examined unless its consumer was removed, by either walk: it belongs to no step of the finished plan then
abbrev pub examined : Run → Edge → Bool
examined r d = not (among d.consumer r.removed)

unfoldable pub examined_block : Run → List ℕ
examined_block r = concat_map edge_line (select (examined r) r.edges)

-- the one right paper: all P lines of the finished sheet, a removed sort's among them, then the G lines of the edges that are examined
unfoldable pub right_paper : Run → List ℕ
right_paper r = steps_block r ++ examined_block r

unfoldable pub verdict : Bool → Mark
verdict true = Mark.Right
verdict false = Mark.Wrong

-- right exactly if the paper's bytes are those of the right paper
unfoldable pub mark_of : List ℕ → Outcome Run → Outcome Mark
mark_of paper (refused n) = refused n
mark_of paper (done whole) = done (verdict (same paper (right_paper whole)))

-- the run that finishes s, unless the output is too short for it
abbrev pub marked_run : List ℕ → List ℕ → Outcome Run
marked_run s output = refuse 1 when too_short output else run s

-- on a sheet s, a paper and an output lent; the output is as the call leaves it
unfoldable pub marked : List ℕ → List ℕ → List ℕ → MarkCalled
marked s paper output =
    record {
      answer = mark_of paper (marked_run s output);
      output = (finish s output).output;
    }

-- What an answer says, by document 01 ----------------------------------------------------------------------------------------

-- the line that is printed: `right`, `wrong`, or `R,` and the number; and byte 10
unfoldable pub mark_line : Outcome Mark → List ℕ
mark_line (done Mark.Right) = 114 ∷ 105 ∷ 103 ∷ 104 ∷ 116 ∷ 10 ∷ []
mark_line (done Mark.Wrong) = 119 ∷ 114 ∷ 111 ∷ 110 ∷ 103 ∷ 10 ∷ []
mark_line (refused n) = refusal_line n

-- an answer of the code whose refusal is told by its number
abbrev pub outcome_by_number : Result Mark ℕ → Outcome Mark
outcome_by_number (Ok m) = done m
outcome_by_number (Err n) = refused n

-- the number that C is told: 0 for right, 255 for wrong, else the refusal's
unfoldable pub mark_answer : Outcome Mark → ℕ
mark_answer (done Mark.Right) = 0
mark_answer (done Mark.Wrong) = 255
mark_answer (refused n) = n

-- a mark that its number tells from every other such mark
abbrev pub Tellable : Outcome Mark → Type 0
Tellable (done Mark.Right) = Unit {0}
Tellable (done Mark.Wrong) = Unit {0}
Tellable (refused n) = (1 ≤ n) × (n ≤ 254)

-- A paper's two blocks, whatever its bytes are: what stands before its first G (byte 71), and what stands from there on ----------

unfoldable pub before_G : List ℕ → List ℕ
before_G [] = []
before_G (b ∷ bs) = if eqb b 71 then [] else b ∷ before_G bs

unfoldable pub from_G : List ℕ → List ℕ
from_G [] = []
from_G (b ∷ bs) = if eqb b 71 then b ∷ bs else from_G bs

-- an edge's line stands in a paper, ordered or not
pub record HasLine (d : Edge) (paper : List ℕ) : Type 0 where
  pub before : List ℕ
  pub behind : List ℕ
  pub ordered : Bool
  pub is : paper ≡ before ++ line 71 (d.consumer ∷ d.slot ∷ digit ordered ∷ []) ++ behind

-- Laws, of every sheet s, paper and output -----------------------------------------------------------------------------------------

-- on a sheet that is finished
pub record OfFinished (s paper output : List ℕ) (whole : Run) : Type 0 where
  pub right : paper ≡ right_paper whole → (marked s paper output).answer ≡ done Mark.Right
  pub wrong : ¬ (paper ≡ right_paper whole) → (marked s paper output).answer ≡ done Mark.Wrong
  -- right exactly if both blocks are the sheet's: neither makes up for the other
  pub both_right : before_G paper ≡ steps_block whole → from_G paper ≡ examined_block whole → (marked s paper output).answer ≡ done Mark.Right
  pub other_steps : ¬ (before_G paper ≡ steps_block whole) → (marked s paper output).answer ≡ done Mark.Wrong
  pub other_edges : ¬ (from_G paper ≡ examined_block whole) → (marked s paper output).answer ≡ done Mark.Wrong
  -- a paper that has the G line of an edge into a removed sort is wrong, whichever of the slots and of the orders stand on it
  pub removed_edge : (d : Edge) → ShortEdge d → Memᴰ d.consumer whole.removed → (before behind : List ℕ) → paper ≡ before ++ edge_line d ++ behind
      → (marked s paper output).answer ≡ done Mark.Wrong
  -- a right paper has the line of every other edge of the plan as it was sent: of the edge that leaves a removed sort too
  pub other_edge : (sh : Sheet) → Accepted s sh → (d : Edge) → Memᴰ d (graph sh.steps).1 → ¬ Memᴰ d.consumer whole.removed
      → (marked s paper output).answer ≡ done Mark.Right → HasLine d paper
  -- where no sort was removed, all G lines are examined
  pub none_removed : whole.removed ≡ [] → (marked s paper output).answer ≡ done (verdict (same paper (steps_block whole ++ edges_block whole)))
  -- G lines alone are never right, nor are P lines alone, whatever numbers stand on them; nor is an empty paper
  pub edges_alone : (rows : List (List ℕ)) → paper ≡ concat_map (line 71) rows → (marked s paper output).answer ≡ done Mark.Wrong
  pub steps_alone : (rows : List (List ℕ)) → paper ≡ concat_map (line 80) rows → (marked s paper output).answer ≡ done Mark.Wrong
  pub empty_wrong : paper ≡ [] → (marked s paper output).answer ≡ done Mark.Wrong

pub record MarkingKept (s paper output : List ℕ) : Type 0 where
  pub of_finished : (whole : Run) → marked_run s output ≡ done whole → OfFinished s paper output whole
  -- no two papers are right
  pub one_right : (other : List ℕ) → (marked s paper output).answer ≡ done Mark.Right → (marked s other output).answer ≡ done Mark.Right → paper ≡ other
  -- a refusal has one of the call's numbers
  pub numbers : (n : ℕ) → (marked s paper output).answer ≡ refused n → Memᴰ n refusal_numbers
  -- what C is told settles the answer
  pub tellable : Tellable (marked s paper output).answer
  pub told : (m : Outcome Mark) → Tellable m → mark_answer (marked s paper output).answer ≡ mark_answer m → (marked s paper output).answer ≡ m
