-- The finished sheet of a sheet of bytes, and the call: its answer, and every byte of the output that is lent to it.
use Rattle.std.specs.Prelude.{ℕ, Bool, List, ◌++◌, ltb, length, drop}
use Rattle.plan.specs.declared.answer.Finished.{Finished}
use Rattle.plan.specs.Sheet.{Outcome, refused, done, ◌then◌, refuse◌when◌else◌, read}
use Rattle.plan.specs.Faults.{checked}
use Rattle.plan.specs.Visit.{Run}
use Rattle.plan.specs.Walks.{simplify_and_fetch_orderings}
use Rattle.plan.specs.Text.{printed, end_of}

-- the run that finishes a sheet, or the number that turns it back (2 to 11)
unfoldable pub run : List ℕ → Outcome Run
run s = read s then checked then simplify_and_fetch_orderings

unfoldable pub finished : List ℕ → Outcome (List ℕ)
finished s = run s then λ r. done (printed r)

-- The call ---------------------------------------------------------------------------------------------------------------

-- what a call answers, and the bytes of the output at its exit
pub record Called : Type 0 where
  pub answer : Outcome Finished
  pub output : List ℕ

-- where the blocks end in the output, and the tallies
unfoldable pub finished_answer : Run → Finished
finished_answer r =
    record {
      exprs = end_of 1 r;
      steps = end_of 2 r;
      edges = end_of 3 r;
      length = length (printed r);
      removed = length r.removed;
      visits = r.tally.visits;
      looks = r.tally.looks;
    }

-- a refusal alters no byte; a finished sheet stands at the front, and what stood behind it stays
unfoldable pub called : List ℕ → Outcome Run → Called
called output (refused n) = record { answer = refused n; output = output }
called output (done r) =
    record { answer = done (finished_answer r); output = printed r ++ drop (length (printed r)) output }

-- 1 --
abbrev pub too_short : List ℕ → Bool
too_short output = ltb (length output) 16384

unfoldable pub finish : List ℕ → List ℕ → Called
finish s output = called output (refuse 1 when too_short output else run s)

-- What an answer says, by document 01 ----------------------------------------------------------------------------------------

-- the refusal's number; 0 for none
abbrev pub answer_number : Outcome Finished → ℕ
answer_number (done f) = 0
answer_number (refused n) = n

-- the finished sheet's length; a refusal has length 0
abbrev pub answer_length : Outcome Finished → ℕ
answer_length (done f) = f.length
answer_length (refused n) = 0
