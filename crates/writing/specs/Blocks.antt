-- What the writer of a whole sheet leaves.
use Rattle.std.specs.Prelude.{◌≡◌, ℕ, List, ◌++◌, length, drop}
use Rattle.plan.specs.declared.answer.Finished.{Finished}
use Rattle.writing.specs.declared.finished.Tallies.{Tallies}

-- r has the figures of the T line too
pub record FiguresTold (t : Tallies) (r : Finished) : Type 0 where
  pub removed : r.removed ≡ t.removed
  pub visits : r.visits ≡ t.tally.visits
  pub looks : r.looks ≡ t.tally.looks

-- The blocks e, p, g and t were written over the front of a buffer, and r says where they end
pub record SheetWrote (e p g t entry exit : List ℕ) (r : Finished) : Type 0 where
  pub bytes : exit ≡ (e ++ p ++ g ++ t) ++ drop (length (e ++ p ++ g ++ t)) entry
  pub exprs : r.exprs ≡ length e
  pub steps : r.steps ≡ length (e ++ p)
  pub edges : r.edges ≡ length (e ++ p ++ g)
  pub all : r.length ≡ length (e ++ p ++ g ++ t)
