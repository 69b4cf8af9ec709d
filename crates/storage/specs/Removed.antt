-- The sorts that a run removed, as the code holds them.
use Rattle.std.specs.Prelude.{◌≡◌, ℕ, ◌+◌, ◌<◌, true, false, List, length, get_or, set}
use Rattle.plan.specs.Lists.{among}
use Rattle.storage.specs.declared.removed.Removed.{Removed}

-- m says that the sorts `gone` were removed: each is marked and no other step is, and m has their number
pub record RemovedAre (gone : List ℕ) (m : Removed) : Type 0 where
  pub marks : (n : ℕ) → n < 32 → get_or m.marks n false ≡ among n gone
  pub count : m.count ≡ length gone

-- step n is noted, m before and m' after: it is marked, and counted
pub record OneMore (n : ℕ) (m m' : Removed) : Type 0 where
  pub marks : m'.marks ≡ set m.marks n true
  pub count : m'.count ≡ m.count + 1
