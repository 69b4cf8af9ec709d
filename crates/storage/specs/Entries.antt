-- A list of at most eight lines in an array of eight, the first `count` of its nodes.
use Rattle.std.specs.Prelude.{◌≡◌, ℕ, ◌≤◌, List, length, take, drop}
use Rattle.storage.specs.declared.entries.Entries.{Entries}

abbrev pub list_of : Entries → List ℕ
list_of e = take e.count e.nodes

-- it has as many as it says
pub record Shaped (e : Entries) : Type 0 where
  pub few : e.count ≤ 8
  pub room : length e.nodes ≡ 8

-- out of the eight bytes from b on
abbrev pub entries_at : List ℕ → ℕ → ℕ → Entries
entries_at bytes b count = record { nodes = take 8 (drop b bytes); count = count }
