-- A record's children in the order of the looks.
use Rattle.std.specs.Prelude.{ℕ, ◌+◌, Bool, eqb, get_or, if◌then◌else◌}
use Rattle.storage.specs.declared.entries.Entries.{Entries}

-- where the child stands that the i-th look goes to: in their order, or the first child last
abbrev pub slot : Bool → ℕ → ℕ → ℕ
slot turned count i = if turned then (if eqb (i + 1) count then 0 else i + 1) else i

abbrev pub child_at : Entries → Bool → ℕ → ℕ
child_at e turned i = get_or e.nodes (slot turned e.count i) 0
