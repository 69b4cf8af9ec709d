-- The tally of visits and looks: one visit more, one look more.
use Rattle.std.specs.Prelude.{ℕ, ◌+◌}
use Rattle.plan.specs.declared.tally.Tally.{Tally}

abbrev pub visit_more : Tally → Tally
visit_more t = record { visits = t.visits + 1; looks = t.looks }

abbrev pub look_more : Tally → Tally
look_more t = record { visits = t.visits; looks = t.looks + 1 }

-- the looks of a visit
abbrev pub looks_more : ℕ → Tally → Tally
looks_more k t = record { visits = t.visits; looks = t.looks + k }
