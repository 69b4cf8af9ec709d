use mathlib.Core.Path.{sym, ◌∙◌}
use Rattle.reading.specs.Uses.{named_each}
use Rattle.reading.proofs.uses.count_id.Goals as goal

pub returns-then-is_kind : goal.returns-then-is_kind
unfolding named_each
returns-then-is_kind c = rw (sym c.is_kind.ensures ∙ c.if-is_kind.true, ← c.cache_id.ensures) c.count.ensures

pub returns-else-is_kind : goal.returns-else-is_kind
unfolding named_each
returns-else-is_kind c = rw (sym c.is_kind.ensures ∙ c.if-is_kind.false)
