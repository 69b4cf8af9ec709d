use native.Mathlib.Omega.{arith}
use mathlib.Core.Path.{◌∙◌}
use Rattle.std.proofs.Common.{rules, tests}
use Rattle.std.proofs.lemmas.Iterator.{YieldsList-from_range}
use Rattle.std.proofs.lemmas.Iterator.Search.{all_from_yields_List}
use Rattle.storage.specs.Stored.{stored_step}
use Rattle.reading.specs.Uses.{id_once_by}
use Rattle.reading.proofs.Refers.{steps_all}
use Rattle.reading.proofs.uses.all_ids_once.Goals as goal

pub returns : goal.returns
returns c =
    all_from_yields_List (λ i. id_once_by _ (i, stored_step c.args.steps.now i)) _ _ _ c.all.ensures.ran (YieldsList-from_range 0 c.args.n c.args.n (cc) (omega arith)) (λ x b q z. search (rules, tests))
    ∙ steps_all (id_once_by _) c.args.steps.now c.args.n
