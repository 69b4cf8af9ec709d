use native.Mathlib.Omega.{arith}
use mathlib.Core.Path.{◌∙◌}
use lib.Dec.{ltb}
use Rattle.std.proofs.Common.{rules, tests}
use Rattle.std.proofs.lemmas.Iterator.{YieldsList-from_range}
use Rattle.std.proofs.lemmas.Iterator.Search.{all_from_yields_List}
use Rattle.plan.specs.Lists.{all?}
use Rattle.storage.specs.Stored.{stored_step}
use Rattle.reading.specs.Held.{both}
use Rattle.reading.proofs.Refers.{steps_all}
use Rattle.reading.proofs.references.all_exprs_there.Goals as goal

pub returns : goal.returns
returns c =
    all_from_yields_List (λ i. all? (λ q. ltb q c.args.count) (both (stored_step c.args.steps.bytes.now i))) _ _ _ c.all.ensures.ran (YieldsList-from_range 0 c.args.steps.count c.args.steps.count (cc) (omega arith)) (λ x b q k. search (rules, tests))
    ∙ steps_all (λ (i, s). all? (λ q. ltb q c.args.count) (both s)) _ _
