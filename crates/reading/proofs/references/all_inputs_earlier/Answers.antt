use native.Mathlib.Omega.{arith}
use mathlib.Core.Path.{◌∙◌}
use Rattle.std.proofs.Common.{rules, tests}
use Rattle.std.proofs.lemmas.Iterator.{YieldsList-from_range}
use Rattle.std.proofs.lemmas.Iterator.Search.{all_from_yields_List}
use Rattle.plan.specs.Lists.{all?}
use Rattle.storage.specs.Stored.{stored_step}
use Rattle.reading.specs.Held.{before_no_sink}
use Rattle.reading.proofs.Refers.{inputs_all}
use Rattle.reading.proofs.references.all_inputs_earlier.Goals as goal

pub returns : goal.returns
returns c =
    λ es.
    all_from_yields_List (λ i. all? (before_no_sink c.args.steps.bytes.now i) (stored_step c.args.steps.bytes.now i).inputs) _ _ _ c.all.ensures.ran (YieldsList-from_range 0 c.args.steps.count c.args.steps.count (cc) (omega arith)) (λ x b q k. search (rules, tests))
    ∙ inputs_all es _ _
