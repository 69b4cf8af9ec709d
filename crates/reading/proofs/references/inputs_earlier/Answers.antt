use mathlib.Core.Path.{ap, ◌∙◌}
use Rattle.std.proofs.Common.{rules, tests}
use Rattle.std.proofs.lemmas.Iterator.{YieldsList-from_slice}
use Rattle.std.proofs.lemmas.Iterator.Search.{all_from_yields_List}
use Rattle.plan.specs.Lists.{all?}
use Rattle.reading.specs.Held.{before_no_sink}
use Rattle.reading.proofs.Scans.{all_is}
use Rattle.reading.proofs.references.inputs_earlier.Goals as goal

pub returns : goal.returns
returns c =
    all_from_yields_List (before_no_sink c.args.steps.now c.args.i) _ _ _ c.all.ensures.ran (YieldsList-from_slice c.inputs_of.result.now cc) (λ x b q k. search (rules, tests))
    ∙ all_is (before_no_sink c.args.steps.now c.args.i) c.inputs_of.result.now ∙ ap (all? (before_no_sink c.args.steps.now c.args.i)) c.inputs_of.ensures
