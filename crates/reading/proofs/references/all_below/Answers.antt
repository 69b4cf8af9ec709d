use mathlib.Core.Path.{◌∙◌}
use lib.Dec.{ltb}
use Rattle.std.proofs.Common.{rules, tests}
use Rattle.std.proofs.lemmas.Iterator.{YieldsList-from_slice}
use Rattle.std.proofs.lemmas.Iterator.Search.{all_from_yields_List}
use Rattle.reading.proofs.Scans.{all_is}
use Rattle.reading.proofs.references.all_below.Goals as goal

pub returns : goal.returns
returns c =
    all_from_yields_List (λ q. ltb q c.args.limit) _ _ _ c.all.ensures.ran (YieldsList-from_slice c.args.numbers.now cc) (λ x b q k. search (rules, tests))
    ∙ all_is (λ q. ltb q c.args.limit) c.args.numbers.now
