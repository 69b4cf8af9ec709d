use native.Mathlib.Omega.{arith}
use mathlib.Core.Path.{◌∙◌}
use Rattle.std.proofs.Common.{rules, tests}
use Rattle.std.proofs.lemmas.Iterator.{YieldsList-from_range}
use Rattle.std.proofs.lemmas.Iterator.Search.{all_from_yields_List}
use Rattle.plan.specs.Faults.{children_earlier}
use Rattle.storage.specs.Stored.{stored_expr}
use Rattle.reading.proofs.Refers.{exprs_all}
use Rattle.reading.proofs.references.all_children_earlier.Goals as goal

pub returns : goal.returns
returns c =
    all_from_yields_List (λ i. children_earlier (i, stored_expr c.args.exprs.bytes.now i)) _ _ _ c.all.ensures.ran (YieldsList-from_range 0 c.args.exprs.count c.args.exprs.count (cc) (omega arith)) (λ x b q k. search (rules, tests))
    ∙ exprs_all children_earlier _ _
