use native.Mathlib.Omega.{arith}
use mathlib.Core.Path.{◌∙◌}
use Rattle.std.proofs.Common.{rules, tests}
use Rattle.std.proofs.lemmas.Iterator.{YieldsList-from_range}
use Rattle.std.proofs.lemmas.Iterator.Search.{all_from_yields_List}
use Rattle.storage.specs.Stored.{stored_expr}
use Rattle.reading.specs.Marks.{field_marked}
use Rattle.reading.proofs.Refers.{exprs_all}
use Rattle.reading.proofs.fields.fields_marked.Goals as goal

pub returns : goal.returns
returns c =
    all_from_yields_List (λ i. field_marked _ (i, stored_expr c.args.exprs.bytes.now i)) _ _ _ c.all.ensures.ran (YieldsList-from_range 0 c.args.exprs.count c.args.exprs.count (cc) (omega arith)) (λ x b q z. search (rules, tests))
    ∙ exprs_all (field_marked _) _ _
