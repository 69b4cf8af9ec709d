use Rattle.std.proofs.Common.{◌≡◌, ◌∙◌, get_or, rules, tests}
use Rattle.std.proofs.lemmas.List.{get_or_default}
use Rattle.std.proofs.lemmas.Iterator.{YieldsList-from_slice}
use Rattle.std.proofs.lemmas.Iterator.Adapters.{serves_from_places}
use Rattle.std.proofs.lemmas.Iterator.Search.{all_from_yields_List}
use Rattle.storage.specs.Entries.{list_of}
use Rattle.expr.specs.State.{preserves}
use Rattle.expr.proofs.Records.{all_is}
use Rattle.expr.proofs.look.length_preserving.Goals as goal

pub all-requires-clause-callable : goal.all-requires-clause-callable
all-requires-clause-callable c =
    serves_from_places (YieldsList-from_slice (list_of c.args.children) cc) (λ x q k. search rules)
    (λ x k h at. let x_is : x.now ≡ get_or (list_of c.args.children) k 0 = at ∙ get_or_default _ k _ 0 h in
    (λ _ _ _ _ _ _. rw x_is (c.requires.1.child k h), λ _ _ _ _ _ _ _ _ _. rw x_is (c.requires.1.held k h)))

pub returns : goal.returns
returns c =
    rw (← all_is)
    (all_from_yields_List (preserves c.args.arena.now.records.bytes c.args.arena.now.lines.holds) _ _ _ c.all.ensures.ran (YieldsList-from_slice (list_of c.args.children) cc) (λ x b q k. search (rules, tests)))
