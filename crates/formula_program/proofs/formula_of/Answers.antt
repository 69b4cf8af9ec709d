use Rattle.std.proofs.Common.{◌≡◌, ◌≢◌, ℕ, List, ◌++◌, Bor, Option, None, Some, MatchOption, ap, ◌∙◌, refl}
use Rattle.std.proofs.lemmas.Bool.Decides.{Decides-eqb}
use Rattle.std.proofs.lemmas.Slice.Eq.{strip_suffix_is}
use Rattle.std.specs.Option.{unwrap_or}
use Rattle.formula_program.proofs.formula_of.Goals as goal

-- what does not end in p is left as it is
left : (s p : List ℕ) (r : Option (Bor (List ℕ))) (whole : Bor (List ℕ)) → whole.now ≡ s
    → MatchOption r ((front : List ℕ) → s ≢ front ++ p) (λ x. s ≡ x.now ++ p)
    → ((w : List ℕ) → s ≢ w ++ p) → (unwrap_or r whole).now ≡ s
left s p None whole same stripped h = same
left s p (Some x) whole same stripped h = absurd (h x.now stripped)

pub returns-clause-unended : goal.returns-clause-unended
returns-clause-unended c h =
    ap (λ x. x.now) c.unwrap_or.ensures
    ∙ left _ _ _ _ refl (strip_suffix_is Decides-eqb _ _ _ c.strip_suffix.ensures.cases) h
