use mathlib.Core.Logic.{inl, inr}
use native.Mathlib.Omega.{arith}
use borrow.Author.Rules.{rules}
use Rattle.formula.proofs.Seeing.{longer_none, longer_some}
use Rattle.formula.proofs.seen.Seen.longer.Goals as goal

pub returns-in-Ok : goal.returns-in-Ok
returns-in-Ok c =
    let k = c.in-Ok.ensures in
    rw c.then.ensures (longer_some _ _ _ _ c.requires.number (search rules) (omega (arith, k.1)) (omega (arith, k.0, k.1)))

pub returns-in_default : goal.returns-in_default
returns-in_default c = longer_none _ _ _ c.requires.number (inl (search rules))

pub returns-in_default-2 : goal.returns-in_default-2
returns-in_default-2 c = let large = c.in_default.ensures in longer_none _ _ _ c.requires.number (inr (omega (arith, large)))
