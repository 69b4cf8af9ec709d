use Rattle.std.specs.Prelude.{◌≡◌, refl, ℕ, Bool, true, false, ltb}
use Rattle.std.specs.Result.{result_unwrap_or}
use Rattle.std.proofs.lemmas.Bool.{ltb-false}
use Rattle.plan.specs.declared.aexpr.AExpr.{AExpr}
use Rattle.plan.specs.Kinds.{aexprs, aexpr, in_table}
use Rattle.plan.proofs.Tables.{past}
use Rattle.plan.proofs.aexpr.AExpr.of_number.Goals as goal

-- within the table, and past its end
or_first : (k : ℕ) (b : Bool) → ltb k 25 ≡ b → result_unwrap_or (in_table 25 aexpr k) AExpr.Column ≡ aexpr k
or_first k true e = rw e
or_first k false e = rw e (past aexprs AExpr.Column (ltb-false k 25 e))

pub returns : goal.returns
returns c = rw (c.unwrap_or.ensures, c.try_from.ensures) (or_first c.args.k _ refl)
