use mathlib.Core.Path.{refl, sym}
use native.Mathlib.Omega.{arith}
use lib.Seq.{length-take-le}
use Rattle.std.proofs.lemmas.Result.{err_from_is_err_and}
use Rattle.formula.proofs.LetThrough.{few_wait}
use Rattle.formula.proofs.Languages.{promised, short_call, long_call, turned_call, written_call}
use Rattle.formula.proofs.convert.Goals as goal

pub returns-then-out-lt16384 : goal.returns-then-out-lt16384
returns-then-out-lt16384 c = let p = promised _ _ _ _ (short_call _ _ c.if-out-lt16384.true) in record { out_after = p.out_after; language = p.language; on_a_sheet = p.on_a_sheet; result_in_bounds = p.result_in_bounds }

pub returns-then-formula-gt16384 : goal.returns-then-formula-gt16384
returns-then-formula-gt16384 c = let p = promised _ _ _ _ (long_call _ _ c.if-out-lt16384.false c.if-formula-gt16384.true) in record { out_after = p.out_after; language = p.language; on_a_sheet = p.on_a_sheet; result_in_bounds = p.result_in_bounds }

pub returns-in_err-count : goal.returns-in_err-count
returns-in_err-count c =
    let q = err_from_is_err_and c.from_residual.result c.from_residual.ensures.1 in
    let p = promised _ _ _ _ (turned_call c.args.formula.now c.args.out.now c.if-out-lt16384.false c.if-formula-gt16384.false _ c.in_err-count.ensures.number) in
    rw (q.1, q.2) (record { out_after = p.out_after; language = p.language; on_a_sheet = p.on_a_sheet; result_in_bounds = p.result_in_bounds })

pub decide-requires-clause-places : goal.decide-requires-clause-places
decide-requires-clause-places c = refl

pub write-requires-clause-short : goal.write-requires-clause-short
write-requires-clause-short c =
    let k = c.in_ok-count.ensures in
    omega (arith, k.few, length-take-le c.in_ok-count.count c.decide.new.places (omega (arith, k.few, k.size)))

pub write-requires-clause-few : goal.write-requires-clause-few
write-requires-clause-few c = let k = c.in_ok-count.ensures in few_wait c.args.formula.now (sym k.number) _ k.noted

pub returns : goal.returns
returns c =
    let k = c.in_ok-count.ensures in
    let p = promised _ _ _ _ (written_call c.args.formula.now c.args.out.now c.if-out-lt16384.false c.if-formula-gt16384.false k.number _ k.noted _ _ c.write.ensures) in
    record { out_after = p.out_after; language = p.language; on_a_sheet = p.on_a_sheet; result_in_bounds = p.result_in_bounds }
