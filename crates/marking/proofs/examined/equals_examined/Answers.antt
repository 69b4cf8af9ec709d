use mathlib.Core.Path.{refl, sym, ◌∙◌}
use native.Mathlib.Omega.{arith}
use Rattle.marking.proofs.ExaminedLines.{consumer_small, line_within, line_there, passed, differs, compared, ended}
use Rattle.marking.proofs.examined.equals_examined.Goals as goal

pub loop-line-init : goal.loop-line-init
loop-line-init c = λ ds l. record { to_go = ds; lines = l; comes_to = refl }

pub split_at-requires : goal.split_at-requires
split_at-requires c =
    let (ds, l) = c.requires in
    let t = c.in-Some.ensures in
    line_within (c.loop-line.invariant ds l) t.line t.none

pub has-requires : goal.has-requires
has-requires c =
    let (ds, l) = c.requires in
    let t = c.in-Some.ensures in
    consumer_small (c.loop-line.invariant ds l) t.line t.none

pub loop-line-smaller-then-has : goal.loop-line-smaller-then-has
loop-line-smaller-then-has c =
    let (ds, l) = c.requires in
    let k = c.loop-line.invariant ds l in
    let t = c.in-Some.ensures in
    omega (arith, c.split_at.ensures.back_len, line_within k t.line t.none, line_there k t.line t.none)

pub loop-line-preserved-then-has : goal.loop-line-preserved-then-has
loop-line-preserved-then-has c =
    let t = c.in-Some.ensures in
    λ ds l. rw c.split_at.ensures.back (passed (c.loop-line.invariant ds l) t.line t.none (sym c.has.ensures ∙ c.if-has.true))

pub returns-in_default-strip_prefix : goal.returns-in_default-strip_prefix
returns-in_default-strip_prefix c =
    let t = c.in-Some.ensures in
    λ ds l.
    sym (differs (c.loop-line.invariant ds l) t.line t.none (sym c.has.ensures ∙ c.if-has.false) c.split_at.ensures.front c.in_default-strip_prefix.ensures.cases)

pub loop-line-smaller : goal.loop-line-smaller
loop-line-smaller c =
    let (ds, l) = c.requires in
    let k = c.loop-line.invariant ds l in
    let t = c.in-Some.ensures in
    omega (arith, c.split_at.ensures.back_len, line_within k t.line t.none, line_there k t.line t.none)

pub loop-line-preserved : goal.loop-line-preserved
loop-line-preserved c =
    let t = c.in-Some.ensures in
    let (front, rest, long) = c.in-Some-strip_prefix.ensures.cases in
    λ ds l.
    rw (c.split_at.ensures.back, rest)
    (compared (c.loop-line.invariant ds l) t.line t.none (sym c.has.ensures ∙ c.if-has.false) c.split_at.ensures.front front)

pub returns : goal.returns
returns c = λ ds l. c.is_empty.ensures ∙ sym (ended (c.loop-line.invariant ds l) c.in_default.ensures.line)
