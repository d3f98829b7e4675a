-- One message's fields, which hold nothing. Assumes nothing.
use Rattle.std.proofs.Common.{arith}
use Rattle.std.proofs.lemmas.Result.{err_from_is_err_and}
use Rattle.error_walk.proofs.WalkLaws.{begin, done, broken, goes, ahead, passes_by}
use Rattle.error_walk.proofs.walk.walk_attribute.Goals as goal

pub loop-at-init : goal.loop-at-init
loop-at-init c = begin _ _ _ _ _ _ _ c.requires.0

pub returns-in_err-field : goal.returns-in_err-field
returns-in_err-field c =
    let p = err_from_is_err_and c.from_residual.result c.from_residual.ensures.1 in
    rw (p.1, p.2) (broken c.loop-at.invariant c.loop-at-test.true _ (c.in_err-field.ensures))

pub loop-at-smaller : goal.loop-at-smaller
loop-at-smaller c = omega (arith, ahead c.loop-at.invariant _ (c.in_ok-field.ensures))

pub loop-at-preserved : goal.loop-at-preserved
loop-at-preserved c = goes c.loop-at.invariant _ (c.in_ok-field.ensures) _ (passes_by _ _)

pub returns : goal.returns
returns c = done c.loop-at.invariant c.loop-at-test.false
