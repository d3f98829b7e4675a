-- One message's fields, each of which may be an attribute. Assumes nothing.
use Rattle.std.proofs.Common.{arith}
use Rattle.std.proofs.lemmas.Result.{err_from_is_err_and}
use Rattle.error_walk.proofs.WalkLaws.{begin, done, broken, stopped, goes_flat, fewer, ahead, lies}
use Rattle.error_walk.proofs.walk.walk_dictionary.Goals as goal

pub loop-at-init : goal.loop-at-init
loop-at-init c = begin _ _ _ _ _ _ _ c.requires.0

pub returns-in_err-field : goal.returns-in_err-field
returns-in_err-field c =
    let p = err_from_is_err_and c.from_residual.result c.from_residual.ensures.1 in
    rw (p.1, p.2) (broken c.loop-at.invariant c.loop-at-test.true _ (c.in_err-field.ensures))

pub walk_entry-requires : goal.walk_entry-requires
walk_entry-requires c = lies c.loop-at.invariant _ (c.in_ok-field.ensures) c.requires.1

pub returns-in_err-entry : goal.returns-in_err-entry
returns-in_err-entry c =
    let p = err_from_is_err_and c.from_residual-in_err-entry.result c.from_residual-in_err-entry.ensures.1 in
    rw (p.1, p.2) (stopped c.loop-at.invariant _ (c.in_ok-field.ensures) _ (c.in_err-entry.ensures))

pub overflow_add-attributes : goal.overflow_add-attributes
overflow_add-attributes c =
    omega (
      arith,
      ahead c.loop-at.invariant _ (c.in_ok-field.ensures),
      fewer c.loop-at.invariant _ (c.in_ok-field.ensures) _ (c.in_ok-entry.ensures),
    )

pub loop-at-smaller : goal.loop-at-smaller
loop-at-smaller c = omega (arith, ahead c.loop-at.invariant _ (c.in_ok-field.ensures))

pub loop-at-preserved : goal.loop-at-preserved
loop-at-preserved c = goes_flat c.loop-at.invariant _ (c.in_ok-field.ensures) _ (c.in_ok-entry.ensures)

pub returns : goal.returns
returns c = done c.loop-at.invariant c.loop-at-test.false
