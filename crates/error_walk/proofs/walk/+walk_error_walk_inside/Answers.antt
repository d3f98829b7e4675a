-- The cycle of `walk_error` and `walk_inside`. Assumes nothing.
use Rattle.std.proofs.Common.{arith}
use Rattle.std.proofs.lemmas.Result.{err_from_is_err_and}
use Rattle.error_walk.proofs.WalkLaws.{begin, done, broken, stopped, goes, fewer, ahead, lies}
use Rattle.error_walk.proofs.InsideLaws.{inside_none, inside_dictionary, inside_deep, inside_stop, inside_error}
use Rattle.error_walk.proofs.walk.+walk_error_walk_inside.Goals as goal

pub walk_error-loop-at-init : goal.walk_error-loop-at-init
walk_error-loop-at-init t c = begin _ _ _ _ _ _ _ c.requires.0

pub walk_error-returns-in_err-field : goal.walk_error-returns-in_err-field
walk_error-returns-in_err-field t c =
    let p = err_from_is_err_and c.from_residual.result c.from_residual.ensures.1 in
    rw (p.1, p.2) (broken c.loop-at.invariant c.loop-at-test.true _ (c.in_err-field.ensures))

pub walk_error-walk_inside-requires : goal.walk_error-walk_inside-requires
walk_error-walk_inside-requires t c =
    (omega arith, lies c.loop-at.invariant _ (c.in_ok-field.ensures) c.requires.1)

pub walk_error-returns-in_err-inside : goal.walk_error-returns-in_err-inside
walk_error-returns-in_err-inside t c =
    let p = err_from_is_err_and c.from_residual-in_err-inside.result c.from_residual-in_err-inside.ensures.1 in
    rw (p.1, p.2) (stopped c.loop-at.invariant _ (c.in_ok-field.ensures) _ (c.in_err-inside.ensures))

pub walk_error-overflow_add-errors : goal.walk_error-overflow_add-errors
walk_error-overflow_add-errors t c =
    omega (
      arith,
      ahead c.loop-at.invariant _ (c.in_ok-field.ensures),
      fewer c.loop-at.invariant _ (c.in_ok-field.ensures) _ (c.in_ok-inside.ensures),
    )

pub walk_error-overflow_add-attributes : goal.walk_error-overflow_add-attributes
walk_error-overflow_add-attributes t c =
    omega (
      arith,
      ahead c.loop-at.invariant _ (c.in_ok-field.ensures),
      fewer c.loop-at.invariant _ (c.in_ok-field.ensures) _ (c.in_ok-inside.ensures),
    )

pub walk_error-loop-at-smaller : goal.walk_error-loop-at-smaller
walk_error-loop-at-smaller t c = omega (arith, ahead c.loop-at.invariant _ (c.in_ok-field.ensures))

pub walk_error-loop-at-preserved : goal.walk_error-loop-at-preserved
walk_error-loop-at-preserved t c =
    goes c.loop-at.invariant _ (c.in_ok-field.ensures) _ (c.in_ok-inside.ensures)

pub walk_error-returns : goal.walk_error-returns
walk_error-returns t c = done c.loop-at.invariant c.loop-at-test.false

pub walk_inside-returns-then-left-eq0 : goal.walk_inside-returns-then-left-eq0
walk_inside-returns-then-left-eq0 t c = inside_deep _ _ c.args.field c.requires _ c.in-4.is c.if-left-eq0.true

pub walk_inside-walk_error-requires : goal.walk_inside-walk_error-requires
walk_inside-walk_error-requires t c = (omega arith, (c.requires.4, c.requires.5))

pub walk_inside-returns-in_err-held-in-4 : goal.walk_inside-returns-in_err-held-in-4
walk_inside-returns-in_err-held-in-4 t c =
    let p = err_from_is_err_and c.from_residual.result c.from_residual.ensures.1 in
    rw (p.1, p.2) (inside_stop _ _ c.args.field c.requires _ c.in-4.is c.if-left-eq0.false _ (c.in_err-held-in-4.ensures))

pub walk_inside-returns-in-3 : goal.walk_inside-returns-in-3
walk_inside-returns-in-3 t c = inside_dictionary _ _ c.args.field c.requires _ c.in-3.is _ c.walk_dictionary.ensures

pub walk_inside-returns-in_ok-held-in-4 : goal.walk_inside-returns-in_ok-held-in-4
walk_inside-returns-in_ok-held-in-4 t c =
    inside_error _ _ c.args.field c.requires _ c.in-4.is c.if-left-eq0.false _ (c.in_ok-held-in-4.ensures)

pub walk_inside-returns-in_default : goal.walk_inside-returns-in_default
walk_inside-returns-in_default t c = inside_none _ _ c.args.field c.requires _ (omega arith) (omega arith)
