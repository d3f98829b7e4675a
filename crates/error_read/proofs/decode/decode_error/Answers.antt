-- The first walk, the room, the second walk. Assumes nothing.
use Rattle.std.proofs.lemmas.Result.{err_from_is_err_and}
use Rattle.error_read.proofs.DecodeLaws.{refused_early, errors_short, attributes_short, rooms, decoded}
use Rattle.error_read.proofs.decode.decode_error.Goals as goal

pub returns-in_err-counted : goal.returns-in_err-counted
returns-in_err-counted c =
    let p = err_from_is_err_and c.from_residual.result c.from_residual.ensures.1 in
    rw (p.1, p.2) (refused_early _ _ _ _ (c.in_err-counted.ensures))

pub returns-then-errors-counted : goal.returns-then-errors-counted
returns-then-errors-counted c =
    errors_short c.args.input.now c.args.errors.now c.args.attributes.now _ (c.in_ok-counted.ensures) c.if-errors-counted.true

pub returns-then-attributes-counted : goal.returns-then-attributes-counted
returns-then-attributes-counted c =
    attributes_short c.args.input.now c.args.errors.now c.args.attributes.now _ (c.in_ok-counted.ensures)
    c.if-errors-counted.false c.if-attributes-counted.true

pub fill_error-requires : goal.fill_error-requires
fill_error-requires c =
    rooms c.args.input.now c.args.errors.now c.args.attributes.now _ (c.in_ok-counted.ensures) c.if-errors-counted.false
    c.if-attributes-counted.false

pub returns : goal.returns
returns c =
    decoded c.args.input.now c.args.errors.now c.args.attributes.now _ (c.in_ok-counted.ensures) c.if-errors-counted.false
    c.if-attributes-counted.false _ _ c.fill_error.ensures
