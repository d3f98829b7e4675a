-- The rules of the tables, the room, the bytes. Assumes nothing.
use Rattle.std.proofs.Common.{arith}
use Rattle.std.proofs.lemmas.Result.{err_from_is_err_and}
use Rattle.error_write.proofs.AnswerLaws.{write_refused, write_short, write_room, write_done}
use Rattle.error_write.proofs.write.encode_error.Goals as goal

pub returns-in_err-count : goal.returns-in_err-count
returns-in_err-count c =
    let p = err_from_is_err_and c.from_residual.result c.from_residual.ensures.1 in
    rw (p.1, p.2) (write_refused _ _ _ _ _ (c.in_err-count.ensures))

pub returns-then-out-count : goal.returns-then-out-count
returns-then-out-count c =
    write_short c.args.area.now c.args.errors.now c.args.attributes.now c.args.out.now _ (c.in_ok-count.ensures)
    c.if-out-count.true

pub write_errors-requires : goal.write_errors-requires
write_errors-requires c =
    write_room c.args.area.now c.args.errors.now c.args.attributes.now c.args.out.now _ (c.in_ok-count.ensures)
    c.if-out-count.false (omega (arith, c.well_formed))

pub returns : goal.returns
returns c =
    write_done c.args.area.now c.args.errors.now c.args.attributes.now c.args.out.now _ (c.in_ok-count.ensures)
    c.if-out-count.false _ c.write_errors.ensures
