-- `write::write_text` meets its contract: the checks refuse, the room is short, or the rows are written. Assumes nothing.
use Rattle.text_write.proofs.AnswerLaws.{write_refused, write_short, writer_good, writer_whole, text_room_lem, write_done}
use Rattle.std.proofs.lemmas.Result.{err_from_is_err_and}
use Rattle.text_write.proofs.write.write_text.Goals as goal

pub returns-then-out-size : goal.returns-then-out-size
returns-then-out-size c =
    let start = c in
    let text_size = c.text_size in
    write_short start.args.area.now start.args.rows.now start.args.values.now start.args.out.now text_size.result text_size.ensures.text_fits _ c.in_ok-size.was c.if-out-size.true

pub write_rows-requires : goal.write_rows-requires
write_rows-requires c =
    let start = c in
    let text_size = c.text_size in
    let size = c.in_ok-size in
    (writer_good start.args.area.now start.args.rows.now start.args.values.now start.args.out.now text_size.result text_size.ensures.text_fits _ size.was, writer_whole start.args.area.now start.args.rows.now start.args.values.now start.args.out.now text_size.result text_size.ensures.text_fits _ size.was, text_room_lem start.args.area.now start.args.rows.now start.args.values.now start.args.out.now text_size.result text_size.ensures.text_fits _ size.was c.if-out-size.false)

pub returns-in_err-size : goal.returns-in_err-size
returns-in_err-size c =
    let start = c in
    let text_size = c.text_size in
    let exit = err_from_is_err_and c.from_residual.result c.from_residual.ensures.1 in
    rw (exit.1, exit.2) (write_refused start.args.area.now start.args.rows.now start.args.values.now start.args.out.now text_size.result text_size.ensures.text_fits _ c.in_err-size.was)

pub returns : goal.returns
returns c =
    let start = c in
    let text_size = c.text_size in
    write_done start.args.area.now start.args.rows.now start.args.values.now start.args.out.now text_size.result text_size.ensures.text_fits _ c.in_ok-size.was c.if-out-size.false _ c.write_rows.result c.write_rows.ensures
