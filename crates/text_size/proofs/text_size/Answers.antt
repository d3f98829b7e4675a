-- `text_size` meets its contract: the checks refuse, or the text is measured. Assumes nothing.
use Rattle.std.proofs.lemmas.Result.{err_from_is_err_and}
use Rattle.text_size.proofs.AnswerLaws.{size_refused, tables_good, tables_whole, text_short, size_told}
use Rattle.text_size.proofs.text_size.Goals as goal

pub rows_size-requires : goal.rows_size-requires
rows_size-requires c =
    let start = c in
    (tables_good start.args.area.now start.args.rows.now start.args.values.now c.encoded_size.result c.encoded_size.ensures.fits _ c.in_ok-encoded_size.was, tables_whole start.args.area.now start.args.rows.now start.args.values.now c.encoded_size.result c.encoded_size.ensures.fits _ c.in_ok-encoded_size.was, text_short start.args.area.now start.args.rows.now start.args.values.now c.encoded_size.result c.encoded_size.ensures.fits _ c.in_ok-encoded_size.was)

pub returns-in_err-encoded_size : goal.returns-in_err-encoded_size
returns-in_err-encoded_size c =
    let start = c in
    let encoded-size = c.encoded_size in
    let exit = err_from_is_err_and c.from_residual.result c.from_residual.ensures.1 in
    let told = size_refused start.args.area.now start.args.rows.now start.args.values.now encoded-size.result encoded-size.ensures.fits _ c.in_err-encoded_size.was in
    rw (exit.1, exit.2) record { sizes_text = told.0; text_fits = told.1 }

pub returns : goal.returns
returns c =
    let start = c in
    let encoded-size = c.encoded_size in
    let told = size_told start.args.area.now start.args.rows.now start.args.values.now encoded-size.result encoded-size.ensures.fits _ c.in_ok-encoded_size.was _ c.rows_size.ensures in
    record { sizes_text = told.0; text_fits = told.1 }
