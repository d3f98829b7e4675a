-- `size::encoded_size` meets its contract: the tables are refused, or the walk decides.
-- Assumes nothing.
use Rattle.std.proofs.lemmas.Result.{err_from_is_err_and}
use Rattle.wire_check.proofs.WalkLaws.{whole_refused, whole_sound, whole_measured}
use Rattle.wire_check.proofs.size.encoded_size.Goals as goal

pub measure_rows-requires : goal.measure_rows-requires
measure_rows-requires c =
    whole_sound c.args.area.now c.args.rows.now c.args.values.now c.check_tables.result c.check_tables.ensures c.in_ok-check_tables.was

pub returns-in_err-check_tables : goal.returns-in_err-check_tables
returns-in_err-check_tables c =
    let exit = err_from_is_err_and c.from_residual.result c.from_residual.ensures.1 in
    rw (exit.1, exit.2)
    (let both = whole_refused c.args.area.now c.args.rows.now c.args.values.now c.check_tables.result c.check_tables.ensures _ c.in_err-check_tables.was in
    record { measures = both.0; fits = both.1 })

pub returns : goal.returns
returns c =
    let both = whole_measured c.args.area.now c.args.rows.now c.args.values.now c.check_tables.result c.check_tables.ensures c.in_ok-check_tables.was c.measure_rows.result c.measure_rows.ensures in
    record { measures = both.0; fits = both.1 }
