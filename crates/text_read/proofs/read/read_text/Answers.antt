-- `read::read_text` meets its contract: the first walk stops, there is too little room, or all is filled. Assumes nothing.
use Rattle.text_read.proofs.AnswerLaws.{read_refused, no_rows, no_values, no_area, text_has, text_read}
use mathlib.Core.Path.{ap}
use Rattle.std.specs.declared.result.Result.TheVariants.{Err}
use Rattle.text_walk.proofs.CheckLaws.{goes_up}
use Rattle.text_read.proofs.read.read_text.Goals as goal

pub returns-then-rows-count : goal.returns-then-rows-count
returns-then-rows-count c = let start = c in no_rows start.args.text.now start.args.rows.now start.args.values.now start.args.area.now _ c.count_text.ensures _ _ _ c.in_ok-count.was c.if-rows-count.true _ (ap Err c.short.ensures)

pub returns-then-values-entries : goal.returns-then-values-entries
returns-then-values-entries c = let start = c in no_values start.args.text.now start.args.rows.now start.args.values.now start.args.area.now _ c.count_text.ensures _ _ _ c.in_ok-count.was c.if-rows-count.false c.if-values-entries.true _ (ap Err c.short-then-values-entries.ensures)

pub returns-then-area-bytes : goal.returns-then-area-bytes
returns-then-area-bytes c = let start = c in no_area start.args.text.now start.args.rows.now start.args.values.now start.args.area.now _ c.count_text.ensures _ _ _ c.in_ok-count.was c.if-rows-count.false c.if-values-entries.false c.if-area-bytes.true _ (ap Err c.short-then-area-bytes.ensures)

pub fill_text-requires : goal.fill_text-requires
fill_text-requires c = let start = c in text_has start.args.text.now start.args.rows.now start.args.values.now start.args.area.now _ c.count_text.ensures _ _ _ c.in_ok-count.was c.if-rows-count.false c.if-values-entries.false c.if-area-bytes.false

pub returns-in_err-count : goal.returns-in_err-count
returns-in_err-count c = let start = c in rw (goes_up c.from_residual.result _ c.from_residual.ensures.1) (read_refused start.args.text.now start.args.rows.now start.args.values.now start.args.area.now _ c.count_text.ensures _ c.in_err-count.was)

pub returns : goal.returns
returns c = let start = c in text_read start.args.text.now start.args.rows.now start.args.values.now start.args.area.now _ c.count_text.ensures _ _ _ c.in_ok-count.was c.if-rows-count.false c.if-values-entries.false c.if-area-bytes.false _ _ _ c.fill_text.ensures
