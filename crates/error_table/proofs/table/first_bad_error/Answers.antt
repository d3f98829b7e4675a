-- A search for the first bad entry. Assumes nothing.
use Rattle.std.proofs.Common.{arith}
use Rattle.error_table.specs.Table.{first_bad_error}
use Rattle.error_table.proofs.TableLaws.{seek_begin, seek_end, seek_hit, seek_miss}
use Rattle.error_table.proofs.table.first_bad_error.Goals as goal

pub loop-i-init : goal.loop-i-init
loop-i-init c = seek_begin _ _

pub returns-then-bad_error : goal.returns-then-bad_error
unfolding first_bad_error
returns-then-bad_error c = seek_hit _ _ _ c.loop-i.invariant (omega arith) _ c.bad_error.ensures c.if-bad_error.true

pub loop-i-preserved : goal.loop-i-preserved
loop-i-preserved c = seek_miss _ _ _ c.loop-i.invariant (omega arith) _ c.bad_error.ensures c.if-bad_error.false

pub returns : goal.returns
unfolding first_bad_error
returns c = seek_end _ _ _ c.loop-i.invariant (omega arith)
