-- A search for the first bad entry. Assumes nothing.
use Rattle.std.proofs.Common.{arith}
use Rattle.error_table.specs.Table.{first_bad_attribute}
use Rattle.error_table.proofs.TableLaws.{seek_begin, seek_end, seek_hit, seek_miss}
use Rattle.error_table.proofs.table.first_bad_attribute.Goals as goal

pub loop-k-init : goal.loop-k-init
loop-k-init c = seek_begin _ _

pub returns-then-bad_attribute : goal.returns-then-bad_attribute
unfolding first_bad_attribute
returns-then-bad_attribute c = seek_hit _ _ _ c.loop-k.invariant (omega arith) _ c.bad_attribute.ensures c.if-bad_attribute.true

pub loop-k-preserved : goal.loop-k-preserved
loop-k-preserved c = seek_miss _ _ _ c.loop-k.invariant (omega arith) _ c.bad_attribute.ensures c.if-bad_attribute.false

pub returns : goal.returns
unfolding first_bad_attribute
returns c = seek_end _ _ _ c.loop-k.invariant (omega arith)
