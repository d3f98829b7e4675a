-- `value::double` meets its contract: 0 by 0 is the one NaN, and any other pattern has its float. Assumes nothing.
use lib.Ieee.{div, of_bits}
use Rattle.wire_value.proofs.ScalarLaws.{double_nan, no_nan_not}
use Rattle.wire_value.proofs.value.double.Goals as goal

pub returns-then-bits-gt9218868437227405312 : goal.returns-then-bits-gt9218868437227405312
unfolding div of_bits
returns-then-bits-gt9218868437227405312 c = double_nan c.args.bits c.if-bits-gt9218868437227405312.true

pub float_from_bits-result : goal.float_from_bits-result
float_from_bits-result c = no_nan_not c.args.bits c.if-bits-gt9218868437227405312.false
