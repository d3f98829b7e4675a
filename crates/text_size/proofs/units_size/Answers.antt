-- `units_size` meets its contract. The invariant: what is still to come makes up the whole. Assumes nothing.
use mathlib.Core.Path.{ap}
use native.Mathlib.Omega.{arith}
use lib.ListN.{length}
use Rattle.text_size.proofs.SizeLaws.{units_size_more, units_none}
use Rattle.text_size.proofs.units_size.Goals as goal

pub overflow_add-size : goal.overflow_add-size
overflow_add-size c = omega (arith, units_size_more _ _ _ _ c.loop-byte-test.true c.loop-byte.invariant c.unit_size-size.ensures, c.requires)

pub loop-byte-preserved : goal.loop-byte-preserved
loop-byte-preserved c = units_size_more _ _ _ _ c.loop-byte-test.true c.loop-byte.invariant c.unit_size-size.ensures

pub returns : goal.returns
returns c = omega (arith, c.loop-byte.invariant, ap length (units_none c.args.bytes.now c.loop-byte.byte-index c.loop-byte-test.false))
