-- `value::bits_at` meets its contract: no scalar, or a scalar's bits. Assumes nothing.
use Rattle.wire_value.proofs.ValueLaws.{no_word, bits_none, bits_scalar}
use Rattle.wire.proofs.KindLaws.{kind_scalar}
use Rattle.wire_value.proofs.value.bits_at.Goals as goal

pub returns-in-Null : goal.returns-in-Null
returns-in-Null c = bits_none c.args.input.now c.args.at c.args.kind c.requires.1 (no_word c.args.kind _ c.kind_of.ensures c.in-Null.is)

pub returns-in-Scalar : goal.returns-in-Scalar
returns-in-Scalar c =
    let scalar = kind_scalar c.args.kind _ c.kind_of.ensures c.in-Scalar.is in
    bits_scalar c.args.input.now c.args.at c.args.kind c.requires.1 scalar.0 scalar.1 _ _ c.read_u64.ensures c.bits_of.ensures
