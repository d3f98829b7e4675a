-- `value::payload_size` meets its contract: each kind by its payload. Assumes nothing.
use Rattle.wire.proofs.KindLaws.{kind_null, kind_scalar, kind_blob, kind_unknown}
use Rattle.wire_value.proofs.OrderLaws.{expects_unknown, expects_null, expects_scalar, expects_long, expects_blob}
use Rattle.wire_value.proofs.value.payload_size.Goals as goal

pub returns-then-length-gt-MAX_VALUE_LENGTH : goal.returns-then-length-gt-MAX_VALUE_LENGTH
returns-then-length-gt-MAX_VALUE_LENGTH c =
    let blob = kind_blob c.args.kind _ c.kind_of.ensures c.in-Blob.is in
    expects_long c.args.kind c.args.length blob.0 blob.1 c.if-length-gt-MAX_VALUE_LENGTH.true

pub returns-in-Unknown : goal.returns-in-Unknown
returns-in-Unknown c =
    expects_unknown c.args.kind c.args.length (kind_unknown c.args.kind _ c.kind_of.ensures c.in-Unknown.is).0

pub returns-in-Null : goal.returns-in-Null
returns-in-Null c =
    expects_null c.args.kind c.args.length (kind_null c.args.kind _ c.kind_of.ensures c.in-Null.is)

pub returns-in-Scalar : goal.returns-in-Scalar
returns-in-Scalar c =
    let scalar = kind_scalar c.args.kind _ c.kind_of.ensures c.in-Scalar.is in
    expects_scalar c.args.kind c.args.length scalar.0 scalar.1

pub returns-else-length-gt-MAX_VALUE_LENGTH : goal.returns-else-length-gt-MAX_VALUE_LENGTH
returns-else-length-gt-MAX_VALUE_LENGTH c =
    let blob = kind_blob c.args.kind _ c.kind_of.ensures c.in-Blob.is in
    expects_blob c.args.kind c.args.length blob.0 blob.1 c.if-length-gt-MAX_VALUE_LENGTH.false _ c.padded.ensures
