-- `value::check_payload` meets its contract: by the kind. Assumes nothing.
use Rattle.wire.proofs.KindLaws.{kind_null, kind_scalar, kind_blob, kind_unknown}
use Rattle.why_rowset.proofs.ValueLaws.{type_unknown, blob_long, null_asks, scalar_asks, blob_asks}
use Rattle.why_rowset.proofs.value.check_payload.Goals as goal

pub check_bytes-requires : goal.check_bytes-requires
check_bytes-requires c =
    let null = kind_null c.args.header.kind _ c.kind_of.ensures c.in-Null.is in
    let asks = null_asks c.args.input.now c.args.at c.args.header c.requires.1 c.requires.0 null in
    (c.requires.0, c.requires.1, asks.0, asks.1)

pub check_bytes-requires-in-Scalar : goal.check_bytes-requires-in-Scalar
check_bytes-requires-in-Scalar c =
    let scalar = kind_scalar c.args.header.kind _ c.kind_of.ensures c.in-Scalar.is in
    let asks = scalar_asks c.args.input.now c.args.at c.args.header c.requires.1 c.requires.0 scalar.0 scalar.1 in
    (c.requires.0, c.requires.1, asks.0, asks.1)

pub returns-then-length-gt-MAX_VALUE_LENGTH : goal.returns-then-length-gt-MAX_VALUE_LENGTH
returns-then-length-gt-MAX_VALUE_LENGTH c =
    let blob = kind_blob c.args.header.kind _ c.kind_of.ensures c.in-Blob.is in
    blob_long c.args.input.now c.args.at c.args.header c.requires.1 c.requires.0 c.refused-then-length-gt-MAX_VALUE_LENGTH.result blob.0 blob.1 c.if-length-gt-MAX_VALUE_LENGTH.true c.refused-then-length-gt-MAX_VALUE_LENGTH.ensures

pub check_bytes-requires-in-Blob : goal.check_bytes-requires-in-Blob
check_bytes-requires-in-Blob c =
    let blob = kind_blob c.args.header.kind _ c.kind_of.ensures c.in-Blob.is in
    let asks = blob_asks c.args.input.now c.args.at c.args.header c.requires.1 c.requires.0 blob.0 blob.1 c.if-length-gt-MAX_VALUE_LENGTH.false _ c.padded.ensures in
    (c.requires.0, c.requires.1, asks.0, asks.1)

pub returns-in-Unknown : goal.returns-in-Unknown
returns-in-Unknown c =
    let unknown = kind_unknown c.args.header.kind _ c.kind_of.ensures c.in-Unknown.is in
    type_unknown c.args.input.now c.args.at c.args.header c.requires.1 c.requires.0 c.refused.result unknown.0 c.refused.ensures
