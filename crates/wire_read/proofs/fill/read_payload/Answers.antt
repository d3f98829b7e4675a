-- `fill::read_payload` meets its contract: no payload, a scalar's bits, or a blob's offset and length. Assumes nothing.
use native.Mathlib.Omega.{arith}
use Rattle.wire.proofs.LayoutLaws.{next_value_far}
use Rattle.wire.proofs.KindLaws.{no_payload, kind_scalar, kind_blob}
use Rattle.wire_read.proofs.FillLaws.{unknown_holds, scalar_next, scalar_holds, blob_next, blob_holds}
use Rattle.wire_read.proofs.fill.read_payload.Goals as goal

pub overflow_add-result : goal.overflow_add-result
overflow_add-result c =
    omega (arith, next_value_far c.args.input.now c.args.at, c.requires.0)

pub overflow_add-at : goal.overflow_add-at
overflow_add-at c =
    omega (arith, next_value_far c.args.input.now c.args.at, c.requires.0)

pub overflow_add-result-in-Scalar : goal.overflow_add-result-in-Scalar
overflow_add-result-in-Scalar c =
    omega (arith, next_value_far c.args.input.now c.args.at, c.requires.0)

pub overflow_add-result-in-Scalar-2 : goal.overflow_add-result-in-Scalar-2
overflow_add-result-in-Scalar-2 c =
    let scalar = kind_scalar c.args.header.kind _ c.kind_of.ensures c.in-Scalar.is in
    omega (arith, scalar_next c.args.input.now c.args.at c.args.header c.requires.1 scalar.0 scalar.1, c.requires.0)

pub overflow_add-result-in-Blob : goal.overflow_add-result-in-Blob
overflow_add-result-in-Blob c =
    omega (arith, next_value_far c.args.input.now c.args.at, c.requires.0)

pub overflow_add-result-in-Blob-2 : goal.overflow_add-result-in-Blob-2
overflow_add-result-in-Blob-2 c =
    omega (arith, next_value_far c.args.input.now c.args.at, c.requires.0)

pub overflow_add-result-in-Blob-3 : goal.overflow_add-result-in-Blob-3
overflow_add-result-in-Blob-3 c =
    let blob = kind_blob c.args.header.kind _ c.kind_of.ensures c.in-Blob.is in
    omega (arith, blob_next c.args.input.now c.args.at c.args.header c.requires.1 blob.0 (omega (arith, blob.1)), c.padded.ensures, c.requires.0)

pub returns-in-Null : goal.returns-in-Null
returns-in-Null c =
    let none = no_payload c.args.header.kind _ c.kind_of.ensures c.in-Null.is in
    unknown_holds c.args.input.now c.args.at c.args.header c.requires.1 none.0 none.1

pub returns-in-Scalar : goal.returns-in-Scalar
returns-in-Scalar c =
    let scalar = kind_scalar c.args.header.kind _ c.kind_of.ensures c.in-Scalar.is in
    scalar_holds c.args.input.now c.args.at c.args.header c.requires.1 scalar.0 scalar.1 _ _ c.read_u64.ensures c.bits_of.ensures

pub returns-in-Blob : goal.returns-in-Blob
returns-in-Blob c =
    let blob = kind_blob c.args.header.kind _ c.kind_of.ensures c.in-Blob.is in
    blob_holds c.args.input.now c.args.at c.args.header c.requires.1 blob.0 (omega (arith, blob.1)) _ c.padded.ensures
