-- `plain::plain_value` meets its contract: the aggregate byte, then by the kind. Assumes nothing.
use native.Mathlib.Omega.{arith}
use Rattle.wire.proofs.LayoutLaws.{next_value_far}
use Rattle.wire.proofs.KindLaws.{no_payload, kind_scalar, kind_blob}
use Rattle.wire_read.proofs.FillLaws.{scalar_next, blob_next}
use Rattle.wire_read.proofs.PlainLaws.{value_aggregate, value_unknown, scalar_length, word_plain, boolean_plain, blob_plain}
use Rattle.wire_read.proofs.plain.plain_value.Goals as goal

pub header_at-header-requires : goal.header_at-header-requires
header_at-header-requires c =
    omega (arith, next_value_far c.args.input.now c.args.at, c.requires)

pub returns-then-header-gt1 : goal.returns-then-header-gt1
returns-then-header-gt1 c =
    let read = c.header_at-header in
    value_aggregate c.args.input.now c.args.at read.result read.ensures c.if-header-gt1.true

pub returns-then-header-ne0 : goal.returns-then-header-ne0
returns-then-header-ne0 c =
    let read = c.header_at-header in
    let scalar = kind_scalar read.result.kind _ c.kind_of.ensures c.in-Scalar.is in
    scalar_length c.args.input.now c.args.at read.result read.ensures c.if-header-gt1.false scalar.0 scalar.1 c.if-header-ne0.true

pub returns-then-header-ne-BOOLEAN : goal.returns-then-header-ne-BOOLEAN
returns-then-header-ne-BOOLEAN c =
    let read = c.header_at-header in
    let scalar = kind_scalar read.result.kind _ c.kind_of.ensures c.in-Scalar.is in
    word_plain c.args.input.now c.args.at read.result read.ensures c.if-header-gt1.false scalar.0 scalar.1 c.if-header-ne0.false c.if-header-ne-BOOLEAN.true

pub overflow_add-at : goal.overflow_add-at
overflow_add-at c =
    omega (arith, next_value_far c.args.input.now c.args.at, c.requires)

pub word_at-requires : goal.word_at-requires
word_at-requires c =
    let read = c.header_at-header in
    let scalar = kind_scalar read.result.kind _ c.kind_of.ensures c.in-Scalar.is in
    omega (arith, scalar_next c.args.input.now c.args.at read.result read.ensures scalar.0 scalar.1, c.requires)

pub overflow_add-at-in-Blob : goal.overflow_add-at-in-Blob
overflow_add-at-in-Blob c =
    let read = c.header_at-header in
    let blob = kind_blob read.result.kind _ c.kind_of.ensures c.in-Blob.is in
    omega (arith, blob_next c.args.input.now c.args.at read.result read.ensures blob.0 (omega (arith, blob.1)), c.padded.ensures, c.requires)

pub overflow_add-at-in-Blob-2 : goal.overflow_add-at-in-Blob-2
overflow_add-at-in-Blob-2 c =
    let read = c.header_at-header in
    let blob = kind_blob read.result.kind _ c.kind_of.ensures c.in-Blob.is in
    omega (arith, blob_next c.args.input.now c.args.at read.result read.ensures blob.0 (omega (arith, blob.1)), c.padded.ensures, c.requires)

pub zeros-requires : goal.zeros-requires
zeros-requires c =
    let read = c.header_at-header in
    let blob = kind_blob read.result.kind _ c.kind_of.ensures c.in-Blob.is in
    omega (arith, blob_next c.args.input.now c.args.at read.result read.ensures blob.0 (omega (arith, blob.1)), c.padded.ensures, c.requires)

pub returns-in-Null : goal.returns-in-Null
returns-in-Null c =
    let read = c.header_at-header in
    let none = no_payload read.result.kind _ c.kind_of.ensures c.in-Null.is in
    value_unknown c.args.input.now c.args.at read.result read.ensures c.if-header-gt1.false none.0 none.1

pub returns-else-header-ne-BOOLEAN : goal.returns-else-header-ne-BOOLEAN
returns-else-header-ne-BOOLEAN c =
    let read = c.header_at-header in
    let scalar = kind_scalar read.result.kind _ c.kind_of.ensures c.in-Scalar.is in
    boolean_plain c.args.input.now c.args.at read.result read.ensures c.if-header-gt1.false scalar.0 scalar.1 c.if-header-ne0.false c.if-header-ne-BOOLEAN.false _ c.word_at.ensures

pub returns-in-Blob : goal.returns-in-Blob
returns-in-Blob c =
    let read = c.header_at-header in
    let blob = kind_blob read.result.kind _ c.kind_of.ensures c.in-Blob.is in
    blob_plain c.args.input.now c.args.at read.result read.ensures c.if-header-gt1.false blob.0 (omega (arith, blob.1)) _ _ c.padded.ensures c.zeros.ensures
