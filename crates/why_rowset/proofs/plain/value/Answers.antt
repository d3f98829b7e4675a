-- `plain::value` meets its contract: the aggregate byte, then by the kind. Assumes nothing.
use native.Mathlib.Omega.{arith}
use Rattle.wire.proofs.LayoutLaws.{next_value_far}
use Rattle.wire.proofs.KindLaws.{kind_blob}
use Rattle.why_rowset.proofs.PlainLaws.{value_aggregate, value_words_lem, value_padding, other_blob, blob_ends}
use Rattle.why_rowset.proofs.plain.value.Goals as goal

pub overflow_add-result : goal.overflow_add-result
overflow_add-result c =
    omega (arith, next_value_far c.args.input.now c.args.at, c.requires.1)

pub returns-then-header-gt1 : goal.returns-then-header-gt1
returns-then-header-gt1 c =
    value_aggregate c.args.input.now c.args.at c.args.header c.requires.0 c.if-header-gt1.true

pub words-requires : goal.words-requires
words-requires c =
    (c.requires.0, other_blob c.args.input.now c.args.at c.args.header c.requires.0 _ c.kind_of.ensures c.in-Null.is, omega (arith, next_value_far c.args.input.now c.args.at, c.requires.1))

pub overflow_add-at : goal.overflow_add-at
overflow_add-at c =
    let blob = kind_blob c.args.header.kind _ c.kind_of.ensures c.in-Blob.is in
    omega (arith, blob_ends c.args.input.now c.args.at c.args.header c.requires.0 blob.0 blob.1, c.requires.1)

pub overflow_add-at-in-Blob : goal.overflow_add-at-in-Blob
overflow_add-at-in-Blob c =
    let blob = kind_blob c.args.header.kind _ c.kind_of.ensures c.in-Blob.is in
    omega (arith, blob_ends c.args.input.now c.args.at c.args.header c.requires.0 blob.0 blob.1, c.requires.1)

pub padding-requires : goal.padding-requires
padding-requires c =
    let blob = kind_blob c.args.header.kind _ c.kind_of.ensures c.in-Blob.is in
    omega (arith, blob_ends c.args.input.now c.args.at c.args.header c.requires.0 blob.0 blob.1, c.requires.1, c.padded.ensures)

pub returns-in-Null : goal.returns-in-Null
returns-in-Null c =
    value_words_lem c.args.input.now c.args.at c.args.header c.requires.0 c.if-header-gt1.false c.words.result (other_blob c.args.input.now c.args.at c.args.header c.requires.0 _ c.kind_of.ensures c.in-Null.is) c.words.ensures

pub returns-in-Blob : goal.returns-in-Blob
returns-in-Blob c =
    let blob = kind_blob c.args.header.kind _ c.kind_of.ensures c.in-Blob.is in
    value_padding c.args.input.now c.args.at c.args.header c.requires.0 c.if-header-gt1.false c.padding.result blob.0 blob.1 _ c.padded.ensures c.padding.ensures
