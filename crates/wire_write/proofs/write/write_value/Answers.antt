-- `write::write_value` meets its contract: the header, then what the kind's payload is. Assumes nothing.
use native.Mathlib.Omega.{arith}
use Rattle.wire.proofs.KindLaws.{kind_scalar, kind_blob}
use Rattle.wire_write.proofs.LengthLaws.{good_null}
use Rattle.wire_write.proofs.BytesLaws.{value_within, null_puts, scalar_puts, blob_room, value_puts}
use Rattle.wire_write.proofs.write.write_value.Goals as goal

pub slice_bounds-write_u64-count : goal.slice_bounds-write_u64-count
slice_bounds-write_u64-count c =
    value_within c.args.area.now c.args.id c.args.kind c.args.aggregate c.args.bits c.args.length c.requires.0 c.args.out.now c.requires.1 c.header.result c.header.ensures c.write_u64.new.out c.write_u64.ensures

pub slice_bounds-write_u64-start : goal.slice_bounds-write_u64-start
slice_bounds-write_u64-start c =
    value_within c.args.area.now c.args.id c.args.kind c.args.aggregate c.args.bits c.args.length c.requires.0 c.args.out.now c.requires.1 c.header.result c.header.ensures c.write_u64.new.out c.write_u64.ensures

pub slice_bounds-write_blob-count : goal.slice_bounds-write_blob-count
slice_bounds-write_blob-count c =
    value_within c.args.area.now c.args.id c.args.kind c.args.aggregate c.args.bits c.args.length c.requires.0 c.args.out.now c.requires.1 c.header.result c.header.ensures c.write_u64.new.out c.write_u64.ensures

pub slice_bounds-write_blob-start : goal.slice_bounds-write_blob-start
slice_bounds-write_blob-start c =
    value_within c.args.area.now c.args.id c.args.kind c.args.aggregate c.args.bits c.args.length c.requires.0 c.args.out.now c.requires.1 c.header.result c.header.ensures c.write_u64.new.out c.write_u64.ensures

pub write_blob-size-requires : goal.write_blob-size-requires
write_blob-size-requires c =
    let blob = kind_blob c.args.kind _ c.kind_of.ensures c.in-Blob.is in
    blob_room c.args.area.now c.args.id c.args.kind c.args.aggregate c.args.bits c.args.length c.requires.0 c.args.out.now c.requires.1 c.header.result c.header.ensures c.write_u64.new.out c.write_u64.ensures (omega (arith, blob.0))

pub overflow_add-result-in-Blob : goal.overflow_add-result-in-Blob
overflow_add-result-in-Blob c =
    let blob = kind_blob c.args.kind _ c.kind_of.ensures c.in-Blob.is in
    omega (arith, (value_puts c.args.area.now c.args.id c.args.kind c.args.aggregate c.args.bits c.args.length c.requires.0 c.args.out.now c.requires.1 c.header.result c.header.ensures c.write_u64.new.out c.write_u64.ensures (omega (arith, blob.0)) c.write_blob-size.new.out c.write_blob-size.result c.write_blob-size.ensures).0, c.requires.1, c.well_formed)

pub returns-in-Null : goal.returns-in-Null
returns-in-Null c =
    let null = good_null _ _ _ _ _ _ c.requires.0 _ c.kind_of.ensures c.in-Null.is in
    null_puts c.args.area.now c.args.id c.args.kind c.args.aggregate c.args.bits c.args.length c.requires.0 c.args.out.now c.requires.1 c.header.result c.header.ensures c.write_u64.new.out c.write_u64.ensures (omega (arith, null))

pub returns-in-Scalar : goal.returns-in-Scalar
returns-in-Scalar c =
    let scalar = kind_scalar c.args.kind _ c.kind_of.ensures c.in-Scalar.is in
    scalar_puts c.args.area.now c.args.id c.args.kind c.args.aggregate c.args.bits c.args.length c.requires.0 c.args.out.now c.requires.1 c.header.result c.header.ensures c.write_u64.new.out c.write_u64.ensures scalar.0 (omega (arith, scalar.1)) c.write_u64-in-Scalar.new.out c.write_u64-in-Scalar.ensures

pub returns-in-Blob : goal.returns-in-Blob
returns-in-Blob c =
    let blob = kind_blob c.args.kind _ c.kind_of.ensures c.in-Blob.is in
    value_puts c.args.area.now c.args.id c.args.kind c.args.aggregate c.args.bits c.args.length c.requires.0 c.args.out.now c.requires.1 c.header.result c.header.ensures c.write_u64.new.out c.write_u64.ensures (omega (arith, blob.0)) c.write_blob-size.new.out c.write_blob-size.result c.write_blob-size.ensures
