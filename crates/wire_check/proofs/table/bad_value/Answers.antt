-- `table::bad_value` meets its contract: the id, the aggregate, then by the kind. Assumes nothing.
use Rattle.wire.proofs.KindLaws.{kind_null, kind_scalar, kind_blob, kind_unknown}
use Rattle.wire_check.proofs.TableLaws.{bad_id, bad_flag, bad_unknown, bad_blob_long, bad_blob, bad_null, null_length_lem, scalar_length, word_good, boolean_bits}
use Rattle.wire_check.proofs.table.bad_value.Goals as goal

pub returns-then-id-gt65535 : goal.returns-then-id-gt65535
returns-then-id-gt65535 c =
    bad_id c.args.size c.args.id c.args.kind c.args.aggregate c.args.bits c.args.length c.if-id-gt65535.true

pub returns-then-aggregate-gt1 : goal.returns-then-aggregate-gt1
returns-then-aggregate-gt1 c =
    bad_flag c.args.size c.args.id c.args.kind c.args.aggregate c.args.bits c.args.length c.if-id-gt65535.false c.if-aggregate-gt1.true

pub returns-then-bits-ne0 : goal.returns-then-bits-ne0
returns-then-bits-ne0 c =
    let null = kind_null c.args.kind _ c.kind_of.ensures c.in-Null.is in
    bad_null c.args.size c.args.id c.args.kind c.args.aggregate c.args.bits c.args.length c.if-id-gt65535.false c.if-aggregate-gt1.false null c.if-bits-ne0.true

pub returns-then-length-ne0 : goal.returns-then-length-ne0
returns-then-length-ne0 c =
    let scalar = kind_scalar c.args.kind _ c.kind_of.ensures c.in-Scalar.is in
    scalar_length c.args.size c.args.id c.args.kind c.args.aggregate c.args.bits c.args.length c.if-id-gt65535.false c.if-aggregate-gt1.false scalar.0 scalar.1 c.if-length-ne0.true

pub returns-then-kind-ne-BOOLEAN : goal.returns-then-kind-ne-BOOLEAN
returns-then-kind-ne-BOOLEAN c =
    let scalar = kind_scalar c.args.kind _ c.kind_of.ensures c.in-Scalar.is in
    word_good c.args.size c.args.id c.args.kind c.args.aggregate c.args.bits c.args.length c.if-id-gt65535.false c.if-aggregate-gt1.false scalar.0 scalar.1 c.if-length-ne0.false c.if-kind-ne-BOOLEAN.true

pub returns-then-size-length : goal.returns-then-size-length
returns-then-size-length c =
    let blob = kind_blob c.args.kind _ c.kind_of.ensures c.in-Blob.is in
    bad_blob_long c.args.size c.args.id c.args.kind c.args.aggregate c.args.bits c.args.length c.if-id-gt65535.false c.if-aggregate-gt1.false blob.0 blob.1 c.if-size-length.true

pub returns-in-Unknown : goal.returns-in-Unknown
returns-in-Unknown c =
    let unknown = kind_unknown c.args.kind _ c.kind_of.ensures c.in-Unknown.is in
    bad_unknown c.args.size c.args.id c.args.kind c.args.aggregate c.args.bits c.args.length c.if-id-gt65535.false unknown.0

pub returns-else-bits-ne0 : goal.returns-else-bits-ne0
returns-else-bits-ne0 c =
    let null = kind_null c.args.kind _ c.kind_of.ensures c.in-Null.is in
    null_length_lem c.args.size c.args.id c.args.kind c.args.aggregate c.args.bits c.args.length c.if-id-gt65535.false c.if-aggregate-gt1.false null c.if-bits-ne0.false

pub returns-else-kind-ne-BOOLEAN : goal.returns-else-kind-ne-BOOLEAN
returns-else-kind-ne-BOOLEAN c =
    let scalar = kind_scalar c.args.kind _ c.kind_of.ensures c.in-Scalar.is in
    boolean_bits c.args.size c.args.id c.args.kind c.args.aggregate c.args.bits c.args.length c.if-id-gt65535.false c.if-aggregate-gt1.false scalar.0 scalar.1 c.if-length-ne0.false c.if-kind-ne-BOOLEAN.false

pub returns-else-size-length : goal.returns-else-size-length
returns-else-size-length c =
    let blob = kind_blob c.args.kind _ c.kind_of.ensures c.in-Blob.is in
    bad_blob c.args.size c.args.id c.args.kind c.args.aggregate c.args.bits c.args.length c.if-id-gt65535.false c.if-aggregate-gt1.false blob.0 blob.1 c.if-size-length.false
