-- `size::measure_value` meets its contract: 12, or 13 for what the kind's payload takes. Assumes nothing.
use mathlib.Core.Path.{◌≡◌}
use mathlib.Core.Bool.{false}
use native.Mathlib.Omega.{arith}
use Rattle.wire.specs.Layout.{scalar, blob}
use Rattle.wire.proofs.KindLaws.{no_payload, kind_scalar, kind_blob}
use Rattle.wire_check.proofs.WalkLaws.{none_adds, scalar_adds, blob_long, blob_adds}
use Rattle.wire_check.proofs.size.measure_value.Goals as goal

pub returns-then-length : goal.returns-then-length
returns-then-length c =
    let blob = kind_blob c.args.kind _ c.kind_of.ensures c.in-Blob.is in
    blob_long c.args.kind c.args.length c.args.size blob.0 (omega (arith, blob.1)) c.if-length.true _ c.cap.ensures

pub returns-in-Null : goal.returns-in-Null
returns-in-Null c =
    let none : (scalar c.args.kind ≡ false) × (blob c.args.kind ≡ false) = no_payload c.args.kind _ c.kind_of.ensures c.in-Null.is in
    none_adds c.args.kind c.args.length c.args.size none.0 none.1 c.add_to_rowset_size.result c.add_to_rowset_size.ensures

pub returns-in-Scalar : goal.returns-in-Scalar
returns-in-Scalar c =
    let scalar = kind_scalar c.args.kind _ c.kind_of.ensures c.in-Scalar.is in
    scalar_adds c.args.kind c.args.length c.args.size scalar.0 (omega (arith, scalar.1)) c.add_to_rowset_size-in-Scalar.result c.add_to_rowset_size-in-Scalar.ensures

pub returns-else-length : goal.returns-else-length
returns-else-length c =
    let blob = kind_blob c.args.kind _ c.kind_of.ensures c.in-Blob.is in
    blob_adds c.args.kind c.args.length c.args.size blob.0 (omega (arith, blob.1)) c.if-length.false _ c.padded.ensures c.add_to_rowset_size-in-Blob.result c.add_to_rowset_size-in-Blob.ensures
