-- `entry::is_blob` meets its contract: by the kind. Assumes nothing.
use mathlib.Core.Path.{sym}
use native.Mathlib.Omega.{arith}
use Rattle.wire.proofs.KindLaws.{kind_null, kind_scalar, kind_blob, kind_unknown}
use Rattle.wire.proofs.TypeLaws.{blob_yes, blob_low}
use Rattle.pack_answer.proofs.entry.is_blob.Goals as goal

pub returns-in-Null : goal.returns-in-Null
returns-in-Null c = sym (blob_low c.args.code (omega (arith, kind_null c.args.code _ c.kind_of.ensures c.in-Null.is)))

pub returns-in-Scalar : goal.returns-in-Scalar
returns-in-Scalar c = sym (blob_low c.args.code (omega (arith, (kind_scalar c.args.code _ c.kind_of.ensures c.in-Scalar.is).1)))

pub returns-in-Unknown : goal.returns-in-Unknown
returns-in-Unknown c = sym (kind_unknown c.args.code _ c.kind_of.ensures c.in-Unknown.is).2

pub returns-in-Blob : goal.returns-in-Blob
returns-in-Blob c = let range = kind_blob c.args.code _ c.kind_of.ensures c.in-Blob.is in sym (blob_yes c.args.code range.0 range.1)
