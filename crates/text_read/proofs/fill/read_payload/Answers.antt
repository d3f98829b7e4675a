-- `fill::read_payload` meets its contract: nothing, a scalar's word, or a blob in the area. Assumes nothing.
use mathlib.Core.Logic.{inl, inr}
use native.Mathlib.Omega.{arith}
use Rattle.wire.proofs.KindLaws.{kind_null, kind_scalar, kind_blob, kind_unknown}
use Rattle.text_read.proofs.ValueLaws.{payload_null, payload_unknown, word_has, word_within, payload_scalar, blob_has, copied_behind, payload_blob}
use Rattle.text_read.proofs.fill.read_payload.Goals as goal

pub read_word-word-requires : goal.read_word-word-requires
read_word-word-requires c = let start = c in let kind = kind_scalar start.args.kind _ c.kind_of.ensures c.in-Scalar.is in word_has start.args.text.now start.args.at start.args.kind start.args.used start.args.area.now start.requires kind.0 kind.1

pub overflow_add-result : goal.overflow_add-result
overflow_add-result c = let start = c in let kind = kind_scalar start.args.kind _ c.kind_of.ensures c.in-Scalar.is in omega (arith, word_within start.args.text.now start.args.at start.args.kind start.args.used start.args.area.now start.requires kind.0 kind.1 _ c.read_word-word.ensures, start.well_formed)

pub copy_units-copied-requires : goal.copy_units-copied-requires
copy_units-copied-requires c = let start = c in let kind = kind_blob start.args.kind _ c.kind_of.ensures c.in-Blob.is in blob_has start.args.text.now start.args.at start.args.kind start.args.used start.args.area.now start.requires kind.0 kind.1

pub overflow_sub-result : goal.overflow_sub-result
overflow_sub-result c = let start = c in let kind = kind_blob start.args.kind _ c.kind_of.ensures c.in-Blob.is in copied_behind start.args.text.now start.args.at start.args.kind start.args.used start.args.area.now start.requires kind.0 kind.1 _ _ c.copy_units-copied.ensures

pub returns-in-Scalar : goal.returns-in-Scalar
returns-in-Scalar c = let start = c in let kind = kind_scalar start.args.kind _ c.kind_of.ensures c.in-Scalar.is in payload_scalar start.args.text.now start.args.at start.args.kind start.args.used start.args.area.now start.requires kind.0 kind.1 _ c.read_word-word.ensures

pub returns-in-Blob : goal.returns-in-Blob
returns-in-Blob c = let start = c in let kind = kind_blob start.args.kind _ c.kind_of.ensures c.in-Blob.is in payload_blob start.args.text.now start.args.at start.args.kind start.args.used start.args.area.now start.requires kind.0 kind.1 _ _ c.copy_units-copied.ensures

pub returns-in-Null : goal.returns-in-Null
returns-in-Null c =
    let a = c.args in
    elim c.in-Null.is [
      | inl e ↦
          payload_null a.text.now a.at a.kind a.used a.area.now c.requires (kind_null a.kind _ c.kind_of.ensures e)
      | inr e ↦
          payload_unknown a.text.now a.at a.kind a.used a.area.now c.requires
          (kind_unknown a.kind _ c.kind_of.ensures e).0 _ _
    ]
