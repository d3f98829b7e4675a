-- `write::write_value` meets its contract: the head, then what the kind has behind it. Assumes nothing.
use mathlib.Core.Path.{sym, ◌∙◌}
use mathlib.Core.Bool.{true≢false}
use mathlib.Core.Logic.{inl, inr}
use native.Mathlib.Omega.{arith}
use lib.ListN.{length}
use Rattle.wire.proofs.KindLaws.{kind_null, kind_scalar, kind_blob, kind_unknown}
use Rattle.wire_write.proofs.LengthLaws.{good_known, good_stretch}
use Rattle.text_write.proofs.PutLaws.{head_room, null_puts, scalar_within, scalar_room, scalar_puts, blob_within, blob_room, blob_puts}
use borrow.Author.Rules.{rules}
use Rattle.text_write.proofs.write.write_value.Goals as goal

pub write_head-at-requires : goal.write_head-at-requires
write_head-at-requires c =
    let start = c in
    head_room start.args.area.now start.args.id start.args.kind start.args.aggregate start.args.bits start.args.length start.args.out.now start.requires.1

pub slice_bounds-write_word-count : goal.slice_bounds-write_word-count
slice_bounds-write_word-count c =
    let start = c in
    let letter = c.letter in
    let write-head = c.write_head-at in
    let scalar = kind_scalar start.args.kind _ c.kind_of.ensures c.in-Scalar.is in scalar_within start.args.area.now start.args.id start.args.kind start.args.aggregate start.args.bits start.args.length start.args.out.now start.requires.1 letter.result letter.ensures write-head.new.out write-head.result write-head.ensures scalar.0 scalar.1

pub slice_bounds-write_word-start : goal.slice_bounds-write_word-start
slice_bounds-write_word-start c =
    let start = c in
    let letter = c.letter in
    let write-head = c.write_head-at in
    let scalar = kind_scalar start.args.kind _ c.kind_of.ensures c.in-Scalar.is in scalar_within start.args.area.now start.args.id start.args.kind start.args.aggregate start.args.bits start.args.length start.args.out.now start.requires.1 letter.result letter.ensures write-head.new.out write-head.result write-head.ensures scalar.0 scalar.1

pub write_word-size-requires : goal.write_word-size-requires
write_word-size-requires c =
    let start = c in
    let letter = c.letter in
    let write-head = c.write_head-at in
    let scalar = kind_scalar start.args.kind _ c.kind_of.ensures c.in-Scalar.is in scalar_room start.args.area.now start.args.id start.args.kind start.args.aggregate start.args.bits start.args.length start.args.out.now start.requires.1 letter.result letter.ensures write-head.new.out write-head.result write-head.ensures scalar.0 scalar.1

pub overflow_add-result : goal.overflow_add-result
overflow_add-result c =
    let start = c in
    let letter = c.letter in
    let write-head = c.write_head-at in
    let scalar = kind_scalar start.args.kind _ c.kind_of.ensures c.in-Scalar.is in omega (arith, (scalar_puts start.args.area.now start.args.id start.args.kind start.args.aggregate start.args.bits start.args.length start.args.out.now start.requires.1 letter.result letter.ensures write-head.new.out write-head.result write-head.ensures scalar.0 scalar.1 c.write_word-size.new.out c.write_word-size.result c.write_word-size.ensures).0, start.requires.1, start.well_formed)

pub overflow_add-end : goal.overflow_add-end
overflow_add-end c =
    let start = c in
    let blob = kind_blob start.args.kind _ c.kind_of.ensures c.in-Blob.is in omega (arith, good_stretch (length start.args.area.now) start.args.id start.args.kind start.args.aggregate start.args.bits start.args.length start.requires.0 (omega (arith, blob.0)), start.well_formed)

pub slice_bounds-write_units-end : goal.slice_bounds-write_units-end
slice_bounds-write_units-end c =
    let start = c in
    let blob = kind_blob start.args.kind _ c.kind_of.ensures c.in-Blob.is in let inside = good_stretch (length start.args.area.now) start.args.id start.args.kind start.args.aggregate start.args.bits start.args.length start.requires.0 (omega (arith, blob.0)) in search rules

pub slice_bounds-write_units-count-in-Blob : goal.slice_bounds-write_units-count-in-Blob
slice_bounds-write_units-count-in-Blob c =
    let start = c in
    let letter = c.letter in
    let write-head = c.write_head-at in
    let blob = kind_blob start.args.kind _ c.kind_of.ensures c.in-Blob.is in blob_within start.args.area.now start.args.id start.args.kind start.args.aggregate start.args.bits start.args.length start.args.out.now start.requires.1 letter.result letter.ensures write-head.new.out write-head.result write-head.ensures blob.0 blob.1

pub slice_bounds-write_units-start-in-Blob : goal.slice_bounds-write_units-start-in-Blob
slice_bounds-write_units-start-in-Blob c =
    let start = c in
    let letter = c.letter in
    let write-head = c.write_head-at in
    let blob = kind_blob start.args.kind _ c.kind_of.ensures c.in-Blob.is in blob_within start.args.area.now start.args.id start.args.kind start.args.aggregate start.args.bits start.args.length start.args.out.now start.requires.1 letter.result letter.ensures write-head.new.out write-head.result write-head.ensures blob.0 blob.1

pub write_units-size-requires : goal.write_units-size-requires
write_units-size-requires c =
    let start = c in
    let letter = c.letter in
    let write-head = c.write_head-at in
    let blob = kind_blob start.args.kind _ c.kind_of.ensures c.in-Blob.is in blob_room start.args.area.now start.args.id start.args.kind start.args.aggregate start.args.bits start.args.length start.args.out.now start.requires.1 letter.result letter.ensures write-head.new.out write-head.result write-head.ensures blob.0 blob.1

pub overflow_add-result-in-Blob : goal.overflow_add-result-in-Blob
overflow_add-result-in-Blob c =
    let start = c in
    let letter = c.letter in
    let write-head = c.write_head-at in
    let blob = kind_blob start.args.kind _ c.kind_of.ensures c.in-Blob.is in omega (arith, (blob_puts start.args.area.now start.args.id start.args.kind start.args.aggregate start.args.bits start.args.length start.args.out.now start.requires.1 letter.result letter.ensures write-head.new.out write-head.result write-head.ensures blob.0 blob.1 c.write_units-size.new.out c.write_units-size.result c.write_units-size.ensures).0, start.requires.1, start.well_formed)

pub returns-in-Scalar : goal.returns-in-Scalar
returns-in-Scalar c =
    let start = c in
    let letter = c.letter in
    let write-head = c.write_head-at in
    let scalar = kind_scalar start.args.kind _ c.kind_of.ensures c.in-Scalar.is in scalar_puts start.args.area.now start.args.id start.args.kind start.args.aggregate start.args.bits start.args.length start.args.out.now start.requires.1 letter.result letter.ensures write-head.new.out write-head.result write-head.ensures scalar.0 scalar.1 c.write_word-size.new.out c.write_word-size.result c.write_word-size.ensures

pub returns-in-Blob : goal.returns-in-Blob
returns-in-Blob c =
    let start = c in
    let letter = c.letter in
    let write-head = c.write_head-at in
    let blob = kind_blob start.args.kind _ c.kind_of.ensures c.in-Blob.is in blob_puts start.args.area.now start.args.id start.args.kind start.args.aggregate start.args.bits start.args.length start.args.out.now start.requires.1 letter.result letter.ensures write-head.new.out write-head.result write-head.ensures blob.0 blob.1 c.write_units-size.new.out c.write_units-size.result c.write_units-size.ensures

pub returns-in-Null : goal.returns-in-Null
returns-in-Null c =
    let a = c.args in
    let head = c.write_head-at in
    elim c.in-Null.is [
      | inl e ↦
          let null = kind_null a.kind _ c.kind_of.ensures e in
          null_puts a.area.now a.id a.kind a.aggregate a.bits a.length a.out.now c.requires.1 c.letter.result
          c.letter.ensures head.new.out head.result head.ensures (omega (arith, null))
      | inr e ↦
          absurd (true≢false
          (sym (good_known (length a.area.now) a.id a.kind a.aggregate a.bits a.length c.requires.0)
          ∙ (kind_unknown a.kind _ c.kind_of.ensures e).0))
    ]
