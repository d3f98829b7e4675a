-- `value_size` meets its contract: the head, then what the kind has behind it. Assumes nothing.
use mathlib.Core.Path.{sym, ◌∙◌, ap}
use mathlib.Core.Bool.{true≢false}
use mathlib.Core.Logic.{inl, inr}
use native.Mathlib.Omega.{arith}
use borrow.Author.Rules.{rules}
use lib.ListN.{length}
use Rattle.wire.proofs.KindLaws.{kind_null, kind_scalar, kind_blob, kind_unknown}
use Rattle.wire_write.proofs.LengthLaws.{good_known, good_stretch}
use Rattle.text_size.proofs.SizeLaws.{size_null, size_scalar, size_blob, same_stretch}
use Rattle.text_size.proofs.value_size.Goals as goal

pub overflow_add-result : goal.overflow_add-result
overflow_add-result c = let start = c in
    let scalar = kind_scalar start.args.kind _ c.kind_of.ensures c.in-Scalar.is in
    omega (arith, c.head_size-start.ensures, size_scalar start.args.area.now start.args.id start.args.kind start.args.aggregate start.args.bits start.args.length scalar.0 scalar.1, start.requires.1)

pub overflow_add-end : goal.overflow_add-end
overflow_add-end c = let start = c in
    let blob = kind_blob start.args.kind _ c.kind_of.ensures c.in-Blob.is in
    omega (arith, good_stretch (length start.args.area.now) start.args.id start.args.kind start.args.aggregate start.args.bits start.args.length start.requires.0 (omega (arith, blob.0)), start.well_formed)

pub slice_bounds-units_size-end : goal.slice_bounds-units_size-end
slice_bounds-units_size-end c = let start = c in
    let blob = kind_blob start.args.kind _ c.kind_of.ensures c.in-Blob.is in
    let inside = good_stretch (length start.args.area.now) start.args.id start.args.kind start.args.aggregate start.args.bits start.args.length start.requires.0 (omega (arith, blob.0)) in
    search rules

pub units_size-requires : goal.units_size-requires
units_size-requires c = let start = c in
    let blob = kind_blob start.args.kind _ c.kind_of.ensures c.in-Blob.is in
    omega (arith, ap length (same_stretch start.args.area.now start.args.bits start.args.length), size_blob start.args.area.now start.args.id start.args.kind start.args.aggregate start.args.bits start.args.length blob.0 blob.1, start.requires.1)

pub overflow_add-result-in-Blob : goal.overflow_add-result-in-Blob
overflow_add-result-in-Blob c = let start = c in
    let blob = kind_blob start.args.kind _ c.kind_of.ensures c.in-Blob.is in
    omega (arith, c.head_size-start.ensures, c.units_size.ensures, ap length (same_stretch start.args.area.now start.args.bits start.args.length), size_blob start.args.area.now start.args.id start.args.kind start.args.aggregate start.args.bits start.args.length blob.0 blob.1, start.requires.1)

pub returns-in-Scalar : goal.returns-in-Scalar
returns-in-Scalar c = let start = c in
    let scalar = kind_scalar start.args.kind _ c.kind_of.ensures c.in-Scalar.is in
    omega (arith, c.head_size-start.ensures, size_scalar start.args.area.now start.args.id start.args.kind start.args.aggregate start.args.bits start.args.length scalar.0 scalar.1)

pub returns-in-Blob : goal.returns-in-Blob
returns-in-Blob c = let start = c in
    let blob = kind_blob start.args.kind _ c.kind_of.ensures c.in-Blob.is in
    omega (arith, c.head_size-start.ensures, c.units_size.ensures, ap length (same_stretch start.args.area.now start.args.bits start.args.length), size_blob start.args.area.now start.args.id start.args.kind start.args.aggregate start.args.bits start.args.length blob.0 blob.1)

pub returns-in-Null : goal.returns-in-Null
returns-in-Null c =
    let a = c.args in
    elim c.in-Null.is [
      | inl e ↦
          let null = kind_null a.kind _ c.kind_of.ensures e in
          c.head_size-start.ensures
          ∙ sym (size_null a.area.now a.id a.kind a.aggregate a.bits a.length (omega (arith, null)))
      | inr e ↦
          absurd (true≢false
          (sym (good_known (length a.area.now) a.id a.kind a.aggregate a.bits a.length c.requires.0)
          ∙ (kind_unknown a.kind _ c.kind_of.ensures e).0))
    ]
