-- `check::check_value` meets its contract: the head, then what its kind has. Assumes nothing.
use mathlib.Core.Bool.{true≢false}
use mathlib.Core.Path.{sym, ◌∙◌}
use mathlib.Core.Logic.{inl, inr}
use Rattle.wire.proofs.KindLaws.{kind_null, kind_scalar, kind_blob, kind_unknown}
use Rattle.text_walk.proofs.CheckLaws.{goes_up, value_headless, head_inside, type_known, value_null, value_scalar, value_blob}
use Rattle.text_walk.proofs.check.check_value.Goals as goal

pub check_end-requires : goal.check_end-requires
check_end-requires c =
    let start = c in
    let a = start.args in
    let check-head = c.check_head in
    head_inside a.text.now a.start a.first a.size check-head.result check-head.ensures _ c.in_ok-next.was

pub check_scalar-requires : goal.check_scalar-requires
check_scalar-requires c =
    let start = c in
    let a = start.args in
    let check-head = c.check_head in
    head_inside a.text.now a.start a.first a.size check-head.result check-head.ensures _ c.in_ok-next.was

pub check_blob-requires : goal.check_blob-requires
check_blob-requires c =
    let start = c in
    let a = start.args in
    let check-head = c.check_head in (
      head_inside a.text.now a.start a.first a.size check-head.result check-head.ensures _ c.in_ok-next.was,
      start.requires.2,
    )

pub returns-in_err-next : goal.returns-in_err-next
returns-in_err-next c =
    let start = c in
    let a = start.args in
    let check-head = c.check_head in
    rw (goes_up c.from_residual.result _ c.from_residual.ensures.1) (value_headless a.text.now a.start a.first a.size check-head.result check-head.ensures _
    c.in_err-next.was)

pub returns-in-Null : goal.returns-in-Null
returns-in-Null c =
    let a = c.args in
    let head = c.check_head in
    elim c.in-Null.is [
      | inl e ↦
          value_null a.text.now a.start a.first a.size head.result head.ensures _ c.in_ok-next.was
          (kind_null _ _ c.kind_of.ensures e) c.check_end.result c.check_end.ensures
      | inr e ↦
          absurd (true≢false
          (sym (type_known a.text.now a.start a.first a.size head.result head.ensures _ c.in_ok-next.was)
          ∙ (kind_unknown _ _ c.kind_of.ensures e).0))
    ]

pub returns-in-Scalar : goal.returns-in-Scalar
returns-in-Scalar c =
    let start' = c in
    let check-head' = c.check_head in
    let scalar = kind_scalar _ _ c.kind_of.ensures c.in-Scalar.is in value_scalar start'.args.text.now start'.args.start start'.args.first start'.args.size check-head'.result check-head'.ensures _ c.in_ok-next.was scalar.0 scalar.1 c.check_scalar.result c.check_scalar.ensures

pub returns-in-Blob : goal.returns-in-Blob
returns-in-Blob c =
    let start' = c in
    let check-head' = c.check_head in
    let blob = kind_blob _ _ c.kind_of.ensures c.in-Blob.is in value_blob start'.args.text.now start'.args.start start'.args.first start'.args.size check-head'.result check-head'.ensures _ c.in_ok-next.was blob.0 blob.1 c.check_blob.result c.check_blob.ensures
