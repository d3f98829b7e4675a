-- The tag, its two bounds, then the payload. Assumes nothing.
use Rattle.field.proofs.FieldLaws.{tag_cut, tag_large, tag_zero, field_typeless, field_cut, field_whole}
use Rattle.field.proofs.field.read_field.Goals as goal

pub returns-in_err-tag : goal.returns-in_err-tag
returns-in_err-tag c = rw c.from_residual.ensures (tag_cut _ _ _ (c.in_err-tag.ensures))

pub returns-then-tag-gt4294967295 : goal.returns-then-tag-gt4294967295
returns-then-tag-gt4294967295 c = tag_large _ _ _ _ (c.in_ok-tag.ensures) c.if-tag-gt4294967295.true

pub returns-then-tag-lt8 : goal.returns-then-tag-lt8
returns-then-tag-lt8 c = tag_zero _ _ _ _ (c.in_ok-tag.ensures) c.if-tag-gt4294967295.false c.if-tag-lt8.true

pub returns-in_err-wire : goal.returns-in_err-wire
returns-in_err-wire c =
    rw c.from_residual-in_err-wire.ensures
    (field_typeless _ _ _ _ (c.in_ok-tag.ensures) c.if-tag-gt4294967295.false c.if-tag-lt8.false (c.in_err-wire.ensures))

pub returns-in_err-value : goal.returns-in_err-value
returns-in_err-value c =
    rw c.from_residual-in_err-value.ensures
    (field_cut _ _ _ _ (c.in_ok-tag.ensures) c.if-tag-gt4294967295.false c.if-tag-lt8.false _ (c.in_ok-wire.ensures) (c.in_err-value.ensures))

pub returns : goal.returns
returns c =
    field_whole _ _ _ _ (c.in_ok-tag.ensures) c.if-tag-gt4294967295.false c.if-tag-lt8.false _ (c.in_ok-wire.ensures) _ (c.in_ok-value.ensures)
