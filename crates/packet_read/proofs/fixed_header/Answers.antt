-- `fixed_header` meets its contract: the lines of the fixed header, one return each.
-- Assumes nothing.
use mathlib.Core.Path.{sym, ◌∙◌}
use native.Mathlib.Omega.{arith}
use lib.Seq.{length-take-le}
use Rattle.packet.specs.Layout.{fixed_fields_size}
use Rattle.packet.proofs.Back.{type_known}
use Rattle.packet_read.proofs.OrderLaws.{fixed_more, fixed_signature, fixed_type, fixed_retired, fixed_fails, fixed_passes}
use Rattle.packet_read.proofs.fixed_header.Goals as goal

pub returns-then-input-lt-FIXED_HEADER_SIZE : goal.returns-then-input-lt-FIXED_HEADER_SIZE
returns-then-input-lt-FIXED_HEADER_SIZE c rest = fixed_more _ _ rest c.if-input-lt-FIXED_HEADER_SIZE.true

pub returns-then-signature-ne-SIGNATURE : goal.returns-then-signature-ne-SIGNATURE
returns-then-signature-ne-SIGNATURE c rest = fixed_signature _ _ rest _ c.if-input-lt-FIXED_HEADER_SIZE.false c.read_u32-signature.ensures c.if-signature-ne-SIGNATURE.true

pub returns-then-is_retired : goal.returns-then-is_retired
returns-then-is_retired c rest =
    let known = c.in-Some.ensures in
    fixed_retired _ _ rest _ c.if-input-lt-FIXED_HEADER_SIZE.false c.read_u32-signature.ensures _ c.if-signature-ne-SIGNATURE.false c.read_u16-raw.ensures (rw known at (type_known c.in-Some.packet_type)) _ (rw known at c.is_retired.ensures) c.if-is_retired.true

pub slice_bounds-verified-end : goal.slice_bounds-verified-end
slice_bounds-verified-end c =
    let input = c.args.input.now in
    sym (length-take-le fixed_fields_size input (omega arith))

pub header-requires : goal.header-requires
header-requires c =
    let known = c.in-Some.ensures in
    known ∙ c.read_u16-raw.ensures

pub returns-in_default : goal.returns-in_default
returns-in_default c rest =
    fixed_type _ _ rest _ c.if-input-lt-FIXED_HEADER_SIZE.false c.read_u32-signature.ensures _ c.if-signature-ne-SIGNATURE.false c.read_u16-raw.ensures c.in_default.ensures

pub returns-in-Err : goal.returns-in-Err
returns-in-Err c rest =
    let told = c.in-Err.ensures in
    let known = c.in-Some.ensures in
    fixed_fails _ _ rest _ c.if-input-lt-FIXED_HEADER_SIZE.false c.read_u32-signature.ensures _ c.if-signature-ne-SIGNATURE.false c.read_u16-raw.ensures (rw known at (type_known c.in-Some.packet_type)) _ (rw known at c.is_retired.ensures) _ c.if-is_retired.false c.read_u64-expected.ensures _ told.0 told.1

pub returns : goal.returns
returns c =
    let known = c.in-Some.ensures in
    ((λ rest. fixed_passes _ _ rest _ c.if-input-lt-FIXED_HEADER_SIZE.false c.read_u32-signature.ensures _ c.if-signature-ne-SIGNATURE.false c.read_u16-raw.ensures (rw known at (type_known c.in-Some.packet_type)) _ (rw known at c.is_retired.ensures) _ c.if-is_retired.false c.read_u64-expected.ensures c.in_default-verified.ensures), c.if-input-lt-FIXED_HEADER_SIZE.false, c.header.ensures)
