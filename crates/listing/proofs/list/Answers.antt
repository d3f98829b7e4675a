-- `list` meets its contract: no room, too long, or the lines. Assumes nothing.
use mathlib.Core.Path.{refl}
use Rattle.listing.proofs.WalkLaws.{text_fits, output_short, output_too_long, output_lines}
use Rattle.listing.proofs.list.Goals as goal

pub returns-then-out-lt-TEXT_ROOM : goal.returns-then-out-lt-TEXT_ROOM
returns-then-out-lt-TEXT_ROOM c = let a = c.args in record { lists = output_short a.input.now a.out.now c.if-out-lt-TEXT_ROOM.true; fits = tt }

pub returns-then-input-gt-MAX_INPUT : goal.returns-then-input-gt-MAX_INPUT
returns-then-input-gt-MAX_INPUT c = let a = c.args in
    let wrote = c.put_bytes in
    record { lists = output_too_long a.input.now a.out.now c.if-out-lt-TEXT_ROOM.false c.if-input-gt-MAX_INPUT.true wrote.ensures; fits = text_fits wrote.ensures wrote.auto.out }

pub slice_bounds-parts-end : goal.slice_bounds-parts-end
slice_bounds-parts-end c = refl

pub lines-requires : goal.lines-requires
lines-requires c = (c.if-input-gt-MAX_INPUT.false, c.if-out-lt-TEXT_ROOM.false, refl)

pub returns : goal.returns
returns c = let a = c.args in
    let wrote = c.lines in
    record { lists = output_lines a.input.now a.out.now c.if-out-lt-TEXT_ROOM.false c.if-input-gt-MAX_INPUT.false wrote.ensures; fits = text_fits wrote.ensures wrote.auto.out }
