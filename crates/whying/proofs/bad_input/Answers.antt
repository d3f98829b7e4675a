-- `bad_input` meets its contract: no room, or the line. Assumes nothing.
use native.Mathlib.Omega.{arith}
use Rattle.words.specs.Text.{text}
use Rattle.why_text.proofs.LineLaws.{no_room}
use Rattle.whying.proofs.OutputLaws.{bad_written}
use Rattle.whying.proofs.bad_input.Goals as goal

pub returns-then-out-lt-LINE_ROOM : goal.returns-then-out-lt-LINE_ROOM
returns-then-out-lt-LINE_ROOM c = let a = c.args in record { writes = no_room (text "bad input\n") a.out.now c.if-out-lt-LINE_ROOM.true; fits = tt }

pub returns : goal.returns
returns c =
    let a = c.args in
    let roomy = c.if-out-lt-LINE_ROOM.false in
    record { writes = bad_written a.out.now _ roomy c.write_bytes.ensures; fits = omega (arith, roomy) }
