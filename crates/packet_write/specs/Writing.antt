-- Writing, from document 01: "Writing order: 18, 3, 4, 17", with 24 behind 18 (document 02, A12). Assumes nothing.
use Rattle.std.specs.Prelude.{ℕ, List, [], ◌∷◌, ◌++◌}
use Rattle.words.specs.Decide.{◌<?◌, Line, ◌⇒◌, decide}
use Rattle.words.specs.Answer.{Answer, accepted, refuse}
use Rattle.words.specs.Paper.{room_number}
use Rattle.words.specs.declared.outcome.Room.TheVariants.{Output}
use Rattle.packet.specs.Wire.{packet_size, parts_of}
use Rattle.packet.specs.declared.Mode.{Mode}
use Rattle.packet_check.specs.Checks.{checks}

-- 17
unfoldable pub room_lines : ℕ → ℕ → List (Line Answer)
room_lines needed given = given <? needed ⇒ refuse 17 (room_number Output ∷ needed ∷ given ∷ []) ∷ []

-- the answer to a packet of this type with the parts that a table names in an area, over an output of so many bytes
unfoldable pub writing : Mode → ℕ → List ℕ → List ℕ → ℕ → Answer
writing mode type area table given =
    let needed = packet_size type (parts_of area table) in
    decide (checks mode type area table ++ room_lines needed given) (accepted needed [])
