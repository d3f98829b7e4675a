-- What is told of a packet: the reading order's own lines, but for those of a lent table (document 02, A9: "no tables,
-- so 17 can't arise"). Assumes nothing.
use Rattle.std.specs.Prelude.{ℕ, List, ◌++◌}
use Rattle.words.specs.Decide.{Line}
use Rattle.words.specs.Note.{Told}
use Rattle.packet.specs.Layout.{count}
use Rattle.packet.specs.declared.Mode.{Mode}
use Rattle.packet_read.specs.Reading.{fixed_lines, count_lines, variable_lines, size_lines, part_lines}
use Rattle.finding.specs.Meaning.{Explains}
use Rattle.finding.specs.declared.Finding.{Finding}

-- of an input s with n parts, in a mode, under a byte limit and a part ceiling
unfoldable pub checks : List ℕ → ℕ → Mode → ℕ → ℕ → List (Line Told)
checks s n mode limit ceiling =
    fixed_lines s mode ++ count_lines s n ceiling ++ variable_lines s n limit ++ size_lines s n limit ++ part_lines s n

abbrev pub packet_checks : List ℕ → Mode → ℕ → ℕ → List (Line Told)
packet_checks s mode limit ceiling = checks s (count s) mode limit ceiling

abbrev pub ExplainsPacket : List ℕ → Mode → ℕ → ℕ → Finding → Type 0
ExplainsPacket s mode limit ceiling r = Explains (packet_checks s mode limit ceiling) r
