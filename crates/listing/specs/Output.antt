-- The whole output of `list` for an input, after document 01: it "reads standard input, at most 65,536 bytes (more
-- prints `too long`), with limits 65,536 bytes and 2,048 parts". It reads in archive mode, which "still reads, lists
-- and writes such packets" (document 02, A12). Assumes nothing.
use Rattle.std.specs.Prelude.{ℕ, zero, suc, ◌+◌, List, [], ◌∷◌, ◌++◌, leb, length, drop, get_or}
use Rattle.words.specs.Decide.{pick, decide, ◌<?◌}
use Rattle.words.specs.Answer.{Answer, accepted, more, refused}
use Rattle.words.specs.Paper.{room_line}
use Rattle.words.specs.Text.{text}
use Rattle.words.specs.declared.outcome.Room.TheVariants.{Output}
use Rattle.packet.specs.declared.Mode.TheVariants.{Archive}
use Rattle.packet_read.specs.Reading.{Limits, reading}
use Rattle.packet.specs.Entries.{entries}
use Rattle.listing.specs.Text.{packet_line, part_lines, end_line, more_line, refused_line}

abbrev pub most_bytes : ℕ
most_bytes = 65_536

abbrev pub byte_limit : ℕ
byte_limit = 65_536

abbrev pub part_ceiling : ℕ
part_ceiling = 2_048

-- the part table has room for every part that the ceiling allows
abbrev pub limits : Limits
limits = record { mode = Archive; bytes = byte_limit; parts = part_ceiling; room = part_ceiling }

-- the reader's answer to the packet at an offset
abbrev pub answer : List ℕ → ℕ → Answer
answer s offset = reading (drop offset s) limits

-- the lines for the packet at an offset, and then those for what is behind it
abbrev pub answered : List ℕ → ℕ → (ℕ → List ℕ) → Answer → List ℕ
answered s offset later (accepted consumed fields) =
    packet_line offset fields ++ part_lines (entries (drop offset s)) (get_or fields 6 0) ++ later (offset + consumed)
answered s offset later more = more_line offset
answered s offset later (refused number values consumed) = refused_line offset number

unfoldable pub lines_then : List ℕ → ℕ → (ℕ → List ℕ) → List ℕ
lines_then s offset later = pick (leb (length s) offset) (end_line offset) (answered s offset later (answer s offset))

-- the lines from an offset on, of at most so many packets
unfoldable pub lines_from : ℕ → List ℕ → ℕ → List ℕ
lines_from zero s offset = []
lines_from (suc left) s offset = lines_then s offset (lines_from left s)

-- a packet takes at least a byte, so there are fewer steps than this
unfoldable pub output : List ℕ → List ℕ
output s = pick (most_bytes <? length s) (text "too long\n") (lines_from (length s + 1) s 0)

-- a buffer of so many bytes takes the text of every input: five for a byte of input, and a last line
abbrev pub text_room : ℕ
text_room = 327_808

-- the answer to an input and an output buffer of so many bytes
abbrev pub listing : List ℕ → ℕ → Answer
listing s given = decide (room_line Output text_room given ∷ []) (accepted (length (output s)) [])
