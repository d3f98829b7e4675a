-- What the program `list` prints, said of the crate's function by its own statement `Lists`. Document 01: "reads
-- standard input, at most 65,536 bytes (more prints `too long`), with limits 65,536 bytes and 2,048 parts." It reads in
-- archive mode. Assumes nothing.
use Rattle.std.specs.Prelude.{ℕ, ◌+◌, ◌≤◌, ◌<◌, List, ◌++◌, ◌≡◌, length, take, drop, get_or, Ok}
use Rattle.words.specs.Answer.{accepted, more, refused}
use Rattle.words.specs.Text.{text}
use Rattle.packet.specs.Entries.{entries}
use Rattle.packet.specs.declared.Mode.TheVariants.{Archive}
use Rattle.packet_read.specs.Reading.{Limits, reading}
use Rattle.listing.specs.Text.{packet_line, part_lines, end_line, more_line, refused_line}
use Rattle.listing.specs.Statement.{Lists}

-- the limits of `list`, with room for as many parts
abbrev pub limits : Limits
limits = record { mode = Archive; bytes = 65_536; parts = 2_048; room = 2_048 }

-- the lines for an input s from an offset on, by what the reader answers to the bytes there
pub data Printed (s : List ℕ) : ℕ → List ℕ → Type 0 where
  ends : (offset : ℕ) → length s ≤ offset → Printed s offset (end_line offset)
  waits : (offset : ℕ) → offset < length s → reading (drop offset s) limits ≡ more → Printed s offset (more_line offset)
  refuses :
      (offset number : ℕ) (values : List ℕ) (consumed : ℕ) → offset < length s
      → reading (drop offset s) limits ≡ refused number values consumed
      → Printed s offset (refused_line offset number)
  goes_on :
      (offset consumed : ℕ) (fields rest : List ℕ) → offset < length s
      → reading (drop offset s) limits ≡ accepted consumed fields
      → Printed s (offset + consumed) rest
      → Printed s offset (packet_line offset fields ++ part_lines (entries (drop offset s)) (get_or fields 6 0) ++ rest)

-- What `list` wrote, given a buffer of 327,808 bytes or more, is the lines from the front of an input of at most 65,536
-- bytes, and `too long` for a longer one.
abbrev pub ListPrints : Type 0
ListPrints =
    (s before : List ℕ) (n : ℕ) (after : List ℕ) → Lists s before (Ok n) after → 327_808 ≤ length before
    → (length s ≤ 65_536 → Printed s 0 (take n after)) × (65_536 < length s → take n after ≡ text "too long\n")
