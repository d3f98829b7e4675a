-- What the private stages of reading hand on; nobody has to believe it. A stage decides some pieces of the reading
-- order: what it refuses is what their lines answer, whatever stands behind them; where it goes on, they are silent.
-- Assumes nothing.
use Rattle.std.specs.Prelude.{ℕ, ◌*◌, ◌≤◌, true, false, not, ◌&&◌, List, Option, Some, None, Result, Ok, Err, ◌≡◌, length}
use Rattle.words.specs.Answer.{Answer, accepted, more, afterwards}
use Rattle.words.specs.Decide.{Line, decide, ◌=?◌}
use Rattle.words.specs.Note.{Told, answers}
use Rattle.crc64.specs.Polynomial.{checksum}
use Rattle.packet.specs.Layout.{null_size, largest_part, fixed_header_size, fields, size, taken_before, whole}
use Rattle.packet.specs.Entries.{room, entries}
use Rattle.packet.specs.declared.Mode.{Mode}
use Rattle.packet.specs.Paper.{refusal, fields_of}
use Rattle.packet_read.specs.Reading.{fails, first_too_large, fixed_lines, variable_lines, size_lines, part_lines, room_lines}
use Rattle.packet.specs.declared.Packet.{Packet}
use Rattle.packet.specs.declared.PacketError.{PacketError}
use Rattle.packet_answer.specs.declared.Refusal.{Refusal}
use Rattle.packet_answer.specs.Paper.{Decoded, paper}

-- a piece of the order, and then `rest`
abbrev pub through : List (Line Told) → Answer → Answer
through lines rest = decide (answers lines) rest

-- pieces that answer, whatever stands behind them, and pieces that are silent
abbrev pub Stops : (Answer → Answer) → Answer → Type 0
Stops pieces answer = (rest : Answer) → pieces rest ≡ answer

abbrev pub Quiet : (Answer → Answer) → Type 0
Quiet pieces = (rest : Answer) → pieces rest ≡ rest

-- whether bytes carry the checksum stored for them
abbrev pub Verifies : ℕ → List ℕ → Result (Unit {0}) ℕ → Type 0
Verifies stored bytes (Ok done) = fails stored bytes ≡ false
Verifies stored bytes (Err actual) = (fails stored bytes ≡ true) × (actual ≡ checksum bytes)

-- the same of a part, whose size word may be the null mark
abbrev pub PartVerifies : ℕ → ℕ → List ℕ → Result (Unit {0}) ℕ → Type 0
PartVerifies size stored bytes (Ok done) = (not (size =? null_size) && fails stored bytes) ≡ false
PartVerifies size stored bytes (Err actual) =
    ((not (size =? null_size) && fails stored bytes) ≡ true) × (actual ≡ checksum bytes)

abbrev pub FixedStage : Mode → List ℕ → Result (Option Packet) PacketError → Type 0
FixedStage mode s (Ok None) = Stops (through (fixed_lines s mode)) more
FixedStage mode s (Err error) = Stops (through (fixed_lines s mode)) (refusal error 0)
FixedStage mode s (Ok (Some header)) =
    Quiet (through (fixed_lines s mode)) × (fixed_header_size ≤ length s) × (fields_of header ≡ fields s)

-- the sizes: what the first that is too large refuses under any limit, or what the parts take together
abbrev pub SizesStage : List ℕ → ℕ → Result ℕ PacketError → Type 0
SizesStage s n (Err error) = (limit : ℕ) → Stops (through (size_lines s n limit)) (refusal error 0)
SizesStage s n (Ok payload) = (first_too_large s n ≡ n) × (payload ≡ taken_before s n) × (payload ≤ n * largest_part)

-- pieces in which nothing but need-more and refusals stand; where they are silent, the whole packet is there
abbrev pub QuietOr : (Answer → Answer) → List ℕ → ℕ → Result (Option ℕ) PacketError → Type 0
QuietOr pieces s n (Ok None) = Stops pieces more
QuietOr pieces s n (Err error) = Stops pieces (refusal error 0)
QuietOr pieces s n (Ok (Some total)) = Quiet pieces × (whole s n ≤ length s) × (total ≡ whole s n)

-- behind the variable header's checksum
abbrev pub SizedStage : List ℕ → ℕ → ℕ → Result (Option ℕ) PacketError → Type 0
SizedStage s n limit = QuietOr (through (size_lines s n limit)) s n

-- the variable header, and what is behind its checksum
abbrev pub VariableStage : List ℕ → ℕ → ℕ → Result (Option ℕ) PacketError → Type 0
VariableStage s n limit =
    QuietOr (λ (rest : Answer). through (variable_lines s n limit) (through (size_lines s n limit) rest)) s n

-- the parts: what the first that fails refuses, or none does
abbrev pub PartsStage : List ℕ → ℕ → Result (Unit {0}) Refusal → Type 0
PartsStage s n (Err refused) = Stops (through (part_lines s n)) (refusal refused.error refused.consumed)
PartsStage s n (Ok done) = Quiet (through (part_lines s n))

-- all that is asked of a packet with a variable header, and what the table then holds
abbrev pub behind : List ℕ → ℕ → ℕ → ℕ → Answer → Answer
behind s n limit room rest =
    through (variable_lines s n limit)
    (through (size_lines s n limit) (through (part_lines s n) (through (room_lines n room) rest)))

pub record BodyStage (s : List ℕ) (n limit : ℕ) (table : List ℕ) (r : Decoded) (after : List ℕ) : Type 0 where
  pub answer : behind s n limit (room table) (accepted (whole s n) (fields s)) ≡ paper r
  pub tables : after ≡ afterwards (paper r) (entries s) table
