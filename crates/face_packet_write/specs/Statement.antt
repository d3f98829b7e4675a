-- What the exported function that writes packets promises, by name: its outcome is that of the answer that the
-- library's definitions give, and the output holds afterwards what they say. Assumes nothing.
use Rattle.std.specs.Prelude.{ℕ, List, length}
use Rattle.words.specs.Paper.{Tells}
use Rattle.words.specs.Statement.{Holds}
use Rattle.words.specs.declared.outcome.Outcome.{Outcome}
use Rattle.guid.specs.Guid.{guid_at}
use Rattle.packet.specs.Wire.{packet_bytes, parts_of}
use Rattle.packet_mode.specs.Statement.{mode_of}
use Rattle.packet_write.specs.Writing.{writing}
use Rattle.face_parts.specs.Statement.{typed}

abbrev pub Encodes : ℕ → ℕ → ℕ → List ℕ → List ℕ → List ℕ → List ℕ → Outcome → List ℕ → Type 0
Encodes mode type flags id area table out r after =
    let answer = typed type (writing (mode_of mode) type area table (length out)) in
    Tells answer r × Holds answer (packet_bytes type flags (guid_at id 0) (parts_of area table)) out after
