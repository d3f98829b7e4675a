-- What each exported function that reads packets promises, by name: its outcome is that of the answer that the
-- library's definitions give, and a lent buffer holds afterwards what they say. Assumes nothing.
use Rattle.std.specs.Prelude.{ℕ, List}
use Rattle.words.specs.Paper.{Tells}
use Rattle.words.specs.Statement.{Holds}
use Rattle.words.specs.declared.outcome.Outcome.{Outcome}
use Rattle.packet.specs.Entries.{entries}
use Rattle.packet_mode.specs.Statement.{mode_of}
use Rattle.packet_read.specs.Reading.{limited, reading}

abbrev pub Decodes : ℕ → List ℕ → ℕ → ℕ → List ℕ → Outcome → List ℕ → Type 0
Decodes mode s limit ceiling table r after =
    let answer = reading s (limited (mode_of mode) limit ceiling table) in
    Tells answer r × Holds answer (entries s) table after
