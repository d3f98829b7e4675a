-- What each public function promises, by name. Assumes nothing.
use Rattle.std.specs.Prelude.{ℕ, List}
use Rattle.words.specs.Statement.{Means, Holds}
use Rattle.packet.specs.Entries.{entries}
use Rattle.packet_answer.specs.Paper.{Decoded, paper}
use Rattle.packet_read.specs.Reading.{Limits, reading}

-- reading s under these limits answers r, and the table that held `table` holds `after`
pub record Decodes (s : List ℕ) (limits : Limits) (table : List ℕ) (r : Decoded) (after : List ℕ) : Type 0 where
  pub answer : Means paper (reading s limits) r
  pub tables : Holds (reading s limits) (entries s) table after

-- how many parts `decode` allows
abbrev pub default_ceiling : ℕ
default_ceiling = 65_536
