-- What each public function promises, by name. A lent area or table is read, and left as it was. Assumes nothing.
use Rattle.std.specs.Prelude.{ℕ, List}
use Rattle.words.specs.Statement.{Means}
use Rattle.words.specs.Paper.{Tells}
use Rattle.words.specs.declared.outcome.Outcome.{Outcome}
use Rattle.packet.specs.declared.Mode.{Mode}
use Rattle.packet.specs.declared.PacketType.{PacketType}
use Rattle.packet.specs.Paper.{type_number}
use Rattle.packet_check.specs.Checks.{validating, sizing}
use Rattle.packet_check.specs.Paper.{Validated, Measured, paper_validated, paper_measured}

abbrev pub Validates : Mode → PacketType → List ℕ → List ℕ → Validated → Type 0
Validates mode type area table r = Means paper_validated (validating mode (type_number type) area table) r

abbrev pub Measures : Mode → PacketType → List ℕ → List ℕ → Measured → Type 0
Measures mode type area table r = Means paper_measured (sizing mode (type_number type) area table) r

-- the answer in words
abbrev pub TellsMeasured : Measured → Outcome → Type 0
TellsMeasured answer r = Tells (paper_measured answer) r
