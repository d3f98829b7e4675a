-- What writing a field's name promises. Assumes nothing.
use Rattle.std.specs.Prelude.{ℕ, List}
use Rattle.words.specs.Text.{text}
use Rattle.numerals.specs.Statement.{Writes}
use Rattle.finding.specs.Meaning.{name_of}
use Rattle.finding.specs.declared.Field.{Field}

-- r is how many bytes the name has, and they stand over the front of the part that held `before`, where it has the room
abbrev pub WritesName : Field → List ℕ → ℕ → List ℕ → Type 0
WritesName field before r after = Writes (text (name_of field)) before r after
