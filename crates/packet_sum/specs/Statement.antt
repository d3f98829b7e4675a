-- What the public function promises, by name. The lent input and table are read, and left as they were. Assumes
-- nothing.
use Rattle.std.specs.Prelude.{ℕ, List, ◌≡◌}
use Rattle.crc64.specs.Polynomial.{checksum}
use Rattle.packet.specs.Entries.{lent_at}

-- the checksum of part i's stretch of the input
abbrev pub PartChecksumIs : List ℕ → List ℕ → ℕ → ℕ → Type 0
PartChecksumIs input table i r = r ≡ checksum (lent_at input table i)
