-- What each function promises beside `checksum`, whose statement is that of crc64, for every input. Lent bytes are
-- read, and left as they were. Assumes nothing.
use Rattle.std.specs.Prelude.{ℕ, ◌≡◌, List}
use Rattle.crc64.specs.Polynomial.{fold}
use Rattle.crc64.specs.Table.{swapped}
use Rattle.crc64_combine.specs.Combined.{combined}
use Rattle.checksum.specs.declared.Crc64.{Crc64}

-- a register that is held byte-swapped, after the bytes
abbrev pub UpdatedIs : ℕ → List ℕ → ℕ → Type 0
UpdatedIs register bytes r = r ≡ swapped 8 (fold (swapped 8 register) bytes)

-- `Crc64` holds the register so
abbrev pub NewIs : Crc64 → Type 0
NewIs r = r.register ≡ 0

abbrev pub UpdateIs : Crc64 → List ℕ → Crc64 → Type 0
UpdateIs before bytes after = UpdatedIs before.register bytes after.register

-- `chain` hands back what `update` leaves
abbrev pub ChainIs : Crc64 → List ℕ → Crc64 → Type 0
ChainIs before bytes after = UpdateIs before bytes after

-- a stretch of which only the checksum and the length are known
abbrev pub AppendIs : Crc64 → ℕ → ℕ → Crc64 → Type 0
AppendIs before checksum length after =
    after.register ≡ swapped 8 (combined (swapped 8 before.register) checksum length)

abbrev pub FinishIs : Crc64 → ℕ → Type 0
FinishIs c r = r ≡ swapped 8 c.register
