-- Damage counted in bits, of the checksum alone. Document 02, A13: "damage confined to 64 consecutive bits, each
-- byte's high bit first", and "that 65 is too many". Assumes nothing.
use Rattle.std.specs.Prelude.{ℕ, zero, suc, ◌+◌, ◌*◌, ◌/◌, ◌%◌, ◌^◌, ◌≤◌, ◌≡◌, List, [], ◌∷◌, ◌++◌, length, get_or}
use Rattle.words.specs.Word.{Bytes}
use Rattle.crc64.specs.Damage.{Damaged}
use Rattle.crc64.specs.Statement.{ChecksumIs}

-- the k low bits of n, the highest first
unfoldable pub bits_of : ℕ → ℕ → List ℕ
bits_of zero n = []
bits_of (suc k) n = n / 2 ^ k % 2 ∷ bits_of k n

-- the bits of a byte string: bit 8i + j is the one of weight 2^(7 - j) in byte i
unfoldable pub bits : List ℕ → List ℕ
bits [] = []
bits (b ∷ s) = bits_of 8 b ++ bits s

-- "damage confined to 64 consecutive bits": byte strings whose bits differ, and only inside one run of at most 64 of
-- them, have different checksums
abbrev pub Bits64Seen : Type 0
Bits64Seen =
    (a b : List ℕ) (from count sumA sumB : ℕ) → Bytes a → Bytes b → count ≤ 64 → Damaged from count (bits a) (bits b)
    → ChecksumIs a sumA → ChecksumIs b sumB → sumA ≡ sumB → ⊥

-- a run of bytes is a run of eight times as many bits
abbrev pub BytesAreBits : Type 0
BytesAreBits =
    (a b : List ℕ) (at n : ℕ) → Bytes a → Bytes b → Damaged at n a b → Damaged (8 * at) (8 * n) (bits a) (bits b)

-- another byte string, damaged over the 65 bits from `from` on, the first and the last of them included, with the
-- same checksum
pub record Unseen (a : List ℕ) (from : ℕ) : Type 0 where
  pub other : List ℕ
  pub are_bytes : Bytes other
  pub damaged : Damaged from 65 (bits a) (bits other)
  pub first : get_or (bits a) from 0 ≡ get_or (bits other) from 0 → ⊥
  pub last : get_or (bits a) (from + 64) 0 ≡ get_or (bits other) (from + 64) 0 → ⊥
  pub same_checksum : (sum : ℕ) → ChecksumIs a sum → ChecksumIs other sum

-- "for each stretch of at least nine bytes some damage over 65 consecutive bits leaves its checksum unchanged":
-- wherever the 65 fit
abbrev pub Bits65Unseen : Type 0
Bits65Unseen = (a : List ℕ) (from : ℕ) → Bytes a → from + 65 ≤ 8 * length a → Unseen a from
