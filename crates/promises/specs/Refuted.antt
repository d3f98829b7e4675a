-- The promises with one word changed, each of which is false: a theorem beside it has the witness. So each of those
-- words is needed. Assumes nothing.
use Rattle.std.specs.Prelude.{ℕ, zero, suc, ◌+◌, ◌*◌, ◌/◌, ◌%◌, ◌≤◌, List, [], ◌∷◌, ◌++◌, ◌≡◌, length, take, Some, Ok}
use Rattle.words.specs.Word.{Bytes}
use Rattle.words.specs.Answer.{more, refuse}
use Rattle.words.specs.Buffer.{stretch}
use Rattle.crc64.specs.Polynomial.{checksum}
use Rattle.crc64.specs.Damage.{Damaged}
use Rattle.crc64.specs.Statement.{ChecksumIs}
use Rattle.packet.specs.Layout.{count, fixed_sum, fixed_fields}
use Rattle.packet_read.specs.Reading.{Limits, reading}
use Rattle.packet.specs.declared.Packet.{Packet}
use Rattle.packet.specs.declared.Mode.TheVariants.{Archive}
use Rattle.packet_answer.specs.Paper.{Decoded, paper}
use Rattle.packet_read.specs.Statement.{Decodes}
use Rattle.promises.specs.BitRuns.{bits, Unseen}
use Rattle.promises.specs.Damage.{Stretch, fixed_header, Has, from, long, stored, Inside, Hit, Names, NamedWhere}
use Rattle.promises.specs.RoundTrip.{Message, wire, wire_size, Valid, Held}

-- a stretch of s as it stands in s and in t
abbrev Both : (List ℕ → List ℕ) → List ℕ → List ℕ → Stretch → ℕ → ℕ → Type 0
Both order s t part at run =
    Damaged at run (order (stretch s (from s part) (long s part))) (order (stretch t (from s part) (long s part)))

-- a run of 65 bits: the polynomial with its top term leaves the checksum
pub record HitOf65 (s t : List ℕ) (part : Stretch) (at run : ℕ) : Type 0 where
  pub bytes_before_lem : Bytes s
  pub bytes_after : Bytes t
  pub few : run ≤ 65
  pub guarded : stored s part ≡ 0 → ⊥
  pub inside : Inside s t part (from s part) (long s part)
  pub flipped : Both bits s t part at run

abbrev pub SixtyFiveAreNamed : Type 0
SixtyFiveAreNamed = NamedWhere HitOf65

-- the bits of each byte with the low one first
unfoldable pub low_first : ℕ → ℕ → List ℕ
low_first zero n = []
low_first (suc k) n = n % 2 ∷ low_first k (n / 2)

unfoldable pub low_bits : List ℕ → List ℕ
low_bits [] = []
low_bits (b ∷ s) = low_first 8 b ++ low_bits s

pub record HitLowFirst (s t : List ℕ) (part : Stretch) (at run : ℕ) : Type 0 where
  pub bytes_before_lem : Bytes s
  pub bytes_after : Bytes t
  pub few : run ≤ 64
  pub guarded : stored s part ≡ 0 → ⊥
  pub inside : Inside s t part (from s part) (long s part)
  pub flipped : Both low_bits s t part at run

abbrev pub LowFirstIsNamed : Type 0
LowFirstIsNamed = NamedWhere HitLowFirst

-- a stretch whose stored word is 0
pub record HitUnguarded (s t : List ℕ) (part : Stretch) (at run : ℕ) : Type 0 where
  pub bytes_before_lem : Bytes s
  pub bytes_after : Bytes t
  pub few : run ≤ 64
  pub inside : Inside s t part (from s part) (long s part)
  pub flipped : Both bits s t part at run

abbrev pub UnguardedIsNamed : Type 0
UnguardedIsNamed = NamedWhere HitUnguarded

-- a run of the input's bits that begins in its stretch and reaches past it
pub record HitPast (s t : List ℕ) (part : Stretch) (at run : ℕ) : Type 0 where
  pub bytes_before_lem : Bytes s
  pub bytes_after : Bytes t
  pub few : run ≤ 64
  pub guarded : stored s part ≡ 0 → ⊥
  pub has : Has s part
  pub starts : 8 * from s part ≤ at
  pub ends : at ≤ 8 * (from s part + long s part)
  pub flipped : Damaged at run (bits s) (bits t)

abbrev pub PastIsNamed : Type 0
PastIsNamed = NamedWhere HitPast

-- 64 bits are too many already
pub record UnseenIn64 (a : List ℕ) (from : ℕ) : Type 0 where
  pub other : List ℕ
  pub are_bytes : Bytes other
  pub damaged : Damaged from 64 (bits a) (bits other)
  pub same_checksum : (sum : ℕ) → ChecksumIs a sum → ChecksumIs other sum

abbrev pub SixtyFourUnseen : Type 0
SixtyFourUnseen = (a : List ℕ) (from : ℕ) → Bytes a → from + 64 ≤ 8 * length a → UnseenIn64 a from

-- a stretch of eight bytes has unseen damage too
abbrev pub EightBytesUnseen : Type 0
EightBytesUnseen = (a : List ℕ) → Bytes a → length a ≡ 8 → Unseen a 0

-- damage to the fixed header is always named by 5
abbrev pub AlwaysBy5 : Type 0
AlwaysBy5 =
    (s t : List ℕ) (limits : Limits) (table : List ℕ) (packet : Packet) (consumed : ℕ) (filled : List ℕ)
    (r : Decoded) (after : List ℕ) (at run : ℕ)
    → Decodes s limits table (Ok (Some record { packet = packet; consumed = consumed })) filled
    → Hit s t fixed_header at run
    → Decodes t limits table r after
    → paper r ≡ refuse 5 (fixed_sum t ∷ checksum (fixed_fields t) ∷ [])

-- in live mode too damage to the fixed header is named by 1, 2 or 5 alone
abbrev pub NamedWithout24 : Type 0
NamedWithout24 =
    (s t : List ℕ) (limits : Limits) (table : List ℕ) (packet : Packet) (consumed : ℕ) (filled : List ℕ)
    (r : Decoded) (after : List ℕ) (at run : ℕ)
    → Decodes s limits table (Ok (Some record { packet = packet; consumed = consumed })) filled
    → Hit s t fixed_header at run
    → Decodes t limits table r after
    → Names t Archive fixed_header (paper r)

-- the whole packet counts as a prefix of itself
abbrev pub PrefixOrWhole : Type 0
PrefixOrWhole =
    (m : Message) (limits : Limits) (k : ℕ) → Valid m → Held m limits → k ≤ wire_size m
    → reading (take k (wire m)) limits ≡ more

-- a packet is read back under any byte limit
abbrev pub RoundTripUnderAnyLimit : Type 0
RoundTripUnderAnyLimit =
    (m : Message) (limits : Limits) → Valid m → length m.parts ≤ limits.parts → length m.parts ≤ limits.room
    → (fields : List ℕ) → reading (wire m) limits ≡ refuse 8 fields → ⊥

-- the ceiling alone bounds the parts
abbrev pub CeilingAlone : Type 0
CeilingAlone =
    (s : List ℕ) (limits : Limits) → count s ≤ limits.parts
    → (fields : List ℕ) → reading s limits ≡ refuse 3 fields → ⊥

-- an accepted packet leaves the table as it was
abbrev pub AcceptanceLeavesTables : Type 0
AcceptanceLeavesTables =
    (s : List ℕ) (limits : Limits) (table : List ℕ) (r : Decoded) (after : List ℕ) → Decodes s limits table r after
    → after ≡ table
