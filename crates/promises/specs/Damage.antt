-- Demand 3: damage is named. Take an input that the packet reader accepts. Change it only inside one run of at most 64
-- consecutive bits, each byte's high bit first, that lies wholly in one checksummed stretch whose stored word is not 0.
-- Then the reader refuses it by that stretch's checksum. One statement over the stretch and over the kind of damage: a
-- new refusal of the fixed header that comes before 5 is one line of `Names`. Assumes nothing.
use Rattle.std.specs.Prelude.{ℕ, ◌+◌, ◌*◌, ◌≤◌, ◌<◌, true, List, [], ◌∷◌, ◌≡◌, length, Some, Ok}
use Rattle.words.specs.Word.{Bytes}
use Rattle.words.specs.Answer.{Answer, refused, refuse}
use Rattle.words.specs.Buffer.{stretch}
use Rattle.words.specs.Decide.{decide, ◌⇒◌, ◌≠?◌, ◌<?◌}
use Rattle.crc64.specs.Polynomial.{checksum}
use Rattle.crc64.specs.Damage.{Damaged}
use Rattle.packet.specs.Layout.{packet_signature, null_size, last_type, fixed_fields_size, fixed_header_size, part_header_size, has_variable_header, signature, type, count, fixed_sum, fixed_fields, size, taken, part_sum, variable, variable_sum, start, part}
use Rattle.packet.specs.declared.Packet.{Packet}
use Rattle.packet.specs.declared.Mode.{Mode}
use Rattle.packet.specs.declared.Mode.TheVariants.{Live}
use Rattle.packet.specs.Mode.{is_retired}
use Rattle.packet_answer.specs.Paper.{Decoded, paper}
use Rattle.packet_read.specs.Statement.{Decodes, default_ceiling}
use Rattle.packet_read.specs.Reading.{Limits, limited}
use Rattle.promises.specs.BitRuns.{bits}

-- the checksummed stretches of a packet
pub data Stretch : Type 0 where
  fixed_header : Stretch
  variable_header : Stretch
  part_at : ℕ → Stretch

module _ (s : List ℕ) where
  -- the packet has it
  abbrev pub Has : Stretch → Type 0
  Has fixed_header = Unit {0}
  Has variable_header = has_variable_header (type s) (count s) ≡ true
  Has (part_at i) = (i < count s) × (size s i ≡ null_size → ⊥)

  -- where it begins, how long it is, and the checksum word stored for it
  abbrev pub from : Stretch → ℕ
  from fixed_header = 0
  from variable_header = fixed_header_size
  from (part_at i) = start s (count s) i

  abbrev pub long : Stretch → ℕ
  long fixed_header = fixed_fields_size
  long variable_header = part_header_size * count s
  long (part_at i) = taken s i

  abbrev pub stored : Stretch → ℕ
  stored fixed_header = fixed_sum s
  stored variable_header = variable_sum s (count s)
  stored (part_at i) = part_sum s (count s) i

  -- an answer to s names the stretch: by its checksum. Document 01's order looks at the signature and at the type
  -- before it verifies the fixed header, so where the damage made either of them none at all, 1 or 2 names that, and in
  -- live mode 24 names a type that the damage made a retired one (document 02, A12).
  abbrev pub Names : Mode → Stretch → Answer → Type 0
  Names mode fixed_header a =
      a
      ≡ decide
      (signature s ≠? packet_signature ⇒ refuse 1 (signature s ∷ [])
      ∷ last_type <? type s ⇒ refuse 2 (type s ∷ [])
      ∷ is_retired mode (type s) ⇒ refuse 24 (type s ∷ [])
      ∷ [])
      (refuse 5 (fixed_sum s ∷ checksum (fixed_fields s) ∷ []))
  Names mode variable_header a = a ≡ refuse 6 (variable_sum s (count s) ∷ checksum (variable s (count s)) ∷ [])
  Names mode (part_at i) a =
      a ≡ refused 7 (i ∷ part_sum s (count s) i ∷ checksum (part s (count s) i) ∷ []) (start s (count s) (i + 1))

-- t is s, altered only inside the `run` bytes from `at` on, which lie in one stretch of s
pub record Inside (s t : List ℕ) (part : Stretch) (at run : ℕ) : Type 0 where
  pub has : Has s part
  pub starts : from s part ≤ at
  pub ends : at + run ≤ from s part + long s part
  pub damaged : Damaged at run s t

-- a stretch whose stored word is not 0 has another checksum
pub record Confined (s t : List ℕ) (part : Stretch) (at run : ℕ) : Type 0 where
  pub guarded : stored s part ≡ 0 → ⊥
  pub inside : Inside s t part at run
  pub changed : checksum (stretch s (from s part) (long s part)) ≡ checksum (stretch t (from s part) (long s part)) → ⊥

-- t is s but for one stretch, and of the bits of that stretch at most 64 differ, all of them among the `run` from its
-- bit `at` on
pub record Hit (s t : List ℕ) (part : Stretch) (at run : ℕ) : Type 0 where
  pub bytes_before_lem : Bytes s
  pub bytes_after : Bytes t
  pub few : run ≤ 64
  pub guarded : stored s part ≡ 0 → ⊥
  pub inside : Inside s t part (from s part) (long s part)
  pub flipped : Damaged at run (bits (stretch s (from s part) (long s part)))
      (bits (stretch t (from s part) (long s part)))

-- the same in bytes, of which at most eight are altered, from byte `at` of the input on
pub record HitInBytes (s t : List ℕ) (part : Stretch) (at run : ℕ) : Type 0 where
  pub bytes_before_lem : Bytes s
  pub bytes_after : Bytes t
  pub few : run ≤ 8
  pub guarded : stored s part ≡ 0 → ⊥
  pub inside : Inside s t part at run

-- Of the function, by its own statement `Decodes`: an altered packet, read under the same limits, the mode and its
-- table's room among them, is answered by a refusal that names the stretch, and the lent table is left as it was.
abbrev pub NamedWhere : (List ℕ → List ℕ → Stretch → ℕ → ℕ → Type 0) → Type 0
NamedWhere Altered =
    (s t : List ℕ) (limits : Limits) (table lent : List ℕ) (packet : Packet) (consumed : ℕ) (filled : List ℕ)
    (r : Decoded) (after : List ℕ) (part : Stretch) (at run : ℕ)
    → Decodes s limits table (Ok (Some record { packet = packet; consumed = consumed })) filled
    → Altered s t part at run
    → Decodes t limits lent r after
    → Names t limits.mode part (paper r) × (after ≡ lent)

-- whatever the damage: where it is confined to one stretch and changed its checksum, it is named
abbrev pub ConfinedIsNamed : Type 0
ConfinedIsNamed = NamedWhere Confined

-- demand 3
abbrev pub DamageIsNamed : Type 0
DamageIsNamed = NamedWhere Hit

-- as document 01 counts it: eight bytes are 64 bits
abbrev pub BytesAreNamed : Type 0
BytesAreNamed = NamedWhere HitInBytes

-- of `decode_with` by the limits of its call, in either mode and under whichever ceiling, where the tables lent have
-- one length
abbrev pub NamedUnder : Mode → ℕ → Type 0
NamedUnder mode ceiling =
    (s t : List ℕ) (limit : ℕ) (table lent : List ℕ) (packet : Packet) (consumed : ℕ) (filled : List ℕ)
    (r : Decoded) (after : List ℕ) (part : Stretch) (at run : ℕ)
    → length table ≡ length lent
    → Decodes s (limited mode limit ceiling table) table (Ok (Some record { packet = packet; consumed = consumed })) filled
    → Hit s t part at run
    → Decodes t (limited mode limit ceiling lent) lent r after
    → Names t mode part (paper r) × (after ≡ lent)

abbrev pub DecodeWithNamesDamage : Type 0
DecodeWithNamesDamage = (mode : Mode) (ceiling : ℕ) → NamedUnder mode ceiling

-- and of `decode` by its own
abbrev pub DecodeNamesDamage : Type 0
DecodeNamesDamage = (mode : Mode) → NamedUnder mode default_ceiling

-- the limits of a call in live mode that allows no bytes, no parts and lends no table
abbrev pub nothing : Limits
nothing = limited Live 0 0 []

-- its premises can be met: a packet that is read, and one that a run of damage made of it
pub record DamageHappens : Type 0 where
  pub sent : List ℕ
  pub received : List ℕ
  pub packet : Packet
  pub read : Decodes sent nothing [] (Ok (Some record { packet = packet; consumed = fixed_header_size })) []
  pub hit : Hit sent received fixed_header 71 1
