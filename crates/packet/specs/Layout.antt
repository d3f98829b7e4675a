-- The layout of a packet, from document 01: "Bytes 0-3 signature 0x78616d4f, 4-5 type, 6-7 flags, 8-23 id, 24-27 part
-- count n, 28-35 checksum of bytes 0-27. A Message always, the others only with n > 0, then have n sizes (4 bytes
-- each), n part checksums (8 each), the checksum of those 12n bytes (8), and the parts. Size 0xffffffff means null, 0
-- means empty." Assumes nothing.
use Rattle.std.specs.Prelude.{ℕ, zero, suc, ◌+◌, ◌*◌, ◌^◌, Bool, ◌||◌, List, [], ◌∷◌, take}
use Rattle.words.specs.Word.{word}
use Rattle.words.specs.Buffer.{stretch}
use Rattle.words.specs.Decide.{pick, ◌=?◌, ◌<?◌}
use Rattle.guid.specs.declared.Guid.{Guid}
use Rattle.guid.specs.Guid.{guid_at}

abbrev pub packet_signature : ℕ
packet_signature = 0x7861_6d4f

-- where the fields of the fixed header stand
abbrev pub type_at : ℕ
type_at = 4

abbrev pub flags_at : ℕ
flags_at = 6

abbrev pub id_at : ℕ
id_at = 8

abbrev pub count_at : ℕ
count_at = 24

-- how long its fields are, which its checksum covers, and it itself
abbrev pub fixed_fields_size : ℕ
fixed_fields_size = 28

abbrev pub fixed_header_size : ℕ
fixed_header_size = 36

-- a part's size word and its checksum word, and both
abbrev pub size_bytes : ℕ
size_bytes = 4

abbrev pub checksum_bytes : ℕ
checksum_bytes = 8

abbrev pub part_header_size : ℕ
part_header_size = 12

-- the size word of a null part
abbrev pub null_size : ℕ
null_size = 0xffff_ffff

-- the largest size, and the largest number of parts, that a packet may have
abbrev pub largest_part : ℕ
largest_part = 2 ^ 30

abbrev pub most_parts : ℕ
most_parts = 2 ^ 28

-- types: 0 Message, 1 Ack, 2 SslAck
abbrev pub last_type : ℕ
last_type = 2

abbrev pub has_variable_header : ℕ → ℕ → Bool
has_variable_header type n = type =? 0 || 0 <? n

-- how long both headers of a packet with a variable header of no parts are, and of n parts
abbrev pub headers_size : ℕ
headers_size = 44

abbrev pub headers : ℕ → ℕ
headers n = headers_size + part_header_size * n

-- where the size word and the checksum word of part i of n stand, and the checksum of the variable header
abbrev pub size_place : ℕ → ℕ
size_place i = fixed_header_size + size_bytes * i

abbrev pub sum_place : ℕ → ℕ → ℕ
sum_place n i = fixed_header_size + size_bytes * n + checksum_bytes * i

abbrev pub variable_sum_place : ℕ → ℕ
variable_sum_place n = fixed_header_size + part_header_size * n

-- the fields of the fixed header that an input s begins with
module _ (s : List ℕ) where
  abbrev pub signature : ℕ
  signature = word 4 s 0

  abbrev pub type : ℕ
  type = word 2 s type_at

  abbrev pub flags : ℕ
  flags = word 2 s flags_at

  abbrev pub id : Guid
  id = guid_at s id_at

  abbrev pub count : ℕ
  count = word 4 s count_at

  abbrev pub fixed_sum : ℕ
  fixed_sum = word 8 s fixed_fields_size

  abbrev pub fixed_fields : List ℕ
  fixed_fields = take fixed_fields_size s

  -- what an accepted packet answers: type, flags, the four words of its id, how many parts
  abbrev pub fields : List ℕ
  fields = type ∷ flags ∷ id.w0 ∷ id.w1 ∷ id.w2 ∷ id.w3 ∷ count ∷ []

  -- the size word of part i
  abbrev pub size : ℕ → ℕ
  size i = word 4 s (size_place i)

  abbrev pub is_null : ℕ → Bool
  is_null i = size i =? null_size

  -- the bytes that part i takes
  abbrev pub taken : ℕ → ℕ
  taken i = pick (is_null i) 0 (size i)

  -- the bytes that the parts before part i take
  unfoldable pub taken_before : ℕ → ℕ
  taken_before zero = 0
  taken_before (suc i) = taken_before i + taken i

  -- in an input with n parts
  module _ (n : ℕ) where
    -- the checksum word of part i
    abbrev pub part_sum : ℕ → ℕ
    part_sum i = word 8 s (sum_place n i)

    -- the sizes and the part checksums, and the checksum word behind them
    abbrev pub variable : List ℕ
    variable = stretch s fixed_header_size (part_header_size * n)

    abbrev pub variable_sum : ℕ
    variable_sum = word 8 s (variable_sum_place n)

    -- where part i begins, the whole packet's length among these: where part n would
    abbrev pub start : ℕ → ℕ
    start i = headers n + taken_before i

    abbrev pub whole : ℕ
    whole = start n

    abbrev pub part : ℕ → List ℕ
    part i = stretch s (start i) (taken i)
