-- What a packet is on the wire, as one function from its fields and parts to bytes. Document 01: "Bytes 0-3 signature,
-- 4-5 type, 6-7 flags, 8-23 id, 24-27 part count n, 28-35 checksum of bytes 0-27. A Message always, the others only
-- with n > 0, then have n sizes (4 bytes each), n part checksums (8 each), the checksum of those 12n bytes (8), and the
-- parts." Assumes nothing.
use Rattle.std.specs.Prelude.{ℕ, zero, suc, ◌+◌, List, [], ◌∷◌, ◌++◌, length}
use Rattle.words.specs.Word.{bytes_of}
use Rattle.words.specs.Decide.{pick}
use Rattle.crc64.specs.Polynomial.{checksum}
use Rattle.guid.specs.declared.Guid.{Guid}
use Rattle.guid.specs.Guid.{wire_bytes}
use Rattle.packet.specs.Layout.{packet_signature, null_size, has_variable_header, fixed_header_size, headers}
use Rattle.packet.specs.Entries.{room, null_at, stretch_at}

pub data Part : Type 0 where
  null : Part
  bytes : List ℕ → Part

-- "Size 0xffffffff means null, 0 means empty."
abbrev pub size_word : Part → ℕ
size_word null = null_size
size_word (bytes bs) = length bs

-- the checksum of a part that is not null is always computed; "null parts get 0"
abbrev pub sum_word : Part → ℕ
sum_word null = 0
sum_word (bytes bs) = checksum bs

abbrev pub content : Part → List ℕ
content null = []
content (bytes bs) = bs

unfoldable pub sizes : List Part → List ℕ
sizes [] = []
sizes (p ∷ ps) = bytes_of 4 (size_word p) ++ sizes ps

unfoldable pub sums : List Part → List ℕ
sums [] = []
sums (p ∷ ps) = bytes_of 8 (sum_word p) ++ sums ps

unfoldable pub contents : List Part → List ℕ
contents [] = []
contents (p ∷ ps) = content p ++ contents ps

-- bytes, and behind them their checksum
unfoldable pub sealed : List ℕ → List ℕ
sealed bs = bs ++ bytes_of 8 (checksum bs)

-- bytes 0-27: type, flags, id, part count
unfoldable pub fixed_fields : ℕ → ℕ → Guid → ℕ → List ℕ
fixed_fields type flags id n =
    bytes_of 4 packet_signature ++ (bytes_of 2 type ++ (bytes_of 2 flags ++ (wire_bytes id ++ bytes_of 4 n)))

-- what follows the fixed header
unfoldable pub body : List Part → List ℕ
body parts = sealed (sizes parts ++ sums parts) ++ contents parts

unfoldable pub packet_bytes : ℕ → ℕ → Guid → List Part → List ℕ
packet_bytes type flags id parts =
    sealed (fixed_fields type flags id (length parts)) ++ pick (has_variable_header type (length parts)) (body parts) []

-- how many bytes that is: of n parts that take so many
abbrev pub size_of : ℕ → ℕ → ℕ → ℕ
size_of type n taken = pick (has_variable_header type n) (headers n + taken) fixed_header_size

unfoldable pub packet_size : ℕ → List Part → ℕ
packet_size type parts = size_of type (length parts) (length (contents parts))

-- the parts that a table names in an area
module _ (area table : List ℕ) where
  abbrev pub part_at : ℕ → Part
  part_at i = pick (null_at table i) null (bytes (stretch_at area table i))

  -- k of them, from part i on
  unfoldable pub parts_from : ℕ → ℕ → List Part
  parts_from i zero = []
  parts_from i (suc k) = part_at i ∷ parts_from (i + 1) k

  abbrev pub parts_of : List Part
  parts_of = parts_from 0 (room table)
