-- What the private writers speak of, the size words by the table's entries, and the output while the checksum of both
-- is still to come; nobody has to believe it. Assumes nothing.
use Rattle.std.specs.Prelude.{ℕ, zero, suc, ◌+◌, ◌*◌, List, [], ◌++◌, take, drop}
use Rattle.words.specs.Decide.{pick}
use Rattle.words.specs.Word.{bytes_of}
use Rattle.words.specs.Buffer.{over}
use Rattle.packet.specs.Layout.{null_size, checksum_bytes}
use Rattle.packet.specs.Entries.{is_null, offset_at, size_at, room}
use Rattle.packet.specs.Wire.{sums, contents, parts_of}

-- the size word of an entry
abbrev pub entry_size : ℕ → ℕ → ℕ
entry_size offset size = pick (is_null offset size) null_size size

-- those of k entries, from entry i on
unfoldable pub entry_sizes : List ℕ → ℕ → ℕ → List ℕ
entry_sizes table i zero = []
entry_sizes table i (suc k) = bytes_of 4 (entry_size (offset_at table i) (size_at table i)) ++ entry_sizes table (i + 1) k

-- where the parts begin, from their checksum words on
abbrev pub parts_at : List ℕ → ℕ
parts_at table = checksum_bytes * room table + checksum_bytes

-- an output from there on, with the checksum words over its front and the parts at their place
abbrev pub parted : List ℕ → List ℕ → List ℕ → List ℕ
parted area table out =
    over (sums (parts_of area table)) (take (parts_at table) out)
    ++ over (contents (parts_of area table)) (drop (parts_at table) out)
