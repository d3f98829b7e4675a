-- What the private writers hand on: nobody has to believe it. Assumes nothing.
use Rattle.std.specs.Prelude.{ℕ, ◌≡◌, List, ◌++◌, length, replicate}
use Rattle.words.specs.Buffer.{over, stretch}
use Rattle.words.specs.Word.{bytes_of}
use Rattle.wire.specs.Layout.{padding}

-- ws stands over the front of a part that held `before`, and r is how many bytes that is
abbrev pub Puts : List ℕ → List ℕ → List ℕ → ℕ → Type 0
Puts ws before after r = (r ≡ length ws) × (after ≡ over ws before)

-- the eight bytes of a value's header
abbrev pub header_bytes : ℕ → ℕ → ℕ → ℕ → List ℕ
header_bytes id type aggregate n = bytes_of 2 id ++ (bytes_of 1 type ++ (bytes_of 1 aggregate ++ bytes_of 4 n))

-- a blob's bytes and zeros
abbrev pub blob_bytes : List ℕ → ℕ → ℕ → List ℕ
blob_bytes area offset n = stretch area offset n ++ replicate (padding n) 0
