-- Which types are retired, from document 02, A12: "no live peer may send type 2. Add a live mode, chosen by the caller:
-- its reader and its writer refuse type 2. The archive mode still reads, lists and writes such packets." Assumes
-- nothing.
use Rattle.std.specs.Prelude.{ℕ, Bool, false}
use Rattle.words.specs.Decide.{◌=?◌}
use Rattle.packet.specs.declared.Mode.{Mode}
use Rattle.packet.specs.declared.Mode.TheVariants.{Archive, Live}

-- an SslAck
abbrev pub retired_type : ℕ
retired_type = 2

abbrev pub is_retired : Mode → ℕ → Bool
is_retired Archive type = false
is_retired Live type = type =? retired_type
