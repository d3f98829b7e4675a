-- Writing a packet and reading it: what comes back. Document 01: "Writing a valid packet and reading it with any tail,
-- under limits and room that hold it, gives back its type, flags, id, nulls and part bytes and consumes exactly its
-- bytes; each strict prefix gives need-more." Both sides cite one definition of what a packet is on the wire,
-- `packet_bytes`. Assumes nothing.
use Rattle.std.specs.Prelude.{ℕ, ◌^◌, ◌≤◌, ◌<◌, true, false, List, [], ◌∷◌, ◌++◌, ◌≡◌, length, get_or, take}
use Rattle.words.specs.Answer.{accepted, more}
use Rattle.packet.specs.Layout.{null_size, largest_part, most_parts, last_type, has_variable_header, size, part}
use Rattle.packet.specs.Mode.{is_retired}
use Rattle.packet_read.specs.Reading.{Limits, reading}
use Rattle.packet.specs.declared.PacketType.{PacketType}
use Rattle.packet.specs.declared.PacketFlags.{PacketFlags}
use Rattle.packet.specs.Paper.{type_number}
use Rattle.packet.specs.Wire.{Part, null, bytes, content, packet_bytes, packet_size, parts_of}
use Rattle.guid.specs.declared.Guid.{Guid}
use Rattle.guid.specs.Guid.{Fitting}

-- a packet's fields and parts
pub record Message : Type 0 where
  pub type : ℕ
  pub flags : ℕ
  pub id : Guid
  pub parts : List Part

-- its bytes, and how many
abbrev pub wire : Message → List ℕ
wire m = packet_bytes m.type m.flags m.id m.parts

abbrev pub wire_size : Message → ℕ
wire_size m = packet_size m.type m.parts

-- what the reader answers to it
abbrev pub fields_for : Message → List ℕ
fields_for m = m.type ∷ m.flags ∷ m.id.w0 ∷ m.id.w1 ∷ m.id.w2 ∷ m.id.w3 ∷ length m.parts ∷ []

-- it can be written: each field fits its word, and the parts are within the protocol's limits
pub record Valid (m : Message) : Type 0 where
  pub known : m.type ≤ last_type
  pub flags_fit : m.flags < 2 ^ 16
  pub id_fits : Fitting m.id
  pub few : length m.parts ≤ most_parts
  pub small : (i : ℕ) → i < length m.parts → length (content (get_or m.parts i null)) ≤ largest_part

-- limits and room that hold it: in live mode those of a type that is not retired, 0 or 1
pub record Held (m : Message) (limits : Limits) : Type 0 where
  pub current : is_retired limits.mode m.type ≡ false
  pub counted : length m.parts ≤ limits.parts
  pub within : has_variable_header m.type (length m.parts) ≡ true → wire_size m ≤ limits.bytes
  pub roomy : length m.parts ≤ limits.room

-- part i of n in an input s is this one: null, or these bytes
abbrev pub ReadsPart : List ℕ → ℕ → ℕ → Part → Type 0
ReadsPart s n i null = size s i ≡ null_size
ReadsPart s n i (bytes b) = (size s i ≡ length b) × (part s n i ≡ b)

-- what was written is read back, with any tail, and just its bytes are consumed
abbrev pub RoundTrip : Type 0
RoundTrip =
    (m : Message) (limits : Limits) (tail : List ℕ) → Valid m → Held m limits
    → (reading (wire m ++ tail) limits ≡ accepted (wire_size m) (fields_for m))
    × ((i : ℕ) → i < length m.parts → ReadsPart (wire m ++ tail) (length m.parts) i (get_or m.parts i null))

-- each strict prefix asks for more
abbrev pub StrictPrefix : Type 0
StrictPrefix =
    (m : Message) (limits : Limits) (k : ℕ) → Valid m → Held m limits → k < wire_size m
    → reading (take k (wire m)) limits ≡ more

-- what `encode` is given, as such a packet
abbrev pub given : PacketType → PacketFlags → Guid → List ℕ → List ℕ → Message
given type flags id area table =
    record { type = type_number type; flags = flags.0; id = id; parts = parts_of area table }
