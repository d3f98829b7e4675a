-- What only private contracts cite, and nobody has to believe: the wire type and the content of a field whose tag has
-- been read. Assumes nothing.
use Rattle.std.specs.Prelude.{ℕ, ◌+◌, ◌%◌, ◌<◌, ◌≤◌, ◌≡◌, ◌≢◌, true, false, List, Option, Some, None}
use Rattle.field.specs.Field.{type_code, payload_value, payload_content, payload_stop, whole_payload}
use Rattle.field.specs.declared.field.Payload.{Payload}
use Rattle.field.specs.declared.field.WireType.{WireType}

-- the wire type of a tag; or none of the four
abbrev pub TypesTag : ℕ → Option WireType → Type 0
TypesTag tag (Some wire) = type_code wire ≡ tag % 8
TypesTag tag None = (tag % 8 ≢ 0) × (tag % 8 ≢ 1) × (tag % 8 ≢ 2) × (tag % 8 ≢ 5)

abbrev pub ReadsPayload : ℕ → List ℕ → ℕ → ℕ → Option Payload → Type 0
ReadsPayload type s at end (Some p) =
    (whole_payload type s at end ≡ true) × (p.value ≡ payload_value type s at) × (p.content ≡ payload_content type s at)
    × (p.stop ≡ payload_stop type s at)
    × (at ≤ p.content) × (p.content ≤ p.stop) × (p.stop ≤ end)
ReadsPayload type s at end None = whole_payload type s at end ≡ false

-- so many bytes, whatever they are
abbrev pub ReadsFixed : ℕ → ℕ → ℕ → Option Payload → Type 0
ReadsFixed size at end (Some p) =
    (at + size ≤ end) × (p.value ≡ 0) × (p.content ≡ at) × (p.stop ≡ at + size)
ReadsFixed size at end None = end < at + size
