-- A field on the wire: a tag, which is eight times the field's number and its wire type, then a payload by that type:
-- 0 a varint, 1 eight bytes, 2 a varint n and n bytes, 5 four bytes. Every offset has a field; whether it is whole, by
-- the end of the message that it stands in, is a test. Assumes nothing.
use Rattle.std.specs.Prelude.{ℕ, ◌+◌, ◌/◌, ◌%◌, Bool, false, ◌&&◌, List, [], ◌∷◌}
use Rattle.words.specs.Decide.{◌⇒◌, decide, ◌<?◌, ◌=?◌}
use Rattle.varint.specs.Varint.{varint_at, varint_end, whole_varint}
use Rattle.field.specs.declared.field.WireType.{WireType}
use Rattle.field.specs.declared.field.WireType.TheVariants.{Varint, Fixed64, Bytes, Fixed32}

-- the number of a wire type
abbrev pub type_code : WireType → ℕ
type_code Varint = 0
type_code Fixed64 = 1
type_code Bytes = 2
type_code Fixed32 = 5

-- A payload at `at` of a wire type: the varint that it begins with, what comes behind that varint, where it ends

unfoldable pub payload_value : ℕ → List ℕ → ℕ → ℕ
payload_value type s at = decide (type =? 0 ⇒ varint_at s at ∷ type =? 2 ⇒ varint_at s at ∷ []) 0

unfoldable pub payload_content : ℕ → List ℕ → ℕ → ℕ
payload_content type s at = decide (type =? 0 ⇒ varint_end s at ∷ type =? 2 ⇒ varint_end s at ∷ []) at

unfoldable pub payload_stop : ℕ → List ℕ → ℕ → ℕ
payload_stop type s at =
    decide (
    type =? 0 ⇒ varint_end s at
    ∷ type =? 1 ⇒ (at + 8)
    ∷ type =? 2 ⇒ (varint_end s at + varint_at s at)
    ∷ type =? 5 ⇒ (at + 4)
    ∷ []
    ) at

-- it ends by `end`
unfoldable pub whole_payload : ℕ → List ℕ → ℕ → ℕ → Bool
whole_payload type s at end =
    decide (
    type =? 0 ⇒ whole_varint s at end
    ∷ type =? 1 ⇒ (at + 8) <? (end + 1)
    ∷ type =? 2 ⇒ (whole_varint s at end && (varint_end s at + varint_at s at) <? (end + 1))
    ∷ type =? 5 ⇒ (at + 4) <? (end + 1)
    ∷ []
    ) false

-- The field at `at`

abbrev pub tag_at : List ℕ → ℕ → ℕ
tag_at s at = varint_at s at

abbrev pub number_at : List ℕ → ℕ → ℕ
number_at s at = tag_at s at / 8

abbrev pub type_at : List ℕ → ℕ → ℕ
type_at s at = tag_at s at % 8

abbrev pub value_at : List ℕ → ℕ → ℕ
value_at s at = payload_value (type_at s at) s (varint_end s at)

-- where the bytes of a length-delimited field begin
abbrev pub content_at : List ℕ → ℕ → ℕ
content_at s at = payload_content (type_at s at) s (varint_end s at)

abbrev pub stop_at : List ℕ → ℕ → ℕ
stop_at s at = payload_stop (type_at s at) s (varint_end s at)

-- the field is whole by `end`: its tag is below 2 ^ 32, its number not 0, its type one of the four
unfoldable pub whole_field : List ℕ → ℕ → ℕ → Bool
whole_field s at end =
    whole_varint s at end
    && (tag_at s at <? 0x1_0000_0000 && (7 <? tag_at s at && whole_payload (type_at s at) s (varint_end s at) end))
