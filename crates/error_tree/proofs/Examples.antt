-- Worked examples of the readings, by computing. Assumes nothing.
use mathlib.Core.Path.{◌≡◌, refl}
use mathlib.Core.List.{[], ◌∷◌}
use Rattle.words.specs.Answer.{accepted, refuse}
use Rattle.varint.specs.Varint.{size_in, value_in}
use Rattle.field.specs.Field.{payload_value, payload_content, payload_stop, whole_payload, whole_field}
use Rattle.error_tree.specs.Message.{wire_type, whole_in, fields_in, latest}
use Rattle.error_tree.specs.Tree.{dictionary, field_parts, parts_with, inner_part, tree, error_count, attribute_count, error_words, attribute_words}
use Rattle.error_tree.specs.Reading.{check_fields, check_entry, check_field, check_inner, room_order, reading}

-- empty input is one error in which everything is absent
empty : reading [] 4 0 ≡ accepted 0 (1 ∷ 0 ∷ [])
unfolding reading room_order check_fields check_entry check_field check_inner tree parts_with field_parts inner_part dictionary error_count attribute_count fields_in whole_in wire_type whole_field whole_payload payload_stop payload_content payload_value size_in value_in latest
empty = refl

-- 22 03 12 02 61 62: a text that reaches past its error fails itself, though the input goes on
past : reading (0x22 ∷ 3 ∷ 0x12 ∷ 2 ∷ 0x61 ∷ 0x62 ∷ []) 8 0 ≡ refuse 22 (2 ∷ [])
unfolding reading room_order check_fields check_entry check_field check_inner tree parts_with field_parts inner_part dictionary error_count attribute_count fields_in whole_in wire_type whole_field whole_payload payload_stop payload_content payload_value size_in value_in latest
past = refl

-- 12 01 61 12 00: the last text counts, empty, at 5
last_text : error_words 1 (tree (0x12 ∷ 1 ∷ 0x61 ∷ 0x12 ∷ 0 ∷ [])) ≡ 0 ∷ 1 ∷ 5 ∷ 0 ∷ []
unfolding error_words tree parts_with field_parts inner_part dictionary error_count attribute_count fields_in whole_in wire_type whole_field whole_payload payload_stop payload_content payload_value size_in value_in latest
last_text = refl

-- 22 04 1a 02 0a 00 1a 02 0a 00: the inner error's attribute comes first
wire_order : attribute_words 0 0 (tree (0x22 ∷ 4 ∷ 0x1a ∷ 2 ∷ 0x0a ∷ 0 ∷ 0x1a ∷ 2 ∷ 0x0a ∷ 0 ∷ [])) ≡ 1 ∷ 0 ∷ 0 ∷ 0 ∷ 0 ∷ 0 ∷ 0 ∷ 0 ∷ 0 ∷ 0 ∷ []
unfolding attribute_words tree parts_with field_parts inner_part dictionary error_count attribute_count fields_in whole_in wire_type whole_field whole_payload payload_stop payload_content payload_value size_in value_in latest
wire_order = refl

-- 08 then -1 in ten bytes: the low 32 bits
minus_one : error_words 1 (tree (8 ∷ 0xff ∷ 0xff ∷ 0xff ∷ 0xff ∷ 0xff ∷ 0xff ∷ 0xff ∷ 0xff ∷ 0xff ∷ 1 ∷ [])) ≡ 4294967295 ∷ 1 ∷ 0 ∷ 0 ∷ []
unfolding error_words tree parts_with field_parts inner_part dictionary error_count attribute_count fields_in whole_in wire_type whole_field whole_payload payload_stop payload_content payload_value size_in value_in latest
minus_one = refl

-- 80 80 80 80 10: a tag of 2 ^ 32; f8 ff ff ff 0f 00: an unknown field
large_tag : reading (0x80 ∷ 0x80 ∷ 0x80 ∷ 0x80 ∷ 0x10 ∷ []) 4 0 ≡ refuse 22 (0 ∷ [])
unfolding reading room_order check_fields check_entry check_field check_inner tree parts_with field_parts inner_part dictionary error_count attribute_count fields_in whole_in wire_type whole_field whole_payload payload_stop payload_content payload_value size_in value_in latest
large_tag = refl

unknown : reading (0xf8 ∷ 0xff ∷ 0xff ∷ 0xff ∷ 0x0f ∷ 0 ∷ []) 4 0 ≡ accepted 0 (1 ∷ 0 ∷ [])
unfolding reading room_order check_fields check_entry check_field check_inner tree parts_with field_parts inner_part dictionary error_count attribute_count fields_in whole_in wire_type whole_field whole_payload payload_stop payload_content payload_value size_in value_in latest
unknown = refl
